-- What the iterators over a human-readable part have still to give, from the front.
use Rattle.std.specs.Prelude.{ℕ, List}
use Rattle.bech32_hrp.specs.declared.iter.ByteIter.{ByteIter}
use Rattle.bech32_hrp.specs.declared.iter.CharIter.{CharIter}
use Rattle.bech32_hrp.specs.declared.lowercase.LowercaseByteIter.{LowercaseByteIter}
use Rattle.bech32_hrp.specs.declared.lowercase.LowercaseCharIter.{LowercaseCharIter}
use Rattle.bech32_hrp.specs.Hrp.{lowered}

-- the bytes that are to come
abbrev pub hrp_bytes_to_come : ByteIter → List ℕ
hrp_bytes_to_come s = s.rest.now

-- the characters that are to come
abbrev pub chars_to_come : CharIter → List ℕ
chars_to_come s = hrp_bytes_to_come s.bytes

-- the bytes that are to come, in lower case
abbrev pub lower_bytes_to_come : LowercaseByteIter → List ℕ
lower_bytes_to_come s = lowered (hrp_bytes_to_come s.iter)

-- the characters that are to come, in lower case
abbrev pub lower_chars_to_come : LowercaseCharIter → List ℕ
lower_chars_to_come s = lower_bytes_to_come s.bytes
