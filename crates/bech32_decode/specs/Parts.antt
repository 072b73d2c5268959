-- The parts of a text, as its readers keep them.
use Rattle.std.specs.Prelude.{ℕ, List}
use Rattle.bech32_gf.specs.Fe32.{elements_of}
use Rattle.bech32_gf.specs.declared.gf32.Fe32.{Fe32}
use Rattle.bech32_bits.specs.Bits.{to_bytes}
use Rattle.bech32_hrp.specs.HrpBytes.{hrp_bytes}
use Rattle.bech32_hrp.specs.declared.Hrp.{Hrp}
use Rattle.bech32_decode.specs.declared.address.SegwitHrpstring.{SegwitHrpstring}
use Rattle.bech32_decode.specs.declared.checked.CheckedHrpstring.{CheckedHrpstring}
use Rattle.bech32_decode.specs.declared.unchecked.UncheckedHrpstring.{UncheckedHrpstring}

-- ---- of a text whose checksum was not tested

-- its human-readable part
abbrev pub unchecked_hrp : UncheckedHrpstring → Hrp
unchecked_hrp u = u.hrp

-- the bytes of that part, in the case of the text
abbrev pub unchecked_part : UncheckedHrpstring → List ℕ
unchecked_part u = hrp_bytes u.hrp

-- the characters of its data part, with those of the checksum
abbrev pub unchecked_data : UncheckedHrpstring → List ℕ
unchecked_data u = u.data_part_ascii.now

-- the length of the whole text
abbrev pub unchecked_length : UncheckedHrpstring → ℕ
unchecked_length u = u.hrpstring_length

-- ---- of a text whose checksum was taken off

-- its human-readable part
abbrev pub checked_hrp : CheckedHrpstring → Hrp
checked_hrp c = c.hrp

-- the bytes of that part, in the case of the text
abbrev pub checked_part : CheckedHrpstring → List ℕ
checked_part c = hrp_bytes c.hrp

-- the characters of its data part before the checksum
abbrev pub checked_data : CheckedHrpstring → List ℕ
checked_data c = c.ascii.now

-- the bytes of these
abbrev pub checked_bytes : CheckedHrpstring → List ℕ
checked_bytes c = to_bytes (elements_of c.ascii.now)

-- the length of the whole text
abbrev pub checked_length : CheckedHrpstring → ℕ
checked_length c = c.hrpstring_length

-- ---- of a segwit address

-- its human-readable part
abbrev pub address_hrp : SegwitHrpstring → Hrp
address_hrp a = a.hrp

-- the bytes of that part, in the case of the text
abbrev pub address_part : SegwitHrpstring → List ℕ
address_part a = hrp_bytes a.hrp

-- its witness version
abbrev pub address_version : SegwitHrpstring → Fe32
address_version a = a.witness_version

-- the characters of its data part between the version and the checksum
abbrev pub address_data : SegwitHrpstring → List ℕ
address_data a = a.ascii.now

-- its program: the bytes of these
abbrev pub address_program : SegwitHrpstring → List ℕ
address_program a = to_bytes (elements_of a.ascii.now)
