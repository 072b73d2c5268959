-- What bytes that are not read are refused with.
use Rattle.std.proofs.Common.{ℕ, List}
use Rattle.bech32_decode.specs.Bytes.{IsBytesFault}
use Rattle.bech32_decode.specs.declared.bytes.BytesError.{BytesError}
use Rattle.bech32_decode.specs.declared.bytes.BytesError.TheVariants.{NotUtf8, Text}
use Rattle.bech32_calls.specs.Faults.{IsTextFault, refusal_of_bytes}

pub unread : (bytes : List ℕ) (e : BytesError) → IsBytesFault bytes e → IsTextFault bytes (refusal_of_bytes e)
unread bytes NotUtf8 h = h
unread bytes (Text e) h = h
