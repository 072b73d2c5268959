-- Nothing is wrong with a text that a checksum accepts.
use Rattle.std.proofs.Common.{ℕ, List, Err, length, IsOk}
use Rattle.std.specs.Str.{IsUtf8}
use Rattle.bech32_checksum.specs.Code.{Code}
use Rattle.bech32_decode.specs.Acceptance.{Accepts}
use Rattle.bech32_decode.specs.Checked.{IsCheckedRefusal}
use Rattle.bech32_decode.specs.Refusals.{IsChecksumRefusal}
use Rattle.bech32_decode.specs.Text.{IsText}
use Rattle.bech32_decode.specs.declared.checked.CheckedHrpstring.{CheckedHrpstring}
use Rattle.bech32_refusals.specs.declared.error.CheckedHrpstringError.{CheckedHrpstringError}
use Rattle.bech32_refusals.specs.declared.error.CheckedHrpstringError.TheVariants.{Parse, Checksum as NotAccepted}
use Rattle.bech32_refusals.specs.declared.error.ChecksumError.{ChecksumError}
use Rattle.bech32_decode.proofs.Decoding.{accepted-from_checked}
use Rattle.bech32_calls.specs.Check.{IsCheckFault}
use Rattle.bech32_calls.specs.Faults.{IsTextFault}
use Rattle.bech32_calls.specs.declared.refusal.Refusal.{Refusal}
use Rattle.bech32_calls.specs.declared.refusal.Refusal.TheVariants.{NotUtf8, Text, Checksum}
use Rattle.bech32_calls.proofs.Letters.{IsUtf8-from_text}

no_refusal : (code : Code) (text : List ℕ) (e : CheckedHrpstringError) → IsUtf8 text → Accepts code text → IsCheckedRefusal code text e → ⊥
no_refusal code text e u a h =
    let ok : IsOk {T = CheckedHrpstring} (Err e) = (accepted-from_checked code text u (Err e) h).1 a in absurd (cc)

pub no_check_fault : (text : List ℕ) (code : Code) (e : Refusal) → Accepts code text → IsCheckFault text code e → ⊥
no_check_fault text code NotUtf8 a h = h (IsUtf8-from_text text a.0 a.1 a.2.grammar)
no_check_fault text code (Text e) a h = no_refusal code text (Parse e) h.0 a h.1
no_check_fault text code (Checksum e) a h = no_refusal code text (NotAccepted e) h.0 a h.1
no_check_fault text code _ a h = h

-- why a checksum does not accept a text of the grammar
pub refused_there : (text hrp data_part : List ℕ) (code : Code) (e : ChecksumError) → IsText text hrp data_part → IsChecksumRefusal code (length text) hrp data_part e
    → IsCheckFault text code (Checksum e)
refused_there text hrp data_part code e is refusal =
    (IsUtf8-from_text text hrp data_part is, record { hrp = hrp; data_part = data_part; grammar = is; refusal = refusal })

-- why a text is not read is why a checksum does not accept it
pub unread_check : (text : List ℕ) (code : Code) (e : Refusal) → IsTextFault text e → IsCheckFault text code e
unread_check text code NotUtf8 h = h
unread_check text code (Text e) h = h
unread_check text code _ h = absurd h
