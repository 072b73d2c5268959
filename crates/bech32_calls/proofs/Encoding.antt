-- Nothing is wrong where there is a text and room for it.
use Rattle.std.proofs.Common.{◌<◌, ◌≤◌, ℕ, List, inl, inr, arith}
use Rattle.bech32_bits.specs.Bits.{to_fes}
use Rattle.bech32_checksum.specs.Code.{Code}
use Rattle.bech32_encode.specs.TextLength.{encoded_length_of}
use Rattle.bech32_calls.specs.Encode.{HasText, IsLengthFault, IsEncodeFault}
use Rattle.bech32_calls.specs.declared.refusal.Refusal.{Refusal}
use Rattle.bech32_calls.specs.declared.refusal.Refusal.TheVariants.{TooLong, NoRoom}
use Rattle.bech32_calls.proofs.Letters.{no_part_fault}

no_text_fault : (code : Code) (hrp bytes : List ℕ) (room : ℕ) (e : Refusal) → HasText code hrp bytes room → IsLengthFault code hrp bytes room e → ⊥
no_text_fault code hrp bytes room (TooLong e) t h =
    let over : code.code_length < encoded_length_of code hrp (to_fes bytes) = h.0 in
    let fits : encoded_length_of code hrp (to_fes bytes) ≤ code.code_length = t.fits in
    absurd (omega arith)
no_text_fault code hrp bytes room NoRoom t h =
    let over : room < encoded_length_of code hrp (to_fes bytes) = h.1 in
    let has_room : encoded_length_of code hrp (to_fes bytes) ≤ room = t.has_room in
    absurd (omega arith)
no_text_fault code hrp bytes room _ t h = h

pub no_encode_fault : (hrp bytes : List ℕ) (room : ℕ) (code : Code) (e : Refusal) → HasText code hrp bytes room → IsEncodeFault hrp bytes room code e → ⊥
no_encode_fault hrp bytes room code e t (inl h) = no_part_fault hrp e t.is_hrp h
no_encode_fault hrp bytes room code e t (inr h) = no_text_fault code hrp bytes room e t h.1
