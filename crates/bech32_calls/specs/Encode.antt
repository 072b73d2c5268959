-- Texts put into a buffer, and why there is none.
use Rattle.std.specs.Prelude.{◌<◌, ◌≤◌, ◌⊎◌, ℕ, List}
use Rattle.bech32_bits.specs.Bits.{to_fes}
use Rattle.bech32_checksum.specs.Code.{Code}
use Rattle.bech32_checksum.specs.Encoded.{IsEncodedText}
use Rattle.bech32_hrp.specs.Hrp.{IsHrp}
use Rattle.bech32_encode.specs.TextLength.{encoded_length_of}
use Rattle.bech32.specs.Refusals.{IsEncodeRefusal}
use Rattle.bech32_refusals.specs.declared.texts.EncodeError.TheVariants.{TooLong as TextTooLong}
use Rattle.bech32_encode.specs.Buffers.{IsPut}
use Rattle.bech32_calls.specs.Faults.{IsPartFault}
use Rattle.bech32_calls.specs.declared.refusal.Refusal.{Refusal}
use Rattle.bech32_calls.specs.declared.refusal.Refusal.TheVariants.{TooLong, NoRoom}

-- the text of a human-readable part and bytes is put into a buffer
pub record PutsText (code : Code) (hrp bytes old new : List ℕ) (count : ℕ) : Type 0 where
  pub text : List ℕ
  pub is_hrp : IsHrp hrp
  pub is_text : IsEncodedText code hrp (to_fes bytes) text
  pub fits : encoded_length_of code hrp (to_fes bytes) ≤ code.code_length
  pub put : IsPut text old new count

-- there is such a text, and a buffer of this many bytes has room for it
pub record HasText (code : Code) (hrp bytes : List ℕ) (room : ℕ) : Type 0 where
  pub is_hrp : IsHrp hrp
  pub fits : encoded_length_of code hrp (to_fes bytes) ≤ code.code_length
  pub has_room : encoded_length_of code hrp (to_fes bytes) ≤ room

-- why the text of a human-readable part and bytes is not put into a buffer of this many bytes: it
-- is longer than the code, or than the buffer
abbrev pub IsLengthFault : Code → List ℕ → List ℕ → ℕ → Refusal → Type 0
IsLengthFault code hrp bytes room (TooLong e) =
    IsEncodeRefusal code hrp (to_fes bytes) (TextTooLong e)
IsLengthFault code hrp bytes room NoRoom =
    (encoded_length_of code hrp (to_fes bytes) ≤ code.code_length)
    × (room < encoded_length_of code hrp (to_fes bytes))
IsLengthFault code hrp bytes room _ = ⊥

-- the same of bytes that may be no human-readable part, which is refused first
abbrev pub IsEncodeFault : List ℕ → List ℕ → ℕ → Code → Refusal → Type 0
IsEncodeFault hrp bytes room code e =
    IsPartFault hrp e ⊎ (IsHrp hrp × IsLengthFault code hrp bytes room e)
