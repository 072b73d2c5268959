-- What is wrong with what a call is given.
use Rattle.std.specs.Prelude.{◌≡◌, ℕ, List, Some}
use Rattle.std.specs.Str.{IsUtf8}
use Rattle.bech32_hrp.specs.Hrp.{hrp_refusal}
use Rattle.bech32_decode.specs.Text.{text_refusal}
use Rattle.bech32_decode.specs.declared.bytes.BytesError.{BytesError}
use Rattle.bech32_decode.specs.declared.bytes.BytesError.TheVariants.{
  NotUtf8 as NoText,
  Text as Fault,
}
use Rattle.bech32_numbers.specs.Refused.{IsNumberBy}
use Rattle.bech32_calls.specs.Numbers.{number_of}
use Rattle.bech32_calls.specs.declared.refusal.Refusal.{Refusal}
use Rattle.bech32_calls.specs.declared.refusal.Refusal.TheVariants.{NotUtf8, Hrp, Text}

-- the number is that of a refusal, of which P holds
abbrev pub IsNumberOf : (Refusal → Type 0) → ℕ → Type 0
IsNumberOf P n = IsNumberBy number_of P n

-- why bytes are not a human-readable part: they are not a text, or the first fault of the text
abbrev pub IsPartFault : List ℕ → Refusal → Type 0
IsPartFault bytes NotUtf8 = ¬ (IsUtf8 bytes)
IsPartFault bytes (Hrp e) = IsUtf8 bytes × (hrp_refusal bytes ≡ Some e)
IsPartFault bytes _ = ⊥

-- why bytes are not read: they are not a text, or the first fault of the text
abbrev pub IsTextFault : List ℕ → Refusal → Type 0
IsTextFault bytes NotUtf8 = ¬ (IsUtf8 bytes)
IsTextFault bytes (Text e) = IsUtf8 bytes × (text_refusal bytes ≡ Some e)
IsTextFault bytes _ = ⊥

-- the refusal of bytes that are not read
abbrev pub refusal_of_bytes : BytesError → Refusal
refusal_of_bytes NoText = NotUtf8
refusal_of_bytes (Fault e) = Text e
