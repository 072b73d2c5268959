-- Texts that a checksum makes of a human-readable part and elements, and why a text is none.
use Rattle.std.specs.Prelude.{◌≡◌, ◌≤◌, ◌⊎◌, ℕ, true, nat_lt, List, length, map, Some, Result}
use Rattle.std.specs.Prelude.{IfOk, IsOkUnless}
use Rattle.std.specs.Char.{to_ascii_uppercase}
use Rattle.std.specs.List.{list_all}
use Rattle.bech32_gf.specs.Fe32.{elements_of}
use Rattle.bech32_gf.specs.declared.gf32.Fe32.{Fe32}
use Rattle.bech32_bits.specs.Bits.{to_bytes, to_fes}
use Rattle.bech32_checksum.specs.Code.{Code}
use Rattle.bech32_checksum.specs.Encoded.{IsEncodedText}
use Rattle.bech32_hrp.specs.Hrp.{IsHrp, lowered}
use Rattle.bech32_hrp.specs.HrpBytes.{hrp_bytes}
use Rattle.bech32_hrp.specs.declared.Hrp.{Hrp}
use Rattle.bech32_decode.specs.Acceptance.{IsAccepted}
use Rattle.bech32_decode.specs.BeforeChecksum.{IsBeforeChecksum}
use Rattle.bech32_decode.specs.Checked.{IsRefusedByChecksum}
use Rattle.bech32_decode.specs.SegwitPadding.{IsPadded, IsPaddingRefusal}
use Rattle.bech32_decode.specs.Text.{HasHrp, text_refusal}
use Rattle.bech32_refusals.specs.declared.error.PaddingError.{PaddingError}
use Rattle.bech32_refusals.specs.declared.texts.TextError.{TextError}
use Rattle.bech32_refusals.specs.declared.texts.TextError.TheVariants.{
  Parse,
  Checksum,
  Padding,
  Memory,
}

-- the text of a human-readable part, elements and their checksum, in lower case throughout or in
-- upper case throughout, where it is not longer than the code
pub record IsSpelling (code : Code) (hrp : List ℕ)
    (elements : List Fe32) (text : List ℕ) : Type 0 where
  pub lower : List ℕ
  pub encoded : IsEncodedText code hrp elements lower
  pub in_one_case : (text ≡ lower) ⊎ (text ≡ map to_ascii_uppercase lower)
  pub fits : length text ≤ code.code_length

-- each such text of the same part, in either case, and the same elements is this text but for its
-- case
abbrev pub IsOnlySpelling : Code → List ℕ → List Fe32 → List ℕ → Type 0
IsOnlySpelling code hrp elements text =
    (h : List ℕ) → (t : List ℕ) → lowered h ≡ lowered hrp → IsSpelling code h elements t
    → lowered t ≡ lowered text

-- the text has this human-readable part, in the case of the text, and is the only spelling of it
-- and these elements
pub record IsSpelledBy (code : Code) (text hrp : List ℕ) (elements : List Fe32) : Type 0 where
  pub has_part : HasHrp text hrp
  pub spelling : IsSpelling code hrp elements text
  pub only : IsOnlySpelling code hrp elements text

-- the text has the human-readable part that was decoded, in the case of the text, and is the only
-- spelling of it and of the elements of what else was decoded
abbrev pub IsOnlyTextOf : {V : Type 0} → (V → List Fe32) → Code → List ℕ → Hrp × V → Type 0
IsOnlyTextOf elements code text d = IsSpelledBy code text (hrp_bytes d.0) (elements d.1)

-- the checksum accepts the text with this human-readable part, the bits behind the last whole byte
-- of the elements before it are at most four zeros, and these are the bytes
pub record IsPaddedText (code : Code) (text hrp bytes : List ℕ) : Type 0 where
  pub data_part : List ℕ
  pub accepted : IsAccepted code text hrp data_part
  pub characters : List ℕ
  pub before : IsBeforeChecksum code data_part characters
  pub padded : IsPadded (elements_of characters)
  pub bytes_are : bytes ≡ to_bytes (elements_of characters)

-- the text spells the elements of bytes
abbrev pub SpellsBytes : Code → List ℕ → Type 0
SpellsBytes code text =
    (hrp : List ℕ) × (bytes : List ℕ) × IsHrp hrp × IsSpelling code hrp (to_fes bytes) text

-- the checksum accepts the text, and the bits behind the last whole byte of the elements before it
-- are refused
pub record IsOfWrongPadding (code : Code) (text : List ℕ) (e : PaddingError) : Type 0 where
  pub hrp : List ℕ
  pub data_part : List ℕ
  pub accepted : IsAccepted code text hrp data_part
  pub characters : List ℕ
  pub before : IsBeforeChecksum code data_part characters
  pub refusal : IsPaddingRefusal (elements_of characters) e

-- why a text is not decoded to bytes that it is the only spelling of: the first fault, or out of
-- memory where it is
abbrev pub IsStrictRefusal : Code → List ℕ → TextError → Type 0
IsStrictRefusal code text (Parse e) = text_refusal text ≡ Some e
IsStrictRefusal code text (Checksum e) = IsRefusedByChecksum code text e
IsStrictRefusal code text (Padding e) = IsOfWrongPadding code text e
IsStrictRefusal code text Memory = SpellsBytes code text

-- of a text that spells the elements of bytes the outcome is its human-readable part, in whichever
-- case, and these bytes, unless out of memory
abbrev pub GivesBytesBack : {V : Type 0} → (V → List ℕ) → Code → List ℕ
    → Result (Hrp × V) TextError → Type 0
GivesBytesBack items code text outcome =
    (hrp : List ℕ) → (bytes : List ℕ) → IsHrp hrp → list_all (λ b. nat_lt b 256) bytes ≡ true
    → IsSpelling code hrp (to_fes bytes) text
    → IsOkUnless outcome Memory
    × IfOk outcome (λ d. (lowered (hrp_bytes d.0) ≡ lowered hrp) × (items d.1 ≡ bytes))
