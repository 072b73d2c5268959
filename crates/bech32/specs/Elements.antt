-- Elements as numbers from 0 to 31, and their texts.
use Rattle.std.specs.Prelude.{◌≡◌, ◌<◌, ◌≤◌, ℕ, List, All, map, nat_lt}
use Rattle.std.specs.Prelude.{Option, Some, position, Result, IfOk, IsOkUnless}
use Rattle.bech32_gf.specs.Fe32.{element, elements_of, value}
use Rattle.bech32_gf.specs.declared.gf32.Fe32.{Fe32}
use Rattle.bech32_checksum.specs.Code.{Code}
use Rattle.bech32_hrp.specs.Hrp.{IsHrp, lowered}
use Rattle.bech32_hrp.specs.HrpBytes.{hrp_bytes}
use Rattle.bech32_hrp.specs.declared.Hrp.{Hrp}
use Rattle.bech32_decode.specs.Acceptance.{Accepts, IsAccepted}
use Rattle.bech32_decode.specs.BeforeChecksum.{IsBeforeChecksum}
use Rattle.bech32_decode.specs.Checked.{IsRefusedByChecksum}
use Rattle.bech32_decode.specs.Text.{text_refusal}
use Rattle.bech32_encode.specs.TextLength.{encoded_length_of}
use Rattle.bech32.specs.Spelling.{IsSpelling}
use Rattle.bech32_refusals.specs.declared.texts.ElementsError.{ElementsError}
use Rattle.bech32_refusals.specs.declared.texts.ElementsError.TheVariants.{
  TooLong,
  Element,
  Memory as WriteMemory,
}
use Rattle.bech32_refusals.specs.declared.texts.TextError.{TextError}
use Rattle.bech32_refusals.specs.declared.texts.TextError.TheVariants.{
  Parse,
  Checksum,
  Padding,
  Memory,
}

-- the elements of numbers
abbrev pub elements_in : List ℕ → List Fe32
elements_in values = map element values

-- each number is that of an element
abbrev pub AreValues : List ℕ → Type 0
AreValues values = All (λ x. x ≤ 31) values

-- where the first number above 31 stands, counted from 0, if there is one
abbrev pub first_above : List ℕ → Option ℕ
first_above values = position (λ x. nat_lt 31 x) values

-- the checksum accepts the text with this human-readable part, and these are the elements before
-- it
pub record IsInElements (code : Code) (text hrp values : List ℕ) : Type 0 where
  pub data_part : List ℕ
  pub accepted : IsAccepted code text hrp data_part
  pub characters : List ℕ
  pub before : IsBeforeChecksum code data_part characters
  pub values_are : values ≡ map value (elements_of characters)

-- why the elements of a text are not decoded: the first fault, or out of memory where it is
-- accepted
abbrev pub IsElementsDecodeRefusal : Code → List ℕ → TextError → Type 0
IsElementsDecodeRefusal code text (Parse e) = text_refusal text ≡ Some e
IsElementsDecodeRefusal code text (Checksum e) = IsRefusedByChecksum code text e
IsElementsDecodeRefusal code text (Padding e) = ⊥
IsElementsDecodeRefusal code text Memory = Accepts code text

-- of a text that spells elements the outcome is its human-readable part, in whichever case, and
-- these elements, unless out of memory
abbrev pub GivesElementsBack : {V : Type 0} → (V → List ℕ) → Code → List ℕ
    → Result (Hrp × V) TextError → Type 0
GivesElementsBack items code text outcome =
    (hrp : List ℕ) → (values : List ℕ) → IsHrp hrp → AreValues values
    → IsSpelling code hrp (elements_in values) text
    → IsOkUnless outcome Memory
    × IfOk outcome (λ d. (lowered (hrp_bytes d.0) ≡ lowered hrp) × (items d.1 ≡ values))

-- the text of a human-readable part and elements is not longer than the code
abbrev pub Fits : Code → List ℕ → List ℕ → Type 0
Fits code hrp values = encoded_length_of code hrp (elements_in values) ≤ code.code_length

-- why numbers are not encoded as elements: the text is too long, a number is above 31, or out of
-- memory where neither is so
abbrev pub IsElementsEncodeRefusal : Code → List ℕ → List ℕ → ElementsError → Type 0
IsElementsEncodeRefusal code hrp values (TooLong e) =
    (code.code_length < encoded_length_of code hrp (elements_in values))
    × (e ≡ record {
      encoded_length =
          encoded_length_of code hrp (elements_in values);
      code_length = code.code_length;
    })
IsElementsEncodeRefusal code hrp values (Element place) =
    Fits code hrp values × (first_above values ≡ Some place)
IsElementsEncodeRefusal code hrp values WriteMemory = Fits code hrp values × AreValues values
