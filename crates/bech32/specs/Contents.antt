-- What a text is decoded to: its bytes, or its elements.
use Rattle.std.specs.Prelude.{ℕ, List, map}
use Rattle.bech32_bits.specs.Bits.{to_bytes}
use Rattle.bech32_gf.specs.Fe32.{elements_of, value}
use Rattle.bech32_gf.specs.declared.gf32.Fe32.{Fe32}
use Rattle.bech32_checksum.specs.Code.{Code}
use Rattle.bech32_decode.specs.SegwitPadding.{IsPadded}
use Rattle.bech32.specs.Elements.{IsElementsDecodeRefusal, IsInElements}
use Rattle.bech32.specs.Spelling.{IsPaddedText, IsStrictRefusal}
use Rattle.bech32.specs.declared.content.Content.{Content}
use Rattle.bech32.specs.declared.content.Content.TheVariants.{Bytes, Elements}
use Rattle.bech32_refusals.specs.declared.texts.TextError.{TextError}

-- the bytes or the elements of characters
abbrev pub content_of : Content → List ℕ → List ℕ
content_of Bytes characters = to_bytes (elements_of characters)
content_of Elements characters = map value (elements_of characters)

-- elements whose padding is that of bytes, where they stand for bytes
abbrev pub IsTested : Content → List Fe32 → Type 0
IsTested Bytes fes = IsPadded fes
IsTested Elements fes = Unit {0}

-- the checksum accepts the text with this human-readable part and this content
abbrev pub IsContentOf : Content → Code → List ℕ → List ℕ → List ℕ → Type 0
IsContentOf Bytes code text hrp items = IsPaddedText code text hrp items
IsContentOf Elements code text hrp items = IsInElements code text hrp items

-- why the content of a text is not decoded
abbrev pub IsContentRefusal : Content → Code → List ℕ → TextError → Type 0
IsContentRefusal Bytes code text e = IsStrictRefusal code text e
IsContentRefusal Elements code text e = IsElementsDecodeRefusal code text e
