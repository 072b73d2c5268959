-- What is said of the content of a text: its bytes, or its elements.
use Rattle.std.specs.Prelude.{ℕ, List}
use Rattle.bech32_bits.specs.Bits.{to_fes}
use Rattle.bech32_checksum.specs.Code.{Code}
use Rattle.bech32.specs.Elements.{AreValues, IsElementsDecodeRefusal, elements_in}
use Rattle.bech32.specs.Spelling.{IsSpelledBy, IsStrictRefusal}
use Rattle.bech32_refusals.specs.declared.texts.TextError.{TextError}
use Rattle.b32_replies.specs.Reply.{IsElementsAnswer, IsStrictAnswer}
use Rattle.b32_replies.specs.declared.content.Content.{Content}
use Rattle.b32_replies.specs.declared.content.Content.TheVariants.{Bytes, Elements}

-- the text has this human-readable part, and is the only one of it and this content
abbrev pub IsDecodedTo : Content → Code → List ℕ → List ℕ → List ℕ → Type 0
IsDecodedTo Bytes code text hrp items = IsSpelledBy code text hrp (to_fes items)
IsDecodedTo Elements code text hrp items =
    IsSpelledBy code text hrp (elements_in items) × AreValues items

-- why it is not decoded
abbrev pub IsDecodeByRefusal : Content → Code → List ℕ → TextError → Type 0
IsDecodeByRefusal Bytes code text e = IsStrictRefusal code text e
IsDecodeByRefusal Elements code text e = IsElementsDecodeRefusal code text e

-- the answer to `decode-strict` or to `decode-elements`
abbrev pub IsDecodeByAnswer : Content → Code → List ℕ → List ℕ → Type 0
IsDecodeByAnswer Bytes code text said = IsStrictAnswer code text said
IsDecodeByAnswer Elements code text said = IsElementsAnswer code text said
