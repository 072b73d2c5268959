-- Bytes that are refused are in no grammar.
use Rattle.std.proofs.Common.{ℕ, List}
use Rattle.std.specs.Str.{IsUtf8}
use Rattle.std.proofs.lemmas.Str.{IsUtf8-from_ascii}
use Rattle.bech32_correction.proofs.Ascii.{ascii_text}
use Rattle.bech32_decode.specs.Bytes.{IsBytesFault}
use Rattle.bech32_decode.specs.Text.{IsInGrammar}
use Rattle.bech32_decode.specs.declared.bytes.BytesError.{BytesError}
use Rattle.bech32_decode.specs.declared.bytes.BytesError.TheVariants.{NotUtf8, Text}
use Rattle.bech32_decode.proofs.Grammar.{not_in_grammar}
use Rattle.bech32_suggest.specs.Suggestions.{IsAddressUnder}

pub fault_not_in_grammar : (bytes : List ℕ) (e : BytesError) → IsBytesFault bytes e → IsInGrammar bytes → ⊥
fault_not_in_grammar bytes NotUtf8 is g = is (IsUtf8-from_ascii bytes (ascii_text bytes g.0 g.1 g.2))
fault_not_in_grammar bytes (Text e) is g = not_in_grammar bytes e is.0 is.1 g

-- an address is UTF-8
pub utf8_address : (hrp text : List ℕ) → IsAddressUnder hrp text → IsUtf8 text
utf8_address hrp text is = IsUtf8-from_ascii text (ascii_text text is.part is.has_part.0 is.has_part.1)
