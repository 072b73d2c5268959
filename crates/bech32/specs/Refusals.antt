-- Why a text is not decoded or not written.
use Rattle.std.specs.Prelude.{◌≡◌, ◌<◌, ◌≤◌, ℕ, List, Some}
use Rattle.bech32_gf.specs.declared.gf32.Fe32.{Fe32}
use Rattle.bech32_checksum.specs.Code.{Code}
use Rattle.bech32_decode.specs.Text.{text_refusal}
use Rattle.bech32_decode.specs.Acceptance.{IsAcceptedByEither}
use Rattle.bech32_decode.specs.Refusals.{IsRefusedByBoth}
use Rattle.bech32_encode.specs.TextLength.{encoded_length_of}
use Rattle.bech32_refusals.specs.declared.texts.DecodeError.{DecodeError}
use Rattle.bech32_refusals.specs.declared.texts.DecodeError.TheVariants.{Parse, Checksum, Memory}
use Rattle.bech32_refusals.specs.declared.texts.EncodeError.{EncodeError}
use Rattle.bech32_refusals.specs.declared.texts.EncodeError.TheVariants.{TooLong, Fmt}
use Rattle.bech32_refusals.specs.declared.texts.EncodeError.TheVariants.{Memory as EncodeMemory}

-- why a text is not decoded: it is not a text, no checksum accepts it, or out of memory where one
-- does
abbrev pub IsDecodeRefusal : List ℕ → DecodeError → Type 0
IsDecodeRefusal text (Parse e) = text_refusal text ≡ Some e
IsDecodeRefusal text (Checksum e) = IsRefusedByBoth text e
IsDecodeRefusal text Memory = IsAcceptedByEither text

-- why the text of a human-readable part and elements is not written: it is too long, or out of
-- memory where it is not
abbrev pub IsEncodeRefusal : Code → List ℕ → List Fe32 → EncodeError → Type 0
IsEncodeRefusal code hrp elements (TooLong e) =
    (code.code_length < encoded_length_of code hrp elements)
    × (e ≡ record {
      encoded_length =
          encoded_length_of code hrp elements;
      code_length = code.code_length;
    })
IsEncodeRefusal code hrp elements (Fmt e) = ⊥
IsEncodeRefusal code hrp elements EncodeMemory =
    encoded_length_of code hrp elements ≤ code.code_length
