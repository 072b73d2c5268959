-- Why bytes are not read as a text.
use Rattle.std.specs.Prelude.{◌≡◌, ℕ, List, Some}
use Rattle.std.specs.Str.{IsUtf8}
use Rattle.bech32_decode.specs.Text.{text_refusal}
use Rattle.bech32_decode.specs.declared.bytes.BytesError.{BytesError}
use Rattle.bech32_decode.specs.declared.bytes.BytesError.TheVariants.{NotUtf8, Text}

-- the bytes are not UTF-8, or the first fault of their text
abbrev pub IsBytesFault : List ℕ → BytesError → Type 0
IsBytesFault bytes NotUtf8 = ¬ (IsUtf8 bytes)
IsBytesFault bytes (Text e) = IsUtf8 bytes × (text_refusal bytes ≡ Some e)
