-- What is told of a codex32 string, and why a text is none.
use Rattle.std.specs.Prelude.{◌≡◌, ◌+◌, ℕ, List, length}
use Rattle.std.specs.Str.{IsUtf8}
use Rattle.codex32.specs.Strings.{IsString, IsStringRefusal}
use Rattle.codex32_calls.specs.declared.refusal.Refusal.{Refusal}
use Rattle.codex32_calls.specs.declared.refusal.Refusal.TheVariants.{NotUtf8, Text}

-- The text is a codex32 string whose threshold is the digit of this number, of this share index and
-- with a payload of this length. Its human-readable part has two characters, so its parts stand
-- where `IsString` has them.
pub record IsParsedString (text : List ℕ) (threshold share_index payload_length : ℕ) : Type 0 where
  pub hrp : List ℕ
  pub identifier : List ℕ
  pub payload : List ℕ
  pub checksum : List ℕ
  pub is_string : IsString text hrp (threshold + 48) identifier share_index payload checksum
  pub payload_length_is : payload_length ≡ length payload

-- why bytes are not a codex32 string: they are not a text, or the text's first fault
abbrev pub IsParseFault : List ℕ → Refusal → Type 0
IsParseFault text NotUtf8 = ¬ (IsUtf8 text)
IsParseFault text (Text e) = IsUtf8 text × IsStringRefusal text e
IsParseFault text _ = ⊥
