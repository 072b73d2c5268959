-- The parts that a codex32 string keeps.
use Rattle.std.specs.Prelude.{ℕ, List}
use Rattle.codex32.specs.Strings.{IsString}
use Rattle.codex32.specs.declared.string.Codex32Str.{Codex32Str}

abbrev pub threshold_of : Codex32Str → ℕ
threshold_of s = s.threshold

abbrev pub identifier_of : Codex32Str → List ℕ
identifier_of s = s.identifier.now

abbrev pub share_index_of : Codex32Str → ℕ
share_index_of s = s.share_index

abbrev pub payload_of : Codex32Str → List ℕ
payload_of s = s.payload.now

-- the text is a codex32 string of these parts, which are its own characters
pub record IsStringOf (text : List ℕ) (s : Codex32Str) : Type 0 where
  pub hrp : List ℕ
  pub checksum : List ℕ
  pub is_string : IsString text hrp (threshold_of s)
      (identifier_of s) (share_index_of s) (payload_of s) checksum
