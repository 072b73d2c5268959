-- The checksums of codex32 (BIP-93, Checksum and Long codex32 Strings).
use Rattle.std.specs.Prelude.{ℕ, nat_le, if◌then◌else◌, [], ◌∷◌, map}
use Rattle.bech32_gf.specs.Fe32.{element}
use Rattle.bech32_checksum.specs.Code.{Code}

-- the fewest characters of a string (BIP-93, codex32)
abbrev pub min_length : ℕ
min_length = 48

-- the most characters of a string (BIP-93, codex32)
abbrev pub max_length : ℕ
max_length = 93

-- the fewest characters of a long string (BIP-93, Long codex32 Strings)
abbrev pub min_long_length : ℕ
min_long_length = 125

-- the most characters of a long string (BIP-93, Long codex32 Strings)
abbrev pub max_long_length : ℕ
max_long_length = 127

-- The generator x^13 + 25 x^12 + 27 x^11 + 17 x^10 + 8 x^9 + 25 x^7 + 25 x^6 + 25 x^5 + 31 x^4 + 27
-- x^3 + 24 x^2 + 16 x + 16, and the target whose characters from the highest are `secretshare32`. A
-- text has at most max_length characters, within which the roots locate errors.
abbrev pub codex32 : Code
codex32 = record {
  generator = map element (16 ∷ 16 ∷ 24 ∷ 27 ∷ 31 ∷ 25 ∷ 25 ∷ 25 ∷ 0 ∷ 8 ∷ 17 ∷ 27 ∷ 25 ∷ []);
  target = map element (10 ∷ 17 ∷ 25 ∷ 3 ∷ 29 ∷ 23 ∷ 16 ∷ 11 ∷ 25 ∷ 3 ∷ 24 ∷ 25 ∷ 16 ∷ []);
  code_length = max_length;
}

-- Of long strings, the generator x^15 + 15 x^14 + 10 x^13 + 25 x^12 + 26 x^11 + 9 x^10 + 25 x^9 +
-- 21 x^8 + 6 x^7 + 23 x^6 + 21 x^5 + 6 x^4 + 5 x^3 + 22 x^2 + 4 x + 23, and the target whose
-- characters from the highest are `secretshare32ex`. The roots locate errors within 1,023
-- characters.
abbrev pub long_codex32 : Code
long_codex32 = record {
  generator = map element
      (23 ∷ 4 ∷ 22 ∷ 5 ∷ 6 ∷ 21 ∷ 23 ∷ 6 ∷ 21 ∷ 25 ∷ 9 ∷ 26 ∷ 25 ∷ 10 ∷ 15 ∷ []);
  target = map element
      (6 ∷ 25 ∷ 10 ∷ 17 ∷ 25 ∷ 3 ∷ 29 ∷ 23 ∷ 16 ∷ 11 ∷ 25 ∷ 3 ∷ 24 ∷ 25 ∷ 16 ∷ []);
  code_length = 1023;
}

-- the checksum of a string of this many characters: that of 13, or that of 15 for a long one
abbrev pub code_of_length : ℕ → Code
code_of_length n = if nat_le n max_length then codex32 else long_codex32
