-- Letters of either case among the characters of a data part. A character that is not of the
-- alphabet counts as a letter of both cases.
use Rattle.std.specs.Prelude.{ℕ, ◌+◌, if◌then◌else◌, List, [], ◌∷◌}
use Rattle.bech32_gf.specs.Alphabet.{is_of_alphabet}
use Rattle.bech32_hrp.specs.Hrp.{is_lower, is_upper}

-- 1 for a small letter of the alphabet and for a character that is not of the alphabet, else 0
abbrev pub counts_as_lower : ℕ → ℕ
counts_as_lower c = if is_of_alphabet c then (if is_lower c then 1 else 0) else 1

-- 1 for a capital letter of the alphabet and for a character that is not of the alphabet, else 0
abbrev pub counts_as_upper : ℕ → ℕ
counts_as_upper c = if is_of_alphabet c then (if is_upper c then 1 else 0) else 1

-- how many of some characters count as small letters
abbrev pub lower_count : List ℕ → ℕ
lower_count [] = 0
lower_count (c ∷ cs) = counts_as_lower c + lower_count cs

-- how many of some characters count as capital letters
abbrev pub upper_count : List ℕ → ℕ
upper_count [] = 0
upper_count (c ∷ cs) = counts_as_upper c + upper_count cs
