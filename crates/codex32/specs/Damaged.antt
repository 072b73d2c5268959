-- A damaged text, as it is read.
use Rattle.std.specs.Prelude.{◌≡◌, ◌==◌, ◌||◌, if◌then◌else◌}
use Rattle.std.specs.Prelude.{ℕ, List, [], ◌∷◌, ◌++◌, map, length, Option, None, Some}
use Rattle.std.specs.Prelude.{MatchResult, Result}
use Rattle.bech32_gf.specs.Fe32.{element_of}
use Rattle.bech32_gf.specs.declared.gf32.Fe32.{Fe32}
use Rattle.bech32_detect.specs.Distance.{same_element}
use Rattle.bech32_decode.specs.Text.{IsText, split_at_last}
use Rattle.codex32.specs.declared.error.Codex32Error.{Codex32Error}

-- a character as it is read: `?`, which is unreadable, as `0`
abbrev pub read_character : ℕ → ℕ
read_character c = if c == 63 then 48 else c

-- the characters of a data part as they are read
abbrev pub read_data : List ℕ → List ℕ
read_data damaged = map read_character damaged

abbrev pub with_data_read : List ℕ → Option (List ℕ × List ℕ) → List ℕ
with_data_read text None = text
with_data_read text (Some p) = p.0 ++ (49 ∷ read_data p.1)

-- the text as it is read: each `?` behind the last `1` as `0`
abbrev pub read_text : List ℕ → List ℕ
read_text text = with_data_read text (split_at_last text)

-- the locations of the unreadable characters, of which 0 is the last
abbrev pub unreadable : List ℕ → List ℕ
unreadable [] = []
unreadable (c ∷ cs) = if c == 63 then length cs ∷ unreadable cs else unreadable cs

-- the locations of the other characters, where they are not those of the elements
abbrev pub changed : List ℕ → List Fe32 → List ℕ
changed [] xs = []
changed (c ∷ cs) [] = []
changed (c ∷ cs) (x ∷ xs) =
    if c == 63 || same_element (element_of c) x then changed cs xs else length cs ∷ changed cs xs

-- a test of a text ends well where nothing is wrong with it, and else with what is
abbrev pub IsTestedBy : {A : Type 0} → Option Codex32Error → Result A Codex32Error → Type 0
IsTestedBy fault result = MatchResult result (λ _. fault ≡ None) (λ e. fault ≡ Some e)

-- ---- on the way

-- what stands before and after the last `1`, where the text is in the grammar as it is read
pub record AreParts (text hrp damaged : List ℕ) : Type 0 where
  pub split : text ≡ hrp ++ (49 ∷ damaged)
  pub cut : split_at_last text ≡ Some (hrp, damaged)
  pub grammar : IsText (read_text text) hrp (read_data damaged)
