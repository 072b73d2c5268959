-- What is done to a typed text, in lower case, so that it becomes another, and where.
use Rattle.std.specs.Prelude.{◌==◌, ◌&&◌, ℕ, suc, if◌then◌else◌, nat_lt, Bool, false}
use Rattle.std.specs.Prelude.{List, [], ◌∷◌, length, drop}
use Rattle.bech32_suggest.specs.declared.mendings.Mending.{Mending}
use Rattle.bech32_suggest.specs.declared.mendings.Mending.TheVariants.{LeftOut, PutIn, Replaced}
use Rattle.bech32_suggest.specs.declared.mendings.Mending.TheVariants.{Swapped, Unchanged}

-- at how many places from the front on two texts are the same: the first place at which they
-- differ, or at which one of them ends
abbrev pub common_length : List ℕ → List ℕ → ℕ
common_length [] ys = 0
common_length (x ∷ xs) [] = 0
common_length (x ∷ xs) (y ∷ ys) = if x == y then suc (common_length xs ys) else 0

-- the first two characters are swapped, and all others are the same
abbrev pub begin_swapped : List ℕ → List ℕ → Bool
begin_swapped (x ∷ y ∷ xs) (v ∷ w ∷ ys) =
    (x == w) && ((y == v) && (common_length xs ys == length xs))
begin_swapped _ _ = false

-- what is done to a text so that it becomes another of the same length, where these are what stands
-- behind their common front
abbrev pub mending_behind : List ℕ → List ℕ → Mending
mending_behind [] ys = Unchanged
mending_behind (x ∷ xs) ys = if begin_swapped (x ∷ xs) ys then Swapped else Replaced

-- what is done to a typed text so that it becomes another
abbrev pub mending_of : List ℕ → List ℕ → Mending
mending_of typed text =
    if nat_lt (length text) (length typed) then LeftOut
    else (if nat_lt (length typed) (length text) then PutIn
    else mending_behind (drop (common_length typed text) typed)
    (drop (common_length typed text) text))
