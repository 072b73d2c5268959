-- In how many places two lists differ.
use Rattle.std.specs.Prelude.{ℕ, suc, cond, Bool, List, [], ◌∷◌}

-- how many of the places that both lists have hold items that the test does not find the same
abbrev pub places_that_differ : {A : Type 0} → (A → A → Bool) → List A → List A → ℕ
places_that_differ same [] ys = 0
places_that_differ same (x ∷ xs) [] = 0
places_that_differ same (x ∷ xs) (y ∷ ys) =
    cond (same x y) (places_that_differ same xs ys) (suc (places_that_differ same xs ys))
