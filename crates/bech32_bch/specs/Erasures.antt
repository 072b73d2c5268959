-- Locations that are known to be wrong.
use Rattle.std.specs.Prelude.{◌<◌, ◌==◌, ◌++◌, ℕ, Bool, true, false, cond, List, [], ◌∷◌}
use Rattle.std.specs.List.{AllByRecursion}
use Rattle.bech32_poly.specs.Distinct.{IsOnce}

-- locations below the window, none of them twice
pub record AreErasures (window : ℕ) (erasures : List ℕ) : Type 0 where
  pub once : IsOnce erasures
  pub below : AllByRecursion (λ i. i < window) erasures

-- whether i is one of the list
abbrev pub has : List ℕ → ℕ → Bool
has [] i = false
has (m ∷ ms) i = cond (i == m) true (has ms i)

-- the erasures with further ones behind them, none of them twice
abbrev pub with_erasures : List ℕ → List ℕ → List ℕ
with_erasures s [] = s
with_erasures s (i ∷ more) = with_erasures (cond (has s i) s (s ++ i ∷ [])) more
