-- Patterns: values at locations.
use Rattle.std.specs.Prelude.{ℕ, zero, suc, cond, ◌==◌, List, [], ◌∷◌}
use Rattle.bech32_gf.specs.Field.{Ops, power}
use Rattle.bech32_poly.specs.Polynomial.{add}

-- the sum of a pattern's values at i
abbrev pub value_of_pattern_at : {F : Type 0} → Ops F → List (ℕ × F) → ℕ → F
value_of_pattern_at f [] i = f.zero
value_of_pattern_at f (p ∷ e) i = f.add (cond (p.0 == i) p.1 f.zero) (value_of_pattern_at f e i)

-- v times the i-th power of x
abbrev pub monomial : {F : Type 0} → Ops F → ℕ → F → List F
monomial f zero v = v ∷ []
monomial f (suc i) v = f.zero ∷ monomial f i v

-- the sum of a pattern's values times the powers of x at their locations
abbrev pub pattern_polynomial : {F : Type 0} → Ops F → List (ℕ × F) → List F
pattern_polynomial f [] = []
pattern_polynomial f (p ∷ e) = add f (monomial f p.0 p.1) (pattern_polynomial f e)

-- the pattern with its values in a larger field
abbrev pub inside : {F K : Type 0} → (F → K) → List (ℕ × F) → List (ℕ × K)
inside embed [] = []
inside embed (p ∷ e) = (p.0, embed p.1) ∷ inside embed e

-- the sum of value times weight times the locator to the power of t
abbrev pub power_sum : {K : Type 0} → Ops K → (ℕ → K) → (ℕ → K) → List (ℕ × K) → ℕ → K
power_sum o locator weight [] t = o.zero
power_sum o locator weight (p ∷ e) t =
    o.add (o.mul (o.mul p.1 (weight p.0)) (power o (locator p.0) t))
    (power_sum o locator weight e t)
