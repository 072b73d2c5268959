-- The search for roots among the powers of a base.
use Rattle.std.specs.Prelude.{ℕ, ◌-◌, Bool, List, [], ◌∷◌}
use Rattle.std.specs.List.{filter, range_with_len}
use Rattle.bech32_gf.specs.Field.{Ops, power, value_at}

-- what a search is seen as: the terms of the polynomial at the power that comes next, the power of
-- the base in each term, the next exponent, and the one at which it ends
pub record RootSearch (K : Type 0) : Type 0 where
  pub terms : List K
  pub factors : List K
  pub next : ℕ
  pub end : ℕ

-- the sum of the terms, each times the k-th power of its factor
abbrev pub value_after : {K : Type 0} → Ops K → List K → List K → ℕ → K
value_after o [] factors k = o.zero
value_after o (t ∷ terms) [] k = o.zero
value_after o (t ∷ terms) (f ∷ factors) k =
    o.add (o.mul t (power o f k)) (value_after o terms factors k)

-- the sum of the elements
abbrev pub total_of : {K : Type 0} → Ops K → List K → K
total_of o [] = o.zero
total_of o (x ∷ xs) = o.add x (total_of o xs)

-- the exponents from one number to below another whose power of the base is a root, in rising
-- order; `same` tells equal elements
abbrev pub root_exponents : {K : Type 0} → Ops K → (K → K → Bool) → List K → K → ℕ → ℕ → List ℕ
root_exponents o same p base start end =
    filter (λ k. same (value_at o (power o base k) p) o.zero) (range_with_len start (end - start))

-- the exponents that a search has left to give
abbrev pub left_of : {K : Type 0} → Ops K → (K → K → Bool) → RootSearch K → List ℕ
left_of o same s =
    filter (λ k. same (value_after o s.terms s.factors (k - s.next)) o.zero)
    (range_with_len s.next (s.end - s.next))

-- each term times its factor
abbrev pub multiplied_each : {K : Type 0} → Ops K → List K → List K → List K
multiplied_each o [] factors = []
multiplied_each o (t ∷ terms) [] = t ∷ terms
multiplied_each o (t ∷ terms) (f ∷ factors) = o.mul t f ∷ multiplied_each o terms factors
