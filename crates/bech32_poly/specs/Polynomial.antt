-- Polynomials over a field, as lists of coefficients: place i for x^i, the constant one first.
-- Zeros at the high end do not matter.
use Rattle.std.specs.Prelude.{◌≡◌, ◌<◌, ℕ, List, [], ◌∷◌, length, slice_index_or}
use Rattle.bech32_gf.specs.Field.{Ops}

-- the coefficient of x^n
abbrev pub coefficient : {F : Type 0} → Ops F → List F → ℕ → F
coefficient o p n = slice_index_or p n o.zero

-- the same coefficients
abbrev pub IsSamePolynomial : {F : Type 0} → Ops F → List F → List F → Type 0
IsSamePolynomial o p q = (n : ℕ) → coefficient o p n ≡ coefficient o q n

-- the coefficients of p, as many as there are, are the first ones of q
abbrev pub BeginsAs : {F : Type 0} → Ops F → List F → List F → Type 0
BeginsAs o q p = (n : ℕ) → n < length p → coefficient o p n ≡ coefficient o q n

-- the sum
abbrev pub add : {F : Type 0} → Ops F → List F → List F → List F
add o [] q = q
add o (a ∷ p) [] = a ∷ p
add o (a ∷ p) (b ∷ q) = o.add a b ∷ add o p q

-- the product with an element
abbrev pub scale : {F : Type 0} → Ops F → F → List F → List F
scale o c [] = []
scale o c (a ∷ p) = o.mul c a ∷ scale o c p

-- the product
abbrev pub multiply : {F : Type 0} → Ops F → List F → List F → List F
multiply o [] q = []
multiply o (a ∷ p) q = add o (scale o a q) (o.zero ∷ multiply o p q)

-- p with further coefficients, one after another, each put in below all before it
abbrev pub appended : {F : Type 0} → List F → List F → List F
appended p [] = p
appended p (a ∷ more) = appended (a ∷ p) more
