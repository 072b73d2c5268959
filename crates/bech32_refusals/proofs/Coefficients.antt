-- The coefficients of a row of elements.
use Rattle.std.proofs.Common.{◌≡◌, ◌↔◌, ◌==◌, ◌&&◌, true, eq-eqb, ◌<◌, ◌≤◌, ◌+◌, ◌*◌, ◌^◌, ℕ, zero, suc, List, [], ◌∷◌, length, replicate, slice_set, refl, sym, ap, subst, ◌∙◌, arith, ⊎_elim}
use Rattle.std.proofs.lemmas.Bool.{cases_lt, eqb-true, and_parts, and_from}
use Rattle.std.proofs.lemmas.List.{get_or-set_same, get_or-set_other}
use Rattle.std.proofs.Math.Nat.{eq-or-lt_of_le}
use Rattle.bech32_gf.specs.Fe32 as fe32
use Rattle.bech32_gf.specs.declared.gf32.Fe32.{Fe32}
use lib.Pointwise.{pointwise, pointwise_decides}
use Rattle.bech32_poly.specs.Polynomial.{coefficient, IsSamePolynomial}
use Rattle.bech32_checksum.specs.Packed.{digit_of}
use Rattle.bech32_checksum.proofs.DigitRows.{digit_of-past}
use Rattle.bech32_refusals.specs.declared.error.InvalidResidueError.{InvalidResidueError}

pub coefficient-replicate : (m n : ℕ) (e : 0 < 32) → coefficient fe32.ops (replicate m (record { value = 0; in_field = e })) n ≡ fe32.zero
coefficient-replicate zero n e = refl
coefficient-replicate (suc m) zero e = fe32.path (record { value = 0; in_field = e }) fe32.zero refl
coefficient-replicate (suc m) (suc n) e = coefficient-replicate m n e

-- the element of a digit's value is the digit
pub element-digit_of : (number i : ℕ) → fe32.element (digit_of number i).value ≡ digit_of number i
element-digit_of number i = fe32.path (fe32.element (digit_of number i).value) (digit_of number i) (omega arith)

-- one more digit of a number is read into its place
pub read-more : (xs : List Fe32) (number i : ℕ) (x : Fe32) → i < length xs → x ≡ digit_of number i
    → ((n : ℕ) → n < i → coefficient fe32.ops xs n ≡ digit_of number n)
    → (n : ℕ) → n < i + 1 → coefficient fe32.ops (slice_set xs i x) n ≡ digit_of number n
read-more xs number i x room is so_far n below =
    let at_most : n ≤ i = omega arith in
    ⊎_elim
    (λ (same : n ≡ i). subst (λ k. coefficient fe32.ops (slice_set xs i x) k ≡ digit_of number k) (sym same) (get_or-set_same xs i x fe32.zero room ∙ is))
    (λ (less : n < i). get_or-set_other xs i n x fe32.zero (λ e. omega arith) ∙ so_far n less)
    (eq-or-lt_of_le at_most)

pub rest-less : (xs : List Fe32) (i : ℕ) (x : Fe32) → ((n : ℕ) → i ≤ n → coefficient fe32.ops xs n ≡ fe32.zero)
    → (n : ℕ) → i + 1 ≤ n → coefficient fe32.ops (slice_set xs i x) n ≡ fe32.zero
rest-less xs i x rest n above = get_or-set_other xs i n x fe32.zero (λ e. omega arith) ∙ rest n (omega arith)

-- so all its digits were read
pub read-all : (xs : List Fe32) (number width : ℕ) → number < 2 ^ (5 * width)
    → ((n : ℕ) → n < width → coefficient fe32.ops xs n ≡ digit_of number n)
    → ((n : ℕ) → width ≤ n → coefficient fe32.ops xs n ≡ fe32.zero)
    → (n : ℕ) → coefficient fe32.ops xs n ≡ digit_of number n
read-all xs number width h read rest n =
    ⊎_elim (λ (below : n < width). read n below) (λ (above : width ≤ n). rest n above ∙ sym (digit_of-past width number n h above)) (cases_lt n width)

-- rows of one length with the same coefficients are the same
pub same_row : (xs ys : List Fe32) → length xs ≡ length ys → ((n : ℕ) → coefficient fe32.ops xs n ≡ coefficient fe32.ops ys n) → xs ≡ ys
same_row [] [] e h = refl
same_row [] (y ∷ ys) e h = absurd (omega arith)
same_row (x ∷ xs) [] e h = absurd (omega arith)
same_row (x ∷ xs) (y ∷ ys) e h =
    let head : x ≡ y = h 0 in
    let tail : xs ≡ ys = same_row xs ys (omega arith) (λ n. h (suc n)) in
    cc

-- rows of one length are equal, element by element, where their polynomials are
pub rows-decide : (xs ys : List Fe32) → length xs ≡ length ys → (pointwise (λ (x y : Fe32). x.value == y.value) xs ys ≡ true) ↔ IsSamePolynomial fe32.ops xs ys
rows-decide xs ys e =
    let test = pointwise_decides (λ (x y : Fe32). (λ h. fe32.path x y (eqb-true x.value y.value h), λ k. eq-eqb x.value y.value (ap (λ (z : Fe32). z.value) k))) xs ys in
    (λ h n. ap (λ (l : List Fe32). coefficient fe32.ops l n) (test.0 h), λ same. test.1 (same_row xs ys e same))

-- the same of the two rows of an error
pub errors-decide : (x y : InvalidResidueError)
    → (pointwise (λ (a b : Fe32). a.value == b.value) x.actual.digits y.actual.digits && pointwise (λ (a b : Fe32). a.value == b.value) x.target.digits y.target.digits) ≡ true
    ↔ (IsSamePolynomial fe32.ops x.actual.digits y.actual.digits × IsSamePolynomial fe32.ops x.target.digits y.target.digits)
errors-decide x y =
    let a = rows-decide x.actual.digits y.actual.digits (x.actual.full ∙ sym y.actual.full) in
    let t = rows-decide x.target.digits y.target.digits (x.target.full ∙ sym y.target.full) in (
      λ h. let both = and_parts (pointwise (λ (c d : Fe32). c.value == d.value) x.actual.digits y.actual.digits) (pointwise (λ (c d : Fe32). c.value == d.value) x.target.digits y.target.digits) h in (a.0 both.0, t.0 both.1),
      λ p. and_from (pointwise (λ (c d : Fe32). c.value == d.value) x.actual.digits y.actual.digits) (pointwise (λ (c d : Fe32). c.value == d.value) x.target.digits y.target.digits) (a.1 p.0) (t.1 p.1),
    )
