-- What is left of a row by the elements at one or two locations, as the searches try them.
use Rattle.std.specs.Prelude.{◌==◌, Bool, true, false, cond}
use Rattle.std.specs.List.{AllByRecursion}
use Rattle.std.proofs.Common.{◌≡◌, ◌<◌, ◌+◌, ◌^◌, ◌++◌, ℕ, zero, suc, List, [], ◌∷◌, get_or, length, length-append, set, take, refl, sym, ap, ◌∙◌, subst, arith, bit_xor}
use Rattle.std.specs.Int.Bits.{xor_assoc, xor_self, xor_zero_r}
use Rattle.std.proofs.lemmas.Nat.{xor_comm, xor_lt}
use Rattle.bech32_gf.specs.Fe32 as fe32
use Rattle.bech32_gf.specs.declared.gf32.Fe32.{Fe32}
use Rattle.bech32_gf.specs.laws.Fe32Laws.{is_field}
use Rattle.bech32_gf.specs.laws.Ring.{mul_zero}
use Rattle.bech32_poly.specs.Division.{remainder_of, zeros}
use Rattle.bech32_poly.specs.Pattern.{monomial, value_of_pattern_at}
use Rattle.bech32_poly.specs.Polynomial.{IsSamePolynomial, add, appended, coefficient, scale}
use Rattle.bech32_poly.specs.Remainder.{IsRemainder}
use Rattle.bech32_poly.proofs.Lists.{same_cons}
use Rattle.bech32_poly.proofs.PatternSums.{remainder_of-pattern}
use Rattle.bech32_poly.proofs.Remainder.{remainder_exists, remainder_of-itself, remainder_of-scale, remainder_unique}
use Rattle.bech32_bch.specs.Erasures.{has, with_erasures}
use Rattle.bech32_bch.specs.Pattern.{locations}
use Rattle.bech32_checksum.specs.Code.{bech32m}
use Rattle.bech32_checksum.specs.Packed.{IsRowOf, digits}
use Rattle.bech32_checksum.proofs.DigitRows.{coefficient-digits, digit_of-past}
use Rattle.bech32_lookup.proofs.Added.{length-with_some, with_erasures-more}
use Rattle.bech32_lookup.proofs.OneError.{nothing_left}
use Rattle.bech32_lookup.proofs.Remainders.{left_over, remainder_left, same_remainder}
use Rattle.bech32_small.proofs.Errors.{leaves-scaled, with_first, without_first}
use Rattle.bech32_small.proofs.Remainders.{Leaves, LeavesErrors, found_at, leaves-from_errors, leaves-rest, leaves-sum, row_of, same_row, single_at}

-- ---- a row of zeros

pub no_digits : IsSamePolynomial fe32.ops (digits 6 0) []
no_digits n = coefficient-digits 6 0 n (omega arith) ∙ digit_of-past 0 0 n (omega arith) (omega arith)

pub nothing_leaves : LeavesErrors 0 []
nothing_leaves = nothing_left bech32m.generator (digits 6 0) no_digits

pub none_left : (row : ℕ) → row < 2 ^ 30 → LeavesErrors row [] → row ≡ 0
none_left word clear h = same_row word 0 [] clear (omega arith) (leaves-from_errors word [] h) (leaves-from_errors 0 [] nothing_leaves)

-- ---- an element at a location

-- an element is that of its value
pub same_element : (n : ℕ) (v : Fe32) → v.value ≡ n → v ≡ fe32.element n
same_element n v is = fe32.path v (fe32.element n) (omega (arith, is, v.in_field))

-- an element times a power of x
scaled-monomial : (i : ℕ) (v : Fe32) → scale fe32.ops v (monomial fe32.ops i fe32.one) ≡ monomial fe32.ops i v
scaled-monomial zero v = ap (λ (x : Fe32). x ∷ []) (is_field.mul_one v)
scaled-monomial (suc i) v = same_cons _ _ _ _ (mul_zero is_field v) (scaled-monomial i v)

pub leaves-at : (power t i : ℕ) (v : Fe32) → Leaves power (monomial fe32.ops i fe32.one) → IsRowOf 6 (scale fe32.ops v (digits 6 power)) t
    → Leaves t (monomial fe32.ops i v)
leaves-at power t i v is scaled = subst (Leaves t) (scaled-monomial i v) (leaves-scaled power t v (monomial fe32.ops i fe32.one) is scaled)

-- ---- two elements at one location

at_one : (x : ℕ) (v w : Fe32) (i : ℕ) → value_of_pattern_at fe32.ops ((x, fe32.add v w) ∷ []) i ≡ value_of_pattern_at fe32.ops ((x, v) ∷ (x, w) ∷ []) i
at_one x v w i = both (x == i)
  where
    both : (b : Bool) → fe32.add (cond b (fe32.add v w) fe32.zero) fe32.zero ≡ fe32.add (cond b v fe32.zero) (fe32.add (cond b w fe32.zero) fe32.zero)
    both true = is_field.add_assoc v w fe32.zero
    both false = sym (ap (fe32.add fe32.zero) (is_field.add_zero fe32.zero))

-- leave what their sum leaves
pub joined : (row x : ℕ) (v w : Fe32) → LeavesErrors row ((x, v) ∷ (x, w) ∷ []) → LeavesErrors row ((x, fe32.add v w) ∷ [])
joined row x v w h =
    left_over is_field bech32m.generator (digits 6 row) ((x, fe32.add v w) ∷ [])
    (λ i. ap (λ (u : List Fe32). coefficient fe32.ops u i)
    (remainder_of-pattern is_field bech32m.generator ((x, fe32.add v w) ∷ []) ((x, v) ∷ (x, w) ∷ []) (at_one x v w))
    ∙ remainder_left is_field bech32m.generator (digits 6 row) ((x, v) ∷ (x, w) ∷ []) h i)

-- ---- elements at two locations

appended-add : (n : ℕ) (p q : List Fe32) → appended (add fe32.ops p q) (zeros fe32.ops n) ≡ add fe32.ops (appended p (zeros fe32.ops n)) (appended q (zeros fe32.ops n))
appended-add zero p q = refl
appended-add (suc n) p q =
    ap (λ (x : Fe32). appended (x ∷ add fe32.ops p q) (zeros fe32.ops n)) (sym (is_field.add_zero fe32.zero)) ∙ appended-add n (fe32.zero ∷ p) (fe32.zero ∷ q)

appended-scale : (n : ℕ) (v : Fe32) (p : List Fe32) → appended (scale fe32.ops v p) (zeros fe32.ops n) ≡ scale fe32.ops v (appended p (zeros fe32.ops n))
appended-scale zero v p = refl
appended-scale (suc n) v p =
    ap (λ (x : Fe32). appended (x ∷ scale fe32.ops v p) (zeros fe32.ops n)) (sym (mul_zero is_field v)) ∙ appended-scale n v (fe32.zero ∷ p)

-- a row and a row of the power of x at a location x, both divided by the n-th power of x
module _ (row left power behind t n x : ℕ) (v : Fe32) (clear : row < 2 ^ 30) (small : left < 2 ^ 30)
    (after : (p : List Fe32) → Leaves left p → Leaves row (appended p (zeros fe32.ops n)))
    (before : (p : List Fe32) → Leaves row (appended p (zeros fe32.ops n)) → Leaves left p)
    (power_is : Leaves power (monomial fe32.ops x fe32.one))
    (power_after : (p : List Fe32) → Leaves behind p → Leaves power (appended p (zeros fe32.ops n)))
    (scaled : IsRowOf 6 (scale fe32.ops v (digits 6 behind)) t) where
  back : (a b : ℕ) → bit_xor b (bit_xor a b) ≡ a
  back a b = xor_comm b (bit_xor a b) ∙ xor_assoc a b b ∙ ap (bit_xor a) (xor_self b) ∙ xor_zero_r a

  abbrev rest : List Fe32
  rest = digits 6 behind

  abbrev whole : List Fe32
  whole = appended (digits 6 behind) (zeros fe32.ops n)

  rest_is : Leaves behind (digits 6 behind)
  rest_is =
      subst (IsRemainder fe32.ops bech32m.generator (digits 6 behind)) (remainder_of-itself is_field bech32m.generator (digits 6 behind) refl)
      (remainder_exists is_field bech32m.generator (digits 6 behind))

  -- the element times either polynomial leaves the same
  same_rest : remainder_of fe32.ops bech32m.generator (monomial fe32.ops x v) ≡ remainder_of fe32.ops bech32m.generator (scale fe32.ops v (appended (digits 6 behind) (zeros fe32.ops n)))
  same_rest =
      ap (remainder_of fe32.ops bech32m.generator) (sym (scaled-monomial x v))
      ∙ remainder_of-scale is_field bech32m.generator v (monomial fe32.ops x fe32.one)
      ∙ ap (scale fe32.ops v)
      (sym (remainder_unique is_field bech32m.generator (monomial fe32.ops x fe32.one) (digits 6 power) power_is)
      ∙ remainder_unique is_field bech32m.generator whole (digits 6 power) (power_after (digits 6 behind) rest_is))
      ∙ sym (remainder_of-scale is_field bech32m.generator v whole)

  module _ (c : ℕ) (low : c < 2 ^ 30) (is : Leaves c (monomial fe32.ops x v)) where
    of_whole : Leaves c (scale fe32.ops v (appended (digits 6 behind) (zeros fe32.ops n)))
    of_whole = same_remainder is_field bech32m.generator (monomial fe32.ops x v) (scale fe32.ops v whole) (digits 6 c) same_rest is

    both : (p : List Fe32) → appended (add fe32.ops (scale fe32.ops v (digits 6 behind)) p) (zeros fe32.ops n)
        ≡ add fe32.ops (scale fe32.ops v (appended (digits 6 behind) (zeros fe32.ops n))) (appended p (zeros fe32.ops n))
    both p =
        appended-add n (scale fe32.ops v (digits 6 behind)) p
        ∙ ap (λ (q : List Fe32). add fe32.ops q (appended p (zeros fe32.ops n))) (appended-scale n v (digits 6 behind))

    part_is : Leaves t (scale fe32.ops v (digits 6 behind))
    part_is = leaves-scaled behind t v (digits 6 behind) rest_is scaled

    after_both : (p : List Fe32) → Leaves (bit_xor left t) p → Leaves (bit_xor row c) (appended p (zeros fe32.ops n))
    after_both p h =
        leaves-rest row c (scale fe32.ops v whole) (appended p (zeros fe32.ops n)) clear low
        (subst (Leaves row) (both p)
        (after (add fe32.ops (scale fe32.ops v rest) p)
        (subst (λ k. Leaves k (add fe32.ops (scale fe32.ops v rest) p)) (back left t)
        (leaves-sum t (bit_xor left t) (scale fe32.ops v rest) p part_is h))))
        of_whole

    before_both : (p : List Fe32) → Leaves (bit_xor row c) (appended p (zeros fe32.ops n)) → Leaves (bit_xor left t) p
    before_both p h =
        leaves-rest left t (scale fe32.ops v rest) p small scaled.clear
        (before (add fe32.ops (scale fe32.ops v rest) p)
        (subst (Leaves row) (sym (both p))
        (subst (λ k. Leaves k (add fe32.ops (scale fe32.ops v whole) (appended p (zeros fe32.ops n)))) (back row c)
        (leaves-sum c (bit_xor row c) (scale fe32.ops v whole) (appended p (zeros fe32.ops n)) of_whole h))))
        part_is

  -- where the elements leave the row, what is left is the second of them
  pub second_at : (w : Fe32) → LeavesErrors row ((x, v) ∷ (n, w) ∷ []) → bit_xor left t ≡ w.value
  second_at w h =
      let (c, (low, is)) = row_of (monomial fe32.ops x v) in
      single_at (bit_xor row c) (bit_xor left t) n w (xor_lt 30 left t small scaled.clear) (before_both c low is)
      (without_first row c x v ((n, w) ∷ []) clear low is h)

  -- and where a single element is left, they do
  pub found_second : bit_xor left t < 32 → LeavesErrors row ((x, v) ∷ (n, fe32.element (bit_xor left t)) ∷ [])
  found_second one =
      let (c, (low, is)) = row_of (monomial fe32.ops x v) in
      with_first row c x v ((n, fe32.element (bit_xor left t)) ∷ []) clear low is
      (found_at (bit_xor row c) (bit_xor left t) n one (after_both c low is))

-- ---- items of a listing

-- two values, by their number
abbrev pub pick : Fe32 → Fe32 → ℕ → Fe32
pick v w zero = v
pick v w (suc i) = w

none_located : (l : List (ℕ × Fe32)) → locations l ≡ [] → l ≡ []
none_located [] h = refl
none_located (p ∷ l) h = absurd (cc h)

one_item : (items : List (ℕ × Fe32)) (count : ℕ) (d : ℕ × Fe32) (x : ℕ) → locations (take count items) ≡ x ∷ [] → take count items ≡ get_or items 0 d ∷ []
one_item items zero d x h = absurd (cc h)
one_item [] (suc count) d x h = absurd (cc h)
one_item (p ∷ items) (suc count) d x h =
    let rest : locations (take count items) ≡ [] = cc h in same_cons _ _ _ _ refl (none_located (take count items) rest)

pub two_items : (items : List (ℕ × Fe32)) (count : ℕ) (d d' : ℕ × Fe32) (x y : ℕ) → locations (take count items) ≡ x ∷ y ∷ []
    → take count items ≡ get_or items 0 d ∷ get_or items 1 d' ∷ []
two_items items zero d d' x y h = absurd (cc h)
two_items [] (suc count) d d' x y h = absurd (cc h)
two_items (p ∷ items) (suc count) d d' x y h =
    let rest : locations (take count items) ≡ y ∷ [] = cc h in same_cons _ _ _ _ refl (one_item items count d' y rest)

-- ---- locations that are given

-- what holds of all holds of each
pub all_at : (P : ℕ → Type 0) (xs : List ℕ) (i : ℕ) → i < length xs → AllByRecursion P xs → P (get_or xs i 0)
all_at P [] i h all = absurd (omega (arith, h))
all_at P (x ∷ xs) zero h all = all.0
all_at P (x ∷ xs) (suc i) h all = all_at P xs i (omega (arith, h)) all.1

all_next : (P : ℕ → Type 0) (xs : List ℕ) (i : ℕ) → i < length xs → AllByRecursion P (take i xs) → P (get_or xs i 0) → AllByRecursion P (take (suc i) xs)
all_next P [] i h all one = absurd (omega (arith, h))
all_next P (x ∷ xs) zero h all one = (one, tt)
all_next P (x ∷ xs) (suc i) h all one = (all.0, all_next P xs i (omega (arith, h)) all.1 one)

-- and of one more
pub all_more : (P : ℕ → Type 0) (xs : List ℕ) (i : ℕ) → i < length xs → AllByRecursion P (take i xs) → P (get_or xs i 0) → AllByRecursion P (take (i + 1) xs)
all_more P xs i h all one =
    let more : suc i ≡ i + 1 = omega arith in subst (λ (n : ℕ). AllByRecursion P (take n xs)) more (all_next P xs i h all one)

set_next : (xs : List ℕ) (i x : ℕ) → i < length xs → take (suc i) (set xs i x) ≡ take i xs ++ x ∷ []
set_next [] i x h = absurd (omega (arith, h))
set_next (y ∷ xs) zero x h = refl
set_next (y ∷ xs) (suc i) x h = ap (λ (l : List ℕ). y ∷ l) (set_next xs i x (omega (arith, h)))

-- one item more at the front
pub put_next : (xs : List ℕ) (i x : ℕ) → i < length xs → take (i + 1) (set xs i x) ≡ take i xs ++ x ∷ []
put_next xs i x h = let more : i + 1 ≡ suc i = omega arith in ap (λ (n : ℕ). take n (set xs i x)) more ∙ set_next xs i x h

module _ (given items : List ℕ) (count i : ℕ) (less : i < length given) (so_far : take count items ≡ with_erasures [] (take i given)) where
  -- a location that was given before
  pub given_again : has (take count items) (get_or given i 0) ≡ true → take count items ≡ with_erasures [] (take (i + 1) given)
  given_again known =
      sym (ap (λ (b : Bool). cond b (take count items) (take count items ++ get_or given i 0 ∷ [])) known)
      ∙ with_erasures-more [] given (take count items) i less so_far

  -- and a new one
  pub given_new : has (take count items) (get_or given i 0) ≡ false → take count items ++ get_or given i 0 ∷ [] ≡ with_erasures [] (take (i + 1) given)
  given_new new =
      sym (ap (λ (b : Bool). cond b (take count items) (take count items ++ get_or given i 0 ∷ [])) new)
      ∙ with_erasures-more [] given (take count items) i less so_far

  -- which is the fourth
  pub too_many : length (take count items) ≡ 3 → has (take count items) (get_or given i 0) ≡ false → 3 < length (with_erasures [] given)
  too_many full new =
      omega (
        arith,
        full,
        ap (λ (l : List ℕ). length l) (given_new new),
        length-append (take count items) (get_or given i 0 ∷ []),
        length-with_some [] given (i + 1),
      )
