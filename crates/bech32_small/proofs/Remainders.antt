-- Packed rows as remainders of polynomials by the generator of BIP-173.
use Rattle.std.proofs.Common.{◌≡◌, ◌<◌, ◌≤◌, ◌+◌, ◌*◌, ◌^◌, ℕ, zero, suc, List, [], ◌∷◌, refl, sym, ap, ◌∙◌, subst, arith, bit_xor}
use Rattle.std.specs.Int.Bits.{xor_assoc, xor_self, xor_zero_r}
use Rattle.std.proofs.lemmas.Nat.{xor_comm, xor_lt}
use Rattle.bech32_gf.specs.Fe32 as fe32
use Rattle.bech32_gf.specs.declared.gf32.Fe32.{Fe32}
use Rattle.bech32_gf.specs.laws.Fe32Laws.{is_field}
use Rattle.bech32_poly.specs.Division.{remainder_of, zeros}
use Rattle.bech32_poly.specs.Pattern.{monomial, pattern_polynomial}
use Rattle.bech32_poly.specs.Polynomial.{add, appended, coefficient}
use Rattle.bech32_poly.specs.Remainder.{IsRemainder}
use Rattle.bech32_poly.proofs.Lists.{add_comm, same_cons}
use Rattle.bech32_poly.proofs.Remainder.{remainder_exists, remainder_of-add, remainder_of-itself, remainder_of-same, remainder_unique}
use Rattle.bech32_bch.specs.Pattern.{HasRemainder}
use Rattle.bech32_checksum.specs.Code.{bech32m}
use Rattle.bech32_checksum.specs.Packed.{digit_of, digits, tabulate}
use Rattle.bech32_checksum.specs.laws.PackedLaws.{xor_digits}
use Rattle.bech32_checksum.proofs.DigitRows.{coefficient-digits, digit_of-past, digits-injective}
use Rattle.bech32_checksum.proofs.TimesX.{times_x}
use Rattle.bech32_small.proofs.DividedByX.{one_more, packed}

-- the row packs the remainder of a polynomial
abbrev pub Leaves : ℕ → List Fe32 → Type 0
Leaves row p = IsRemainder fe32.ops bech32m.generator p (digits 6 row)

-- ... of that of a pattern
abbrev pub LeavesErrors : ℕ → List (ℕ × Fe32) → Type 0
LeavesErrors row errors = HasRemainder fe32.ops bech32m.generator (digits 6 row) errors

leaves-from_rest : (row : ℕ) (p : List Fe32) → remainder_of fe32.ops bech32m.generator p ≡ digits 6 row → Leaves row p
leaves-from_rest row p is = subst (IsRemainder fe32.ops bech32m.generator p) is (remainder_exists is_field bech32m.generator p)

rest-from_leaves : (row : ℕ) (p : List Fe32) → Leaves row p → digits 6 row ≡ remainder_of fe32.ops bech32m.generator p
rest-from_leaves row p h = remainder_unique is_field bech32m.generator p (digits 6 row) h

pub errors-from_leaves : (row : ℕ) (errors : List (ℕ × Fe32)) → Leaves row (pattern_polynomial fe32.ops errors) → LeavesErrors row errors
errors-from_leaves row errors h = (digits 6 row, h, λ i. refl)

pub leaves-from_errors : (row : ℕ) (errors : List (ℕ × Fe32)) → LeavesErrors row errors → Leaves row (pattern_polynomial fe32.ops errors)
leaves-from_errors row errors (r, is, same) =
    let all : r ≡ digits 6 row =
    sym (remainder_of-itself is_field bech32m.generator r is.short)
    ∙ remainder_of-same is_field bech32m.generator r (digits 6 row) same
    ∙ remainder_of-itself is_field bech32m.generator (digits 6 row) refl in
    subst (IsRemainder fe32.ops bech32m.generator (pattern_polynomial fe32.ops errors)) all is

-- no two rows pack the same remainder
pub same_row : (a b : ℕ) (p : List Fe32) → a < 2 ^ 30 → b < 2 ^ 30 → Leaves a p → Leaves b p → a ≡ b
same_row a b p ha hb la lb = digits-injective 6 a b ha hb (rest-from_leaves a p la ∙ sym (rest-from_leaves b p lb))

-- each polynomial leaves one
pub row_of : (p : List Fe32) → (c : ℕ) × ((c < 2 ^ 30) × Leaves c p)
row_of p =
    let is : IsRemainder fe32.ops bech32m.generator p (remainder_of fe32.ops bech32m.generator p) = remainder_exists is_field bech32m.generator p in
    let (c, (clear, are)) = packed (remainder_of fe32.ops bech32m.generator p) in (
      c,
      (
        subst (λ (n : ℕ). c < 2 ^ (5 * n)) is.short clear,
        leaves-from_rest c p (sym (subst (λ (n : ℕ). digits n c ≡ remainder_of fe32.ops bech32m.generator p) is.short are)),
      ),
    )

pub digits-xor : (a b : ℕ) → digits 6 (bit_xor a b) ≡ add fe32.ops (digits 6 a) (digits 6 b)
digits-xor a b = same_sums 6 (digit_of (bit_xor a b)) (digit_of a) (digit_of b) (xor_digits a b (bit_xor a b) refl)
  where
    same_sums : (n : ℕ) (f g h : ℕ → Fe32) → ((i : ℕ) → f i ≡ fe32.add (g i) (h i)) → tabulate n f ≡ add fe32.ops (tabulate n g) (tabulate n h)
    same_sums zero f g h is = refl
    same_sums (suc n) f g h is = same_cons _ _ _ _ (is 0) (same_sums n (λ i. f (suc i)) (λ i. g (suc i)) (λ i. h (suc i)) (λ i. is (suc i)))

pub leaves-sum : (a b : ℕ) (p q : List Fe32) → Leaves a p → Leaves b q → Leaves (bit_xor a b) (add fe32.ops p q)
leaves-sum a b p q la lb =
    leaves-from_rest (bit_xor a b) (add fe32.ops p q)
    (remainder_of-add is_field bech32m.generator p q
    ∙ ap (λ (l : List Fe32). add fe32.ops l (remainder_of fe32.ops bech32m.generator q)) (sym (rest-from_leaves a p la))
    ∙ ap (add fe32.ops (digits 6 a)) (sym (rest-from_leaves b q lb))
    ∙ sym (digits-xor a b))

xor_back : (a b : ℕ) → bit_xor (bit_xor a b) a ≡ b
xor_back a b =
    ap (λ m. bit_xor m a) (xor_comm a b) ∙ xor_assoc b a a ∙ ap (bit_xor b) (xor_self a) ∙ xor_zero_r b

-- what is left of a sum without its first part
pub leaves-rest : (row t : ℕ) (p q : List Fe32) → row < 2 ^ 30 → t < 2 ^ 30
    → Leaves row (add fe32.ops p q) → Leaves t p → Leaves (bit_xor row t) q
leaves-rest row t p q hr ht all first =
    let (c, (low, is)) = row_of q in
    let hs : bit_xor t c < 2 ^ 30 = xor_lt 30 t c ht low in
    let whole : row ≡ bit_xor t c = same_row row (bit_xor t c) (add fe32.ops p q) hr hs all (leaves-sum t c p q first is) in
    subst (λ n. Leaves n q) (sym (ap (λ m. bit_xor m t) whole ∙ xor_back t c)) is

-- an element as a constant
pub leaves-constant : (v : Fe32) → Leaves v.value (v ∷ [])
leaves-constant v =
    let low : v.value < 32 = v.in_field in
    let clear : v.value < 2 ^ 30 = omega (arith, low) in
    let same : (i : ℕ) → coefficient fe32.ops (v ∷ []) i ≡ coefficient fe32.ops (digits 6 v.value) i = place low clear in
    leaves-from_rest v.value (v ∷ [])
    (remainder_of-same is_field bech32m.generator (v ∷ []) (digits 6 v.value) same
    ∙ remainder_of-itself is_field bech32m.generator (digits 6 v.value) refl)
  where
    place : v.value < 32 → v.value < 2 ^ 30 → (i : ℕ) → coefficient fe32.ops (v ∷ []) i ≡ coefficient fe32.ops (digits 6 v.value) i
    place low clear zero = sym (coefficient-digits 6 v.value 0 clear ∙ fe32.path _ _ (omega (arith, low)))
    place low clear (suc i) =
        let above : 1 ≤ suc i = omega arith in
        sym (coefficient-digits 6 v.value (suc i) clear ∙ digit_of-past 1 v.value (suc i) low above)

-- an element, and then zeros
pub appended-monomial : (k n : ℕ) (e : Fe32) → appended (monomial fe32.ops k e) (zeros fe32.ops n) ≡ monomial fe32.ops (k + n) e
appended-monomial k zero e = let none : k ≡ k + 0 = omega arith in ap (λ i. monomial fe32.ops i e) none
appended-monomial k (suc n) e =
    let more : suc k + n ≡ k + suc n = omega arith in
    appended-monomial (suc k) n e ∙ ap (λ i. monomial fe32.ops i e) more

-- the polynomial of a single error
pub one_error : (i : ℕ) (v : Fe32) → pattern_polynomial fe32.ops ((i, v) ∷ []) ≡ monomial fe32.ops i v
one_error i v = add_comm is_field (monomial fe32.ops i v) []

-- a row of a single element
leaves-small : (row : ℕ) → row < 32 → Leaves row (fe32.element row ∷ [])
leaves-small row small =
    let is : (fe32.element row).value ≡ row = omega (arith, small) in
    subst (λ n. Leaves n (fe32.element row ∷ [])) is (leaves-constant (fe32.element row))

at_place : (n : ℕ) (v : Fe32) → appended (v ∷ []) (zeros fe32.ops n) ≡ pattern_polynomial fe32.ops ((n, v) ∷ [])
at_place n v =
    let whole : 0 + n ≡ n = omega arith in
    appended-monomial 0 n v ∙ ap (λ i. monomial fe32.ops i v) whole ∙ sym (one_error n v)

-- where what is left of a row behind a location is a single element, that is the error there
pub found_at : (first row location : ℕ) → row < 32
    → ((p : List Fe32) → Leaves row p → Leaves first (appended p (zeros fe32.ops location)))
    → LeavesErrors first ((location, fe32.element row) ∷ [])
found_at first row location small after =
    errors-from_leaves first ((location, fe32.element row) ∷ [])
    (subst (Leaves first) (at_place location (fe32.element row)) (after (fe32.element row ∷ []) (leaves-small row small)))

-- and where an error stands there, it is a single element
pub single_at : (first row location : ℕ) (v : Fe32) → row < 2 ^ 30
    → ((p : List Fe32) → Leaves first (appended p (zeros fe32.ops location)) → Leaves row p)
    → LeavesErrors first ((location, v) ∷ []) → row ≡ v.value
single_at first row location v small before h =
    let clear : v.value < 2 ^ 30 = omega (arith, v.in_field) in
    same_row row v.value (v ∷ []) small clear
    (before (v ∷ []) (subst (Leaves first) (sym (at_place location v)) (leaves-from_errors first ((location, v) ∷ []) h)))
    (leaves-constant v)

-- a row that is not zero is not zero divided by x
pub some_left : (row left : ℕ) → row < 2 ^ 30 → 0 < row
    → ((p : List Fe32) → Leaves left p → Leaves row (appended p (fe32.zero ∷ []))) → 0 < left
some_left word zero small some after =
    let none : Leaves 0 (fe32.zero ∷ []) = leaves-constant fe32.zero in
    let more : Leaves (times_x 0) (fe32.zero ∷ fe32.zero ∷ []) = one_more (fe32.zero ∷ []) 0 (omega arith) none in
    let same : word ≡ 0 = same_row word 0 (fe32.zero ∷ fe32.zero ∷ []) small (omega arith) (after (fe32.zero ∷ []) none) more in
    absurd (omega (arith, same, some))
some_left row (suc left) small some after = omega arith
