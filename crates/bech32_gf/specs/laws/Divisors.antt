-- The divisors of a number, by tests that compute.
use Rattle.std.specs.Prelude.{◌≡◌, ◌<◌, ◌≤◌, ◌+◌, ◌*◌, ◌/◌, ◌%◌, ◌==◌, ℕ, zero, suc, Bool, true}
use Rattle.std.specs.Prelude.{false, ◌&&◌, ◌||◌, not, nat_lt, List, [], ◌∷◌, length, slice_index}
use Rattle.std.specs.List.{Contains, list_any, list_all}
use Rattle.std.specs.List.Sorted.{IsStrictlyIncreasing}
use Rattle.std.proofs.Common.{sym, ◌∙◌, ap, arith, add-one, eq-eqb}
use Rattle.std.proofs.Math.Nat.{div-lt_iff_lt-mul}
use Rattle.std.proofs.lemmas.Bool.{eqb-true, ltb-true, and_parts}
use Rattle.std.proofs.lemmas.List.{get_or_default}
use Rattle.std.proofs.lemmas.Map.Views.{Contains-from_any}
use Rattle.std.proofs.lemmas.Nat.Gcd.{le_of_dvd, mod-eq-zero_of_dvd, dvd_of_mod-eq-zero}
use Prim.Native.Nat.{◌∣◌}
use Rattle.bech32_gf.specs.laws.Below.{each_below, each_below-at₂}
use Rattle.bech32_gf.specs.Field.{ListsDivisors}

-- whether each number of a list is below the next, and the first above a
abbrev pub rises_from : ℕ → List ℕ → Bool
rises_from a [] = true
rises_from a (b ∷ bs) = nat_lt a b && rises_from b bs

-- whether each number of a list is below the next
abbrev pub rises : List ℕ → Bool
rises [] = true
rises (a ∷ bs) = rises_from a bs

rises_from-at : (a : ℕ) (bs : List ℕ) → rises_from a bs ≡ true → (k : ℕ) → suc k < length (a ∷ bs)
    → slice_index (a ∷ bs) k < slice_index (a ∷ bs) (suc k)
rises_from-at a [] h k within = absurd (omega arith)
rises_from-at a (b ∷ bs) h zero within = ltb-true a b (and_parts (nat_lt a b) (rises_from b bs) h).0
rises_from-at a (b ∷ bs) h (suc k) within =
    let less : suc k < length (b ∷ bs) = omega arith in
    rises_from-at b bs (and_parts (nat_lt a b) (rises_from b bs) h).1 k less

pub IsStrictlyIncreasing-from_test : (xs : List ℕ) → rises xs ≡ true → IsStrictlyIncreasing xs
IsStrictlyIncreasing-from_test [] h k within = absurd (omega arith)
IsStrictlyIncreasing-from_test (a ∷ bs) h k within =
    let less : suc k < length (a ∷ bs) = omega arith in rw add-one (rises_from-at a bs h k less)

list_all-at : (p : ℕ → Bool) (xs : List ℕ) → list_all p xs ≡ true → (k : ℕ) → k < length xs
    → p (slice_index xs k) ≡ true
list_all-at p [] h k within = absurd (omega arith)
list_all-at p (x ∷ xs) h zero within = (and_parts (p x) (list_all p xs) h).0
list_all-at p (x ∷ xs) h (suc k) within =
    let less : k < length xs = omega arith in
    list_all-at p xs (and_parts (p x) (list_all p xs) h).1 k less

-- whether d is in the list, if it divides n
abbrev pub is_listed : ℕ → List ℕ → ℕ → Bool
is_listed n divisors d = not (n % d == 0) || list_any (λ e. d == e) divisors

listed : (b c : Bool) → (not b || c) ≡ true → b ≡ true → c ≡ true
listed true c h e = h
listed false c h e = cc

positive_root : (n w : ℕ) → n < w * w → 0 < w
positive_root n zero h = absurd (omega arith)
positive_root n (suc w) h = omega arith

-- a rising list of divisors is all of them, where each divisor below w times w,
-- a square above n, is in it
pub ListsDivisors-from_tests : (n w : ℕ) (divisors : List ℕ) → 0 < n → n < w * w
    → rises divisors ≡ true
    → list_all (λ d. n % d == 0) divisors ≡ true
    → each_below w (λ i. each_below w (λ j. is_listed n divisors (w * i + j))) ≡ true
    → ListsDivisors n divisors
ListsDivisors-from_tests n w divisors some large rising divide listing = record {
  rising = IsStrictlyIncreasing-from_test divisors rising;
  all = λ d. (divides d, contains d);
}
  where
    divides : (d : ℕ) → Contains divisors d → d ∣ n
    divides d h =
        let at = list_all-at (λ d. n % d == 0) divisors divide h.0 h.1 in
        let same : slice_index divisors h.0 ≡ d = get_or_default divisors h.0 0 d h.1 ∙ h.2 in
        dvd_of_mod-eq-zero d (eqb-true (n % d) 0 (ap (λ e. n % e == 0) (sym same) ∙ at))

    contains : (d : ℕ) → d ∣ n → Contains divisors d
    contains d h =
        let at_most : d ≤ n = le_of_dvd some h in
        let wide : 0 < w = positive_root n w large in
        let high : d / w < w = (div-lt_iff_lt-mul wide).1 (omega arith) in
        let low : d % w < w = omega arith in
        let split : w * (d / w) + d % w ≡ d = omega arith in
        let test =
        each_below-at₂ w (λ i j. is_listed n divisors (w * i + j))
        listing (d / w) (d % w) high low in
        let here : is_listed n divisors d ≡ true = ap (is_listed n divisors) (sym split) ∙ test in
        Contains-from_any eqb-true d divisors
        (listed (n % d == 0) (list_any (λ e. d == e) divisors)
        here (eq-eqb (n % d) 0 (mod-eq-zero_of_dvd d h)))
