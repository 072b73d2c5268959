-- The laws of packed rows, and of a checksum's packed words by a test.
use Rattle.std.specs.Prelude.{◌≡◌, ◌<◌, ◌≤◌, ◌*◌, ◌/◌, ◌%◌, ◌^◌, ◌==◌, ◌↔◌, ℕ, zero, suc, List, []}
use Rattle.std.specs.Prelude.{◌∷◌, Bool, true, Some, IsTrue, slice_get, nat_lt, bit_xor, length}
use Rattle.std.proofs.Common.{refl, sym, ◌∙◌, ap, arith, ◌&&◌}
use Rattle.std.proofs.Common.{⊎_elim, subst, eq-eqb, lt_of_lt_of_le}
use Rattle.std.proofs.lemmas.Bool.{eqb-true, ltb-true, cases_lt}
use Rattle.std.proofs.lemmas.Nat.{xor_shr, xor_mod}
use Rattle.std.proofs.Math.Nat.{div-eq_of_lt, zero-div}
use Rattle.std.proofs.Math.Pow.{pow_mono}
use Rattle.bech32_gf.specs.laws.Below.{each_below, each_below-at, and_left, and_right}
use Rattle.bech32_gf.specs.Gf32.{product}
use Rattle.bech32_gf.specs.Fe32 as fe32
use Rattle.bech32_checksum.specs.Packed.{digit_of, HasDigits}
use Rattle.bech32_checksum.specs.PackingLaws.{KeepsPackingLaws}

-- whether the lowest d digits of v are those of w times the generator of the field
abbrev pub is_shift : ℕ → ℕ → ℕ → Bool
is_shift d w v = each_below d (λ n. (v / 2 ^ (5 * n)) % 32 == product ((w / 2 ^ (5 * n)) % 32) 2)

-- the same for w and the first of the words, which has d digits
abbrev pub next_is_shift : ℕ → ℕ → List ℕ → Bool
next_is_shift d w [] = true
next_is_shift d w (v ∷ words) = nat_lt v (2 ^ (5 * d)) && is_shift d w v

-- whether each word has d digits and is the one before it times the generator of the field
abbrev pub are_shifts : ℕ → List ℕ → Bool
are_shifts d [] = true
are_shifts d (w ∷ words) = nat_lt w (2 ^ (5 * d)) && (next_is_shift d w words && are_shifts d words)

clear : (d : ℕ) (words : List ℕ) → are_shifts d words ≡ true
    → (i w : ℕ) → slice_get words i ≡ Some w → w < 2 ^ (5 * d)
clear d [] h i w e = cc
clear d (v ∷ words) h zero w e =
    let same : v ≡ w = cc in
    subst (λ x. x < 2 ^ (5 * d)) same
    (ltb-true v (2 ^ (5 * d)) (and_left (nat_lt v (2 ^ (5 * d))) _ h))
clear d (v ∷ words) h (suc i) w e =
    clear d words (and_right (next_is_shift d v words) (are_shifts d words)
    (and_right (nat_lt v (2 ^ (5 * d))) _ h))
    i w e

past : (d w n : ℕ) → w < 2 ^ (5 * d) → d ≤ n → w / 2 ^ (5 * n) % 32 ≡ 0
past d w n h over =
    let wider : 5 * d ≤ 5 * n = omega arith in
    let e : w / 2 ^ (5 * n) ≡ 0 = div-eq_of_lt (lt_of_lt_of_le h (pow_mono wider)) in
    rw e refl

digit_shift : (d w v n : ℕ) → w < 2 ^ (5 * d) → v < 2 ^ (5 * d) → is_shift d w v ≡ true
    → digit_of v n ≡ fe32.mul (digit_of w n) fe32.generator
unfolding product
digit_shift d w v n hw hv h =
    fe32.path _ _ (⊎_elim
    (λ (below : n < d). eqb-true ((v / 2 ^ (5 * n)) % 32) (product ((w / 2 ^ (5 * n)) % 32) 2)
    (each_below-at d (λ m. (v / 2 ^ (5 * m)) % 32 == product ((w / 2 ^ (5 * m)) % 32) 2) h n below))
    (λ (over : d ≤ n). past d v n hv over ∙ ap (λ x. product x 2) (sym (past d w n hw over)))
    (cases_lt n d))

first_shift : (d w v : ℕ) (words : List ℕ) → are_shifts d (w ∷ v ∷ words) ≡ true
    → (n : ℕ) → digit_of v n ≡ fe32.mul (digit_of w n) fe32.generator
first_shift d w v words h n =
    let next : next_is_shift d w (v ∷ words) ≡ true =
    and_left (next_is_shift d w (v ∷ words)) (are_shifts d (v ∷ words))
    (and_right (nat_lt w (2 ^ (5 * d))) _ h) in
    digit_shift d w v n
    (ltb-true w (2 ^ (5 * d)) (and_left (nat_lt w (2 ^ (5 * d))) _ h))
    (ltb-true v (2 ^ (5 * d)) (and_left (nat_lt v (2 ^ (5 * d))) (is_shift d w v) next))
    (and_right (nat_lt v (2 ^ (5 * d))) (is_shift d w v) next)

shift : (d : ℕ) (words : List ℕ) → are_shifts d words ≡ true
    → (i w v : ℕ) → slice_get words i ≡ Some w → slice_get words (suc i) ≡ Some v
    → (n : ℕ) → digit_of v n ≡ fe32.mul (digit_of w n) fe32.generator
shift d [] h i w v e f n = cc
shift d (x ∷ []) h i w v e f n = cc
shift d (x ∷ y ∷ words) h zero w v e f n =
    let first : x ≡ w = cc in
    let second : y ≡ v = cc in
    subst (λ b. digit_of b n ≡ fe32.mul (digit_of w n) fe32.generator) second
    (subst (λ a. digit_of y n ≡ fe32.mul (digit_of a n) fe32.generator)
    first (first_shift d x y words h n))
shift d (x ∷ y ∷ words) h (suc i) w v e f n =
    shift d (y ∷ words)
    (and_right (next_is_shift d x (y ∷ words))
    (are_shifts d (y ∷ words)) (and_right (nat_lt x (2 ^ (5 * d))) _ h))
    i w v e f n

pub number_eq : (x y : ℕ) → IsTrue (x == y) ↔ (x ≡ y)
number_eq x y = (λ h. eqb-true x y h, λ e. eq-eqb x y e)

-- xor adds the digits at each place
pub xor_digits : (x y r : ℕ) → r ≡ bit_xor x y → (n : ℕ)
    → digit_of r n ≡ fe32.add (digit_of x n) (digit_of y n)
xor_digits x y r h n =
    ap (λ m. digit_of m n) h
    ∙ fe32.path _ _
    (ap (λ w. w % 32) (xor_shr x y (5 * n)) ∙ xor_mod (x / 2 ^ (5 * n)) (y / 2 ^ (5 * n)) 5)

-- a row of zeros is its own product with the generator of the field
pub zero_shift : (n : ℕ) → digit_of 0 n ≡ fe32.mul (digit_of 0 n) fe32.generator
unfolding product
zero_shift n =
    let e : 0 / 2 ^ (5 * n) ≡ 0 = zero-div (2 ^ (5 * n)) in
    fe32.path _ _ (rw e refl)

-- whether words of d elements, in rows of `width`, keep the packing laws with a target
abbrev pub are_packed : ℕ → ℕ → List ℕ → ℕ → Bool
are_packed width d words target =
    nat_lt 0 d
    && (nat_lt d (suc width)
    && ((length words == 5) && (are_shifts d words && nat_lt target (2 ^ (5 * d)))))

-- by that test they do
pub keeps : (width d : ℕ) (words : List ℕ) (target : ℕ) → are_packed width d words target ≡ true
    → KeepsPackingLaws (λ (x : ℕ). x) width d words target
keeps width d words target h =
    let some : 0 < d = ltb-true 0 d (and_left (nat_lt 0 d) _ h) in
    let h1 = and_right (nat_lt 0 d) _ h in
    let within : d < suc width = ltb-true d (suc width) (and_left (nat_lt d (suc width)) _ h1) in
    let h2 = and_right (nat_lt d (suc width)) _ h1 in
    let h3 = and_right (length words == 5) _ h2 in
    let shifts : are_shifts d words ≡ true = and_left (are_shifts d words) _ h3 in
    record {
      fits = omega arith;
      empty = λ none. absurd (omega arith);
      five = eqb-true (length words) 5 (and_left (length words == 5) _ h2);
      shifts = shift d words shifts;
      words_clear = clear d words shifts;
      target_clear = ltb-true target (2 ^ (5 * d)) (and_right (are_shifts d words) _ h3);
    }

-- rows that hold nothing do
pub null_keeps : {R : Type 0} (words : List R) (target : R) → length words ≡ 5
    → KeepsPackingLaws (λ (_ : R). 0) 0 0 words target
null_keeps words target five = record {
  fits = omega arith;
  empty = λ _. refl;
  five = five;
  shifts = λ i w v _ _ n. zero_shift n;
  words_clear = λ i w _. omega arith;
  target_clear = omega arith;
}

-- words keep the laws with another target that has no bit past their elements
pub retargeted : {R : Type 0} {number : R → ℕ} {width degree : ℕ} {words : List R} {target : R}
    → KeepsPackingLaws number width degree words target
    → {other : R} → HasDigits degree (number other)
    → KeepsPackingLaws number width degree words other
retargeted kept clear = record {
  fits = kept.fits;
  empty = kept.empty;
  five = kept.five;
  shifts = kept.shifts;
  words_clear = kept.words_clear;
  target_clear = clear;
}
