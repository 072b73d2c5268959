-- No three locations below 89 serve, in any order.
use Rattle.std.specs.Prelude.{Bool, true, false, not, cond, ◌==◌}
use Rattle.std.proofs.Common.{◌≡◌, ◌≢◌, ◌⊎◌, inl, inr, ℕ, zero, suc, ◌+◌, ◌-◌, ◌*◌, ◌%◌, ◌<◌, sym, ap, ◌∙◌, refl, arith}
use Rattle.std.proofs.Math.Decide.{dec_lt}
use Rattle.std.proofs.lemmas.Bool.Decides.{eqb_tells}
use Rattle.bech32_gf.specs.Field.{power}
use Rattle.bech32_gf.specs.laws.Below.{each_below, each_below-at}
use Rattle.bech32_gf_ext.specs.Fe1024 as fe1024
use Rattle.bech32_gf_ext.specs.Fe1024.{add, mul}
use Rattle.bech32_gf_ext.specs.laws.Fe1024Laws.{is_field}
use Rattle.bech32_gf_ext.specs.declared.Fe32Ext.{Fe32Ext}
use Rattle.bech32_detect.proofs.Triples.{z, first, second, third, fine}
use Rattle.bech32_detect.proofs.Computed.{all_fine}
use Rattle.bech32_detect.proofs.Gaps.{locator, unit, unit-add, from_one-power, gap, same_exponents}

-- the 31st power of the difference of the locator and one
abbrev pub from_one : ℕ → Fe32Ext 2
from_one i = power fe1024.ops (add fe1024.one (locator i)) 31

-- the 31st power of the difference of two locators
abbrev pub between : ℕ → ℕ → Fe32Ext 2
between i j = power fe1024.ops (add (locator i) (locator j)) 31

-- what four errors with remainder zero, one of them at 0, say of the locations of the others
pub record Meets (i j k : ℕ) : Type 0 where
  pub at_first : mul (from_one j) (from_one k) ≡ mul (unit (24 * i)) (mul (between i j) (between i k))
  pub at_second : mul (from_one i) (from_one k) ≡ mul (unit (24 * j)) (mul (between j i) (between j k))
  pub at_third : mul (from_one i) (from_one j) ≡ mul (unit (24 * k)) (mul (between k i) (between k j))

turn : (x y u v w : Fe32Ext 2) → mul x y ≡ mul u (mul v w) → mul y x ≡ mul u (mul w v)
turn x y u v w h = is_field.mul_comm y x ∙ h ∙ ap (mul u) (is_field.mul_comm v w)

first_turned : (i j k : ℕ) → Meets i j k → Meets j i k
first_turned i j k h = record { at_first = h.at_second; at_second = h.at_first; at_third = turn _ _ _ _ _ h.at_third }

last_turned : (i j k : ℕ) → Meets i j k → Meets i k j
last_turned i j k h = record { at_first = turn _ _ _ _ _ h.at_first; at_second = h.at_third; at_third = h.at_second }

between-turned : (i j : ℕ) → between j i ≡ between i j
between-turned i j = ap (λ u. power fe1024.ops u 31) (is_field.add_comm (locator j) (locator i))

summed : (x y u v w : Fe32Ext 2) (k l m n p : ℕ) → x ≡ unit k → y ≡ unit l → u ≡ unit m → v ≡ unit n → w ≡ unit p → mul x y ≡ mul u (mul v w) → unit (k + l) ≡ unit (m + (n + p))
summed x y u v w k l m n p ex ey eu ev ew h =
    sym (unit-add k l)
    ∙ ap (λ t. mul t (unit l)) (sym ex) ∙ ap (mul x) (sym ey)
    ∙ h
    ∙ ap (λ t. mul t (mul v w)) eu ∙ ap (λ t. mul (unit m) (mul t w)) ev ∙ ap (λ t. mul (unit m) (mul (unit n) t)) ew
    ∙ ap (mul (unit m)) (unit-add n p)
    ∙ unit-add m (n + p)

same_true : (m n : ℕ) → m ≡ n → (m == n) ≡ true
same_true m n e = step (eqb_tells m n)
  where
    step : ((m == n) ≡ true × (m ≡ n)) ⊎ ((m == n) ≡ false × (m ≢ n)) → (m == n) ≡ true
    step (inl h) = h.0
    step (inr h) = absurd (h.1 e)

not_fine : (x y w : Bool) → x ≡ true → y ≡ true → w ≡ true → cond x (cond y (not w) true) true ≡ true → ⊥
not_fine true true true ex ey ew h = cc
not_fine true true false ex ey ew h = cc
not_fine true false w ex ey ew h = cc
not_fine false y w ex ey ew h = cc

fine_below : (a b c : ℕ) → a < b → b < c → c < 88 → fine (suc a) (suc b) (suc c) ≡ true
fine_below a b c lo mid hi =
    let at_c = each_below-at 88 (λ c. each_below c (λ b. each_below b (λ a. fine (suc a) (suc b) (suc c)))) all_fine c hi in
    let at_b = each_below-at c (λ b. each_below b (λ a. fine (suc a) (suc b) (suc c))) at_c b mid in
    each_below-at b (λ a. fine (suc a) (suc b) (suc c)) at_b a lo

fine_at : (a b c : ℕ) → 0 < a → a < b → b < c → c < 89 → fine a b c ≡ true
fine_at zero b c some lo mid hi = absurd (omega arith)
fine_at (suc a) zero c some lo mid hi = absurd (omega arith)
fine_at (suc a) (suc b) zero some lo mid hi = absurd (omega arith)
fine_at (suc a) (suc b) (suc c) some lo mid hi = fine_below a b c (omega arith) (omega arith) (omega arith)

rising : (a b c : ℕ) → 0 < a → a < b → b < c → c < 89 → Meets a b c → ⊥
rising a b c some lo mid hi h = not_fine (first a b c) (second a b c) (third a b c) first_true second_true third_true (fine_at a b c some lo mid hi)
  where
    at : (d : ℕ) → 0 < d → d < 89 → from_one d ≡ unit (z d)
    at d p q = from_one-power d p q

    one_two : between a b ≡ unit (a + z (b - a))
    one_two = gap a b lo (omega arith)

    one_three : between a c ≡ unit (a + z (c - a))
    one_three = gap a c (omega arith) hi

    two_three : between b c ≡ unit (b + z (c - b))
    two_three = gap b c mid hi

    first_true : first a b c ≡ true
    first_true =
        let e : 24 * a + ((a + z (b - a)) + (a + z (c - a))) ≡ 26 * a + z (b - a) + z (c - a) = omega arith in
        same_true _ _ (same_exponents _ _ (summed _ _ _ _ _ _ _ _ _ _ (at b (omega arith) (omega arith)) (at c (omega arith) hi) refl one_two one_three h.at_first)
        ∙ ap (λ n. n % 33) e)

    second_true : second a b c ≡ true
    second_true =
        let e : 24 * b + ((a + z (b - a)) + (b + z (c - b))) ≡ 25 * b + a + z (b - a) + z (c - b) = omega arith in
        same_true _ _ (same_exponents _ _ (summed _ _ _ _ _ _ _ _ _ _ (at a some (omega arith)) (at c (omega arith) hi) refl (between-turned a b ∙ one_two) two_three h.at_second)
        ∙ ap (λ n. n % 33) e)

    third_true : third a b c ≡ true
    third_true =
        let e : 24 * c + ((a + z (c - a)) + (b + z (c - b))) ≡ 24 * c + a + b + z (c - a) + z (c - b) = omega arith in
        same_true _ _ (same_exponents _ _ (summed _ _ _ _ _ _ _ _ _ _ (at a some (omega arith)) (at b (omega arith) (omega arith)) refl (between-turned a c ∙ one_three) (between-turned b c ∙ two_three) h.at_third)
        ∙ ap (λ n. n % 33) e)

-- the last of the three is put in its place among two that rise
placed : (i j k : ℕ) → 0 < i → i < j → 0 < k → j < 89 → k < 89 → i ≢ k → j ≢ k → Meets i j k → ⊥
placed i j k some less some_k hj hk n m h = elim (dec_lt j k) [
  | yes p ↦ rising i j k some less p hk h
  | no p ↦ elim (dec_lt i k) [
    | yes q ↦ rising i k j some q (below k j p m) hj (last_turned i j k h)
    | no q ↦ rising k i j some_k (below k i q n) less hj (first_turned i k j (last_turned i j k h))
  ]
]
  where
    below : (k j : ℕ) → (j < k → ⊥) → j ≢ k → k < j
    below k j p m = elim (dec_lt k j) [ yes q ↦ q | no q ↦ absurd (m (both k j p q)) ]
      where
        both : (k j : ℕ) → (j < k → ⊥) → (k < j → ⊥) → j ≡ k
        both k j p q = omega arith

pub never_meet : (i j k : ℕ) → 0 < i → 0 < j → 0 < k → i < 89 → j < 89 → k < 89 → i ≢ j → i ≢ k → j ≢ k → Meets i j k → ⊥
never_meet i j k pi pj pk hi hj hk nij nik njk h = elim (dec_lt i j) [
  | yes p ↦ placed i j k pi p pk hj hk nik njk h
  | no p ↦ elim (dec_lt j i) [
    | yes q ↦ placed j i k pj q pk hi hk njk nik (first_turned i j k h)
    | no q ↦ absurd (nij (both i j p q))
  ]
]
  where
    both : (i j : ℕ) → (i < j → ⊥) → (j < i → ⊥) → i ≡ j
    both i j p q = omega arith
