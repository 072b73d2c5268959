-- What one element does to an engine, on numbers.
use Rattle.std.proofs.Common.{◌≡◌, ◌<◌, ◌≤◌, ◌+◌, ◌-◌, ◌*◌, ◌%◌, ◌^◌, ℕ, zero, suc, List, [], ◌∷◌, length, subst, refl, sym, ◌∙◌, ap, arith}
use Rattle.std.proofs.Math.Pow.{pow-lt}
use Rattle.bech32_gf.specs.declared.gf32.Fe32.{Fe32}
use Rattle.bech32_gf.specs.Fe32 as fe32
use Rattle.bech32_gf.specs.laws.Fe32Laws.{is_field}
use Rattle.bech32_gf.specs.Field.{Ops}
use Rattle.bech32_poly.specs.Polynomial.{add, scale}
use Rattle.bech32_poly.specs.Remainder.{IsRemainder}
use Rattle.bech32_poly.proofs.Lists.{same_cons}
use Rattle.bech32_poly.proofs.Remainder.{remainder_unique, remainder_exists}
use Rattle.bech32_poly.specs.Division.{step, push, top}
use Rattle.bech32_checksum.specs.Packed.{digit_of, digits, tabulate, HasDigits, highest_digit, pushed_digits}
use Rattle.bech32_checksum.proofs.Digits.{shifted_lowest, shifted_higher, shifted-lt}

-- what falls out at the top, what stays, and sums, of tabulated rows
module _ {F : Type 0} (o : Ops F) where
  top-tabulate : (a : F) (c : ℕ) (f : ℕ → F) → top a (tabulate (suc c) f) ≡ f c
  top-tabulate a zero f = refl
  top-tabulate a (suc c) f = top-tabulate (f 0) c (λ i. f (suc i))

  push-tabulate : (c : ℕ) (a : F) (f h : ℕ → F) → h 0 ≡ a → ((n : ℕ) → n < c → h (suc n) ≡ f n)
      → push a (tabulate (suc c) f) ≡ tabulate (suc c) h
  push-tabulate zero a f h first later = same_cons _ _ _ _ (sym first) refl
  push-tabulate (suc c) a f h first later =
      same_cons _ _ _ _ (sym first)
      (push-tabulate c (f 0) (λ i. f (suc i)) (λ i. h (suc i)) (later 0 (omega arith)) (λ n below. later (suc n) (omega arith)))

  add-tabulate : (c : ℕ) (f g h : ℕ → F) → ((n : ℕ) → h n ≡ o.add (f n) (g n)) → add o (tabulate c f) (tabulate c g) ≡ tabulate c h
  add-tabulate zero f g h each = refl
  add-tabulate (suc c) f g h each =
      same_cons _ _ _ _ (sym (each 0)) (add-tabulate c (λ i. f (suc i)) (λ i. g (suc i)) (λ i. h (suc i)) (λ n. each (suc n)))

step_digits : (low : List Fe32) (width old shifted product final xn : ℕ) (e : Fe32)
    → length low ≤ width
    → (0 < width → xn ≡ highest_digit (length low) old)
    → (0 < width → shifted ≡ pushed_digits (length low) old e.value)
    → digits (length low) product ≡ scale fe32.ops (fe32.element xn) low
    → ((n : ℕ) → digit_of final n ≡ fe32.add (digit_of shifted n) (digit_of product n))
    → step fe32.ops low (digits (length low) old) e ≡ digits (length low) final
step_digits [] width old shifted product final xn e within high rest scaled law = refl
step_digits (a ∷ lower) width old shifted product final xn e within high rest scaled law =
    let low : List Fe32 = a ∷ lower in
    let c : ℕ = length lower in
    let wide : 0 < width = omega arith in
    let less : suc c - 1 ≡ c = omega arith in
    let top_is : fe32.element xn ≡ digit_of old c = ap fe32.element (rw less at (high wide)) in
    let shifted_is : shifted ≡ (old % 2 ^ (5 * c)) * 32 + e.value = rw less at (rest wide) in
    let first : digit_of shifted 0 ≡ e =
    ap (λ m. digit_of m 0) shifted_is ∙ fe32.path (digit_of ((old % 2 ^ (5 * c)) * 32 + e.value) 0) e (shifted_lowest (old % 2 ^ (5 * c)) e.value e.in_field) in
    let pushed : push e (digits (suc c) old) ≡ digits (suc c) shifted =
    push-tabulate fe32.ops c e (digit_of old) (digit_of shifted) first
    (λ n below. ap (λ m. digit_of m (suc n)) shifted_is ∙ shifted_higher old c e.value n e.in_field below) in
    ap (λ x. add fe32.ops (push e (digits (suc c) old)) (scale fe32.ops x low)) (top-tabulate fe32.ops e c (digit_of old) ∙ sym top_is)
    ∙ (ap (λ r. add fe32.ops (push e (digits (suc c) old)) r) (sym scaled)
    ∙ (ap (λ r. add fe32.ops r (digits (suc c) product)) pushed
    ∙ add-tabulate fe32.ops (suc c) (digit_of shifted) (digit_of product) (digit_of final) law))

-- the remainder of the polynomial with one more coefficient below, where the degree is the one that the code says
pub input_result : (low p : List Fe32) (d width old shifted product final xn : ℕ) (e : Fe32)
    → length low ≡ d → d ≤ width
    → (0 < width → xn ≡ highest_digit d old)
    → (0 < width → shifted ≡ pushed_digits d old e.value)
    → digits d product ≡ scale fe32.ops (fe32.element xn) low
    → ((n : ℕ) → digit_of final n ≡ fe32.add (digit_of shifted n) (digit_of product n))
    → IsRemainder fe32.ops low p (digits (length low) old)
    → IsRemainder fe32.ops low (e ∷ p) (digits (length low) final)
input_result low p d width old shifted product final xn e size within high rest scaled law h =
    subst (IsRemainder fe32.ops low (e ∷ p))
    (ap (λ r. step fe32.ops low r e) (sym (remainder_unique is_field low p (digits (length low) old) h))
    ∙ step_digits low width old shifted product final xn e (rw size within) (rw size high) (rw size rest) (rw size scaled) law)
    (remainder_exists is_field low (e ∷ p))

-- the number after an element has no bit past its lowest d digits
pub clear_after : (d width old new e : ℕ) → (d ≡ 0 → width ≡ 0) → (width ≡ 0 → new ≡ 0)
    → (0 < width → new ≡ pushed_digits d old e) → d ≤ width → e < 32 → HasDigits d new
clear_after zero width old new e empty none is within h =
    let zero_there : new ≡ 0 = none (empty refl) in omega arith
clear_after (suc c) width old new e empty none is within h =
    let wide : 0 < width = omega arith in
    let less : suc c - 1 ≡ c = omega arith in
    let there : new ≡ (old % 2 ^ (5 * c)) * 32 + e = rw less at (is wide) in
    rw there (shifted-lt old c e h)

-- the number of the polynomial 1 has no bit past its lowest d digits
pub one_clear : (d width n : ℕ) → (d ≡ 0 → width ≡ 0) → d ≤ width → (width ≡ 0 → n ≡ 0) → (0 < width → n ≡ 1) → HasDigits d n
one_clear zero width n empty within none one = let there : n ≡ 0 = none (empty refl) in omega arith
one_clear (suc c) width n empty within none one =
    let there : n ≡ 1 = one (omega arith) in
    let above : 0 < 5 * suc c = omega arith in
    rw there (pow-lt above)
