-- Sums up to multiples of n.
use Rattle.std.proofs.Common.{◌≡◌, ℕ, zero, suc, ◌+◌, ◌-◌, ◌*◌, ◌%◌, ◌<◌, ◌≤◌, sym, ap, ◌∙◌}
use native.Mathlib.Omega.{arith}
use mathlib.Core.Logic.{◌≢◌}
use Rattle.std.proofs.Math.Decide.{dec_lt}
use Rattle.std.proofs.Math.Nat.{add-mod_right, mod-add-mod, add-mod-mod, add-mul-mod_self_left, mod-eq_of_lt}
use Rattle.bech32_block.specs.Series.{series_term}

-- the exponent of the ratio of two elements
abbrev pub step_to : ℕ → ℕ → ℕ → ℕ
step_to n a b = (b + n - a) % n

times_one_more : (n w : ℕ) → suc n * w ≡ n * w + w
times_one_more n w = grind arith

-- w can be left out on both sides
pub cancel : (u v w n : ℕ) → 0 < n → (u + w) % n ≡ (v + w) % n → u % n ≡ v % n
cancel u v w n lo e = sym (whole u) ∙ ap (λ r. (r + (n * w - w)) % n) e ∙ whole v
  where
    enough : (m : ℕ) → 0 < m → w ≤ m * w
    enough zero h = absurd (omega arith)
    enough (suc m) h = omega (arith, times_one_more m w)

    whole : (x : ℕ) → ((x + w) % n + (n * w - w)) % n ≡ x % n
    whole x =
        let sum : x + w + (n * w - w) ≡ x + n * w = omega (arith, enough n lo) in
        mod-add-mod (x + w) n (n * w - w) ∙ ap (λ y. y % n) sum ∙ add-mul-mod_self_left x n w

pub term-zero : (n a d : ℕ) → a < n → series_term n a d 0 ≡ a
term-zero n a d h = let e : a + 0 * d ≡ a = grind arith in ap (λ x. x % n) e ∙ mod-eq_of_lt h

pub term-suc : (n a d k : ℕ) → series_term n a d (k + 1) ≡ (series_term n a d k + d) % n
term-suc n a d k = let e : a + (k + 1) * d ≡ a + k * d + d = grind arith in ap (λ x. x % n) e ∙ sym (mod-add-mod (a + k * d) n d)

pub term-one : (n a d : ℕ) → series_term n a d 1 ≡ (a + d) % n
term-one n a d = let e : a + 1 * d ≡ a + d = grind arith in ap (λ x. x % n) e

-- two equal terms: the first comes back as far on as they are apart
pub comes_back : (n a d j k : ℕ) → 0 < n → j < k → series_term n a d j ≡ series_term n a d k → series_term n a d (k - j) ≡ series_term n a d 0
comes_back n a d j k lo less e =
    let s : ℕ = k - j in
    let parts : k ≡ s + j = omega arith in
    cancel (a + s * d) (a + 0 * d) (j * d) n lo (ap (λ x. x % n) (far s) ∙ ap (λ m. (a + m * d) % n) (sym parts) ∙ sym e ∙ ap (λ x. x % n) near)
  where
    far : (s : ℕ) → a + s * d + j * d ≡ a + (s + j) * d
    far s = grind arith

    near : a + j * d ≡ a + 0 * d + j * d
    near = grind arith

-- after n steps it is back
pub term-order : (n a d : ℕ) → series_term n a d n ≡ series_term n a d 0
term-order n a d = add-mul-mod_self_left a n d ∙ ap (λ x. x % n) start
  where
    start : a ≡ a + 0 * d
    start = grind arith

-- the step leads from a to b
pub step-leads : (n a b : ℕ) → a < n → b < n → (a + step_to n a b) % n ≡ b
step-leads n a b lo hi = let e : a + (b + n - a) ≡ b + n = omega arith in add-mod-mod a (b + n - a) n ∙ ap (λ x. x % n) e ∙ add-mod_right b n ∙ mod-eq_of_lt hi

pub step-below : (n a b : ℕ) → 0 < n → step_to n a b < n
step-below n a b h = omega arith

pub step-positive : (n a b : ℕ) → a < n → b < n → a ≢ b → 0 < step_to n a b
step-positive n a b lo hi differ = elim (dec_lt 0 (step_to n a b)) [
  | yes p ↦ p
  | no p ↦
      let none : step_to n a b ≡ 0 = omega arith in
      let still : a + 0 ≡ a = omega arith in
      absurd (differ (sym (mod-eq_of_lt lo) ∙ ap (λ x. x % n) (sym still) ∙ ap (λ x. (a + x) % n) (sym none) ∙ step-leads n a b lo hi))
]

-- and no other below n does
pub step-only : (n a d : ℕ) → a < n → d < n → step_to n a ((a + d) % n) ≡ d
step-only n a d lo hi =
    let s : ℕ = step_to n a ((a + d) % n) in
    let low : 0 < n = omega arith in
    let under : (a + d) % n < n = omega arith in
    let leads : (a + s) % n ≡ (a + d) % n = step-leads n a ((a + d) % n) lo under in
    sym (mod-eq_of_lt (step-below n a ((a + d) % n) low))
    ∙ cancel s d a n low (ap (λ x. x % n) (turn s) ∙ leads ∙ ap (λ x. x % n) (turn_back d))
    ∙ mod-eq_of_lt hi
  where
    turn : (x : ℕ) → x + a ≡ a + x
    turn x = omega arith

    turn_back : (x : ℕ) → a + x ≡ x + a
    turn_back x = omega arith
