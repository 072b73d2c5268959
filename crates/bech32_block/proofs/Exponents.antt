-- Powers of one element, by exponents.
use Rattle.std.proofs.Common.{◌≡◌, ℕ, ◌+◌, ◌-◌, ◌*◌, ◌%◌, ◌<◌, ◌≤◌, sym, ap, ◌∙◌}
use native.Mathlib.Omega.{arith}
use mathlib.Core.Logic.{◌≢◌}
use Rattle.std.proofs.Math.Decide.{dec_lt}
use Rattle.std.proofs.Math.Nat.{mod-add-mod, mul-mod_right}
use Rattle.std.proofs.lemmas.Nat.{mul-mod_first}
use Rattle.bech32_block.specs.Series.{IsPeriod}

-- `at` is the exponent of the k-th power, and none before is `wanted`
pub record Tried (n d wanted k at : ℕ) : Type 0 where
  pub stands : at ≡ (k * d) % n
  pub none : (j : ℕ) → j < k → (j * d) % n ≢ wanted

-- the same, where the first power does not count
pub record Stepped (n d k at : ℕ) : Type 0 where
  pub stands : at ≡ ((k - 1) * d) % n
  pub none : (j : ℕ) → 0 < j → j < k → (j * d) % n ≢ 0

next_power : (n d k : ℕ) → ((k * d) % n + d) % n ≡ ((k + 1) * d) % n
next_power n d k = mod-add-mod (k * d) n d ∙ ap (λ x. x % n) sum
  where
    sum : k * d + d ≡ (k + 1) * d
    sum = grind arith

pub tried_more : (n d wanted k at at' : ℕ) → Tried n d wanted k at → at ≢ wanted → at' ≡ (at + d) % n → Tried n d wanted (k + 1) at'
tried_more n d wanted k at at' t differ e = record {
  stands = e ∙ ap (λ x. (x + d) % n) t.stands ∙ next_power n d k;
  none = λ j l. elim (dec_lt j k) [
    | yes p ↦ t.none j p
    | no p ↦ let same : j ≡ k = omega arith in λ q. differ (t.stands ∙ ap (λ m. (m * d) % n) (sym same) ∙ q)
  ];
}

-- n powers are all
pub never : (n d wanted k at : ℕ) → 0 < n → n ≤ k → Tried n d wanted k at → (m : ℕ) → (m * d) % n ≢ wanted
never n d wanted k at lo all t m e = let below : m % n < n = omega arith in t.none (m % n) (omega arith) (mul-mod_first m d n ∙ e)

stepped_at : (n d k at at' : ℕ) → Stepped n d k at → 0 < k → at' ≡ (at + d) % n → at' ≡ (k * d) % n
stepped_at n d k at at' s lo e = let up : k - 1 + 1 ≡ k = omega arith in e ∙ ap (λ x. (x + d) % n) s.stands ∙ next_power n d (k - 1) ∙ ap (λ m. (m * d) % n) up

pub stepped_more : (n d k at at' : ℕ) → Stepped n d k at → 0 < k → at' ≡ (at + d) % n → at' ≢ 0 → Stepped n d (k + 1) at'
stepped_more n d k at at' s lo e differ =
    let is : at' ≡ (k * d) % n = stepped_at n d k at at' s lo e in
    let back : k ≡ k + 1 - 1 = omega arith in
    record {
      stands = is ∙ ap (λ m. (m * d) % n) back;
      none = λ j l u. elim (dec_lt j k) [
        | yes p ↦ s.none j l p
        | no p ↦ let same : j ≡ k = omega arith in λ q. differ (is ∙ ap (λ m. (m * d) % n) (sym same) ∙ q)
      ];
    }

pub returned : (n d k at at' : ℕ) → Stepped n d k at → 0 < k → at' ≡ (at + d) % n → at' ≡ 0 → IsPeriod n d k
returned n d k at at' s lo e z = record { positive = lo; returns = sym (stepped_at n d k at at' s lo e) ∙ z; least = s.none }

pub whole : (n d k at : ℕ) → 0 < n → k ≡ n → Stepped n d k at → IsPeriod n d n
whole n d k at lo same s = record {
  positive = lo;
  returns = comes n;
  least = λ j l u. s.none j l (omega arith);
}
  where
    comes : (m : ℕ) → (m * d) % m ≡ 0
    comes m = mul-mod_right m d
