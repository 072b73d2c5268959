-- One walk over the roots.
use Rattle.std.specs.List.{Contains}
use Rattle.std.proofs.Common.{◌≡◌, ℕ, ◌+◌, ◌-◌, ◌%◌, ◌<◌, ◌≤◌, List, sym, ap, subst, ◌∙◌}
use native.Mathlib.Omega.{arith}
use mathlib.Core.Logic.{◌≢◌}
use Rattle.std.proofs.Math.Decide.{dec_lt}
use Rattle.bech32_block.specs.Series.{series_term, IsSeries}
use Rattle.bech32_block.proofs.Terms.{term-zero, term-suc, term-order, comes_back}

-- c terms are roots, the last is `at`, and none comes back to a
pub record Walk (n : ℕ) (roots : List ℕ) (a d c at : ℕ) : Type 0 where
  pub stands : at ≡ series_term n a d (c - 1)
  pub are_roots : (k : ℕ) → k < c → Contains roots (series_term n a d k)
  pub away : (k : ℕ) → 0 < k → k < c → series_term n a d k ≢ a

pub walk_start : (n : ℕ) (roots : List ℕ) (a d : ℕ) → a < n → Contains roots a → Walk n roots a d 1 a
walk_start n roots a d lo h = record {
  stands = sym (term-zero n a d lo);
  are_roots = λ k l. let z : 0 ≡ k = omega arith in subst (λ m. Contains roots (series_term n a d m)) z (subst (Contains roots) (sym (term-zero n a d lo)) h);
  away = λ k l u. absurd (omega arith);
}

-- where the next step leads
pub next_is : (n : ℕ) (roots : List ℕ) (a d c at at' : ℕ) → Walk n roots a d c at → 0 < c → at' ≡ (at + d) % n → at' ≡ series_term n a d c
next_is n roots a d c at at' w lo e = let up : c - 1 + 1 ≡ c = omega arith in e ∙ ap (λ x. (x + d) % n) w.stands ∙ sym (term-suc n a d (c - 1)) ∙ ap (series_term n a d) up

pub walk_more : (n : ℕ) (roots : List ℕ) (a d c at at' : ℕ) → Walk n roots a d c at → 0 < c → at' ≡ (at + d) % n → at' ≢ a → Contains roots at' → Walk n roots a d (c + 1) at'
walk_more n roots a d c at at' w lo e differ h =
    let is : at' ≡ series_term n a d c = next_is n roots a d c at at' w lo e in
    let back : c ≡ c + 1 - 1 = omega arith in
    record {
      stands = is ∙ ap (series_term n a d) back;
      are_roots = λ k l. elim (dec_lt k c) [
        | yes p ↦ w.are_roots k p
        | no p ↦ let same : c ≡ k = omega arith in subst (λ m. Contains roots (series_term n a d m)) same (subst (Contains roots) is h)
      ];
      away = λ k l u. elim (dec_lt k c) [
        | yes p ↦ w.away k l p
        | no p ↦ let same : c ≡ k = omega arith in λ q. differ (is ∙ ap (series_term n a d) same ∙ q)
      ];
    }

pub series_of : (n : ℕ) (roots : List ℕ) (a d c at : ℕ) → Walk n roots a d c at → a < n → 0 < d → d < n → IsSeries n roots a d c
series_of n roots a d c at w lo some below = record {
  step_positive = some;
  step_below = below;
  are_roots = w.are_roots;
  different = λ j k less under e. w.away (k - j) (omega arith) (omega arith) (comes_back n a d j k (omega arith) less e ∙ term-zero n a d lo);
}

-- a longer series would come back, or leave the roots
pub stops_back : (n : ℕ) (roots : List ℕ) (a d c len : ℕ) → a < n → 0 < c → series_term n a d c ≡ a → IsSeries n roots a d len → len ≤ c
stops_back n roots a d c len lo some e s = elim (dec_lt c len) [
  | yes p ↦ absurd (s.different 0 c some p (term-zero n a d lo ∙ sym e))
  | no p ↦ omega arith
]

pub stops_out : (n : ℕ) (roots : List ℕ) (a d c len : ℕ) → (Contains roots (series_term n a d c) → ⊥) → IsSeries n roots a d len → len ≤ c
stops_out n roots a d c len never s = elim (dec_lt c len) [
  | yes p ↦ absurd (never (s.are_roots c p))
  | no p ↦ omega arith
]

pub stops_end : (n : ℕ) (roots : List ℕ) (a d c len : ℕ) → 0 < n → n ≤ c → IsSeries n roots a d len → len ≤ c
stops_end n roots a d c len lo all s = elim (dec_lt n len) [
  | yes p ↦ absurd (s.different 0 n lo p (sym (term-order n a d)))
  | no p ↦ omega arith
]
