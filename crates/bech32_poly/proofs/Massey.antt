-- How long a register has to be.
use Rattle.std.proofs.Common.{◌≡◌, ℕ, suc, ◌+◌, ◌≤◌, ◌-◌, List, sym, ◌∙◌}
use Rattle.std.proofs.Common.{arith}
use Rattle.std.specs.Prelude.{◌≢◌}
use Rattle.bech32_gf.specs.Field.{Ops, IsField}
use Rattle.bech32_poly.specs.Window.{act, Annihilates}
use Rattle.bech32_poly.proofs.Window.{act-zero, act-last, act_comm}

module _ {K : Type 0} {o : Ops K} (l : IsField o) where
  -- where a register misses item len + k, each that makes this item too is longer than k
  pub massey : (s : ℕ → K) (len k m : ℕ) (r q : List K) → Annihilates o s (len + k) len r → act o r s k ≢ o.zero → Annihilates o s (suc (len + k)) m q → m ≤ k → ⊥
  massey s len k m r q good misses other short =
      let t : ℕ = k - m in
      let at_k : t + m ≡ k = omega arith in
      let one_way : act o q (act o r s) t ≡ act o r s (t + m) = act-last l q m (act o r s) t other.monic other.degree (λ j within. good.windows (t + j) (omega arith)) in
      let other_way : act o r (act o q s) t ≡ o.zero = act-zero l r (act o q s) t (λ j within. other.windows (t + j) (omega (arith, good.degree))) in
      misses (sym (rw at_k at one_way) ∙ act_comm l q r s t ∙ other_way)
