use Rattle.std.proofs.Common.{◌≡◌, ℕ, List, take, length, ◌<◌, ◌-◌, ◌≤◌, sym, ap, subst, ◌∙◌}
use Rattle.std.specs.Prelude.{◌≢◌}
use Rattle.bech32_gf.specs.Field.{Ops}
use Rattle.bech32_poly.specs.Polynomial.{coefficient, IsSamePolynomial}
use Rattle.bech32_poly.proofs.Trimmed.{trimmed_same, trimmed_leads}
use Rattle.bech32_poly.proofs.polynomial.coefficients.Polynomial.coefficients.Goals as goal

same : {F : Type 0} (o : Ops F) (p q r : List F) (n : ℕ) → q ≡ p → r ≡ p → n ≤ length q → ((k : ℕ) → n ≤ k → coefficient o q k ≡ o.zero) → IsSamePolynomial o (take n r) p
same o p q r n e f within above k =
    ap (λ u. coefficient o (take n u) k) (f ∙ sym e) ∙ trimmed_same o q n within above k ∙ ap (λ u. coefficient o u k) e

leads : {F : Type 0} (o : Ops F) (q r : List F) (n : ℕ) → q ≡ r → n ≤ length q → (0 < n → coefficient o q (n - 1) ≢ o.zero) → 0 < length (take n r) → coefficient o (take n r) (length (take n r) - 1) ≢ o.zero
leads o q r n e within high = subst (λ u. 0 < length (take n u) → coefficient o (take n u) (length (take n u) - 1) ≢ o.zero) e (trimmed_leads o q n within high)

pub returns-clause-same : goal.returns-clause-same
returns-clause-same g c =
    same g.F.Arithmetic.ops c.args.self.now c.as_slice-2.result.now c.as_slice.result.now c.trimmed_length.result (c.as_slice-2.ensures ∙ c.self.view_is) (c.as_slice.ensures ∙ c.self.view_is)
    c.trimmed_length.ensures.within c.trimmed_length.ensures.above

pub returns-clause-trimmed : goal.returns-clause-trimmed
returns-clause-trimmed g c =
    leads g.F.Arithmetic.ops c.as_slice-2.result.now c.as_slice.result.now c.trimmed_length.result (c.as_slice-2.ensures ∙ sym c.as_slice.ensures)
    c.trimmed_length.ensures.within c.trimmed_length.ensures.leads
