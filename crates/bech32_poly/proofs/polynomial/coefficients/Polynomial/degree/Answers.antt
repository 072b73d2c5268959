use Rattle.std.proofs.Common.{subst, ◌∙◌}
use Rattle.bech32_poly.specs.Degree.{IsDegree}
use Rattle.bech32_poly.proofs.Trimmed.{degree_is}
use Rattle.bech32_poly.proofs.polynomial.coefficients.Polynomial.degree.Goals as goal

pub returns : goal.returns
returns g c =
    subst (λ p. IsDegree g.F.Arithmetic.ops p c.saturating_sub.result) (c.as_slice.ensures ∙ c.self.view_is)
    (degree_is g.F.Arithmetic.ops _ _ _ c.trimmed_length.ensures.above c.trimmed_length.ensures.leads c.saturating_sub.ensures)
