use Rattle.std.proofs.Common.{◌∙◌, sym}
use Rattle.bech32_refusals.proofs.Coefficients.{errors-decide}
use Rattle.bech32_refusals.proofs.error.InvalidResidueErrorPartialEq.eq.Goals as goal

pub returns-clause-polynomials : goal.returns-clause-polynomials
returns-clause-polynomials c =
    let same = errors-decide c.args.self.now c.args.other.now in
    (λ h. same.0 (sym c.is_same.ensures ∙ h), λ p. c.is_same.ensures ∙ same.1 p)
