use Rattle.std.proofs.lemmas.Bool.{false≢true}
use Rattle.bech32_descriptor.specs.Descriptor.{polynomial_of}
use Rattle.bech32_descriptor.proofs.checks.check.Goals as goal

pub returns-then-not-is_target-clause-value : goal.returns-then-not-is_target-clause-value
returns-then-not-is_target-clause-value c =
    (c.in_default.ensures, λ r. false≢true ((c.if-not-is_target.ensures (polynomial_of c.args.text.now) c.residue_of.ensures).1 r))

pub returns-then-not-is_target-clause-accepts : goal.returns-then-not-is_target-clause-accepts
returns-then-not-is_target-clause-accepts c =
    λ d. absurd (false≢true ((c.if-not-is_target.ensures (polynomial_of c.args.text.now) c.residue_of.ensures).1 d.has_target))
