use Rattle.std.proofs.lemmas.Bool.{eqb-true, eq-eqb}
use Rattle.bech32_descriptor.proofs.Words.{leaves_target, target_alone}
use Rattle.bech32_descriptor.proofs.residue.is_target.Goals as goal

pub returns : goal.returns
returns c p word = (
  λ yes_. leaves_target c.args.residue p word (eqb-true c.args.residue 1 yes_),
  λ wanted. eq-eqb c.args.residue 1 (target_alone c.args.residue p word wanted),
)
