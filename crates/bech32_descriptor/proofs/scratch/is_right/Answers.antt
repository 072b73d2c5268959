use Rattle.std.proofs.Common.{refl}
use Rattle.std.proofs.lemmas.Bool.{false≢true}
use Rattle.bech32_descriptor.specs.Descriptor.{polynomial_of}
use Rattle.bech32_descriptor.proofs.Verdicts.{grammar_is}
use Rattle.bech32_descriptor.proofs.scratch.is_right.Goals as goal

pub returns-then-not-is_target : goal.returns-then-not-is_target
returns-then-not-is_target c = (
  λ t. absurd (false≢true t),
  λ d. (c.if-not-is_target.ensures (polynomial_of c.args.text.now) c.requires).1 d.has_target,
)

pub returns : goal.returns
returns c =
    grammar_is c.grammar_fault.result c.is_none.result c.args.text.now c.is_none.ensures c.grammar_fault.ensures
    ((c.if-not-is_target.ensures (polynomial_of c.args.text.now) c.requires).0 refl)
