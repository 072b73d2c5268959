use Rattle.std.proofs.Common.{◌∙◌}
use Rattle.bech32_lookup.proofs.OneError.{not_zero_by_ne}
use Rattle.bech32_lookup.proofs.erased.pivot_below.Goals as goal

pub returns-then-ne-clause-found : goal.returns-then-ne-clause-found
returns-then-ne-clause-found c = λ less z. not_zero_by_ne c.listed_coefficient.result c.ne.result c.ne.ensures c.if-ne.true (c.listed_coefficient.ensures ∙ z)
