use Rattle.bech32_gf.proofs.gf32.operators.Fe32Sub.sub.Goals as goal

pub returns : goal.returns
returns c = c.difference_with.ensures
