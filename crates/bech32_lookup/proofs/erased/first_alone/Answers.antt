use Rattle.std.proofs.Common.{refl, arith}
use Rattle.bech32_gf.specs.Fe32 as fe32
use Rattle.bech32_lookup.proofs.erased.first_alone.Goals as goal

pub returns-then-pivot_below-size : goal.returns-then-pivot_below-size
returns-then-pivot_below-size c = λ h. c.pivot_below.ensures.found c.if-pivot_below-size.true (h c.pivot_below.result c.if-pivot_below-size.true)

pub returns : goal.returns
returns c = (fe32.path _ fe32.one refl, λ place less. c.pivot_below.ensures.before place (omega (arith, less, c.if-pivot_below-size.false)))
