use Rattle.std.proofs.Common.{◌<◌, ℕ, length, arith, sym}
use Rattle.bech32_poly.proofs.Steps.{none_multiplied, place_multiplied}
use Rattle.bech32_poly.proofs.fieldvec.multiply_each.Goals as goal

pub loop-i-init : goal.loop-i-init
loop-i-init g c = sym (none_multiplied g.F.Arithmetic.ops c.args.items.now)

pub loop-i-preserved : goal.loop-i-preserved
loop-i-preserved g c =
    let i : ℕ = c.loop-i.i in
    let within : i < length c.args.factors.now = omega arith in
    place_multiplied g.F.Arithmetic.ops c.args.items.now c.args.factors.now c.loop-i.items c.index-items-i.result c.index-factors-i.result c.times.result i within (omega (arith, c.requires))
    c.loop-i.invariant c.index-items-i.is c.index-factors-i.is c.times.ensures
