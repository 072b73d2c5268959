use Rattle.std.proofs.Common.{◌+◌, ◌<◌, ℕ, length, arith, sym}
use Rattle.bech32_poly.proofs.LongDivision.{nothing_taken_off, place_written}
use Rattle.bech32_poly.proofs.fieldvec.add_multiple.Goals as goal

pub loop-i-init : goal.loop-i-init
loop-i-init g c = sym (nothing_taken_off g.met.F.Arithmetic.laws c.args.target.now c.args.factor c.args.shift (omega arith))

pub loop-i-preserved : goal.loop-i-preserved
loop-i-preserved g c =
    let i : ℕ = c.loop-i.i in
    let within : i < length c.args.source.now = omega arith in
    let room : c.args.shift + i < length c.args.target.now = omega (arith, c.requires) in
    place_written g.met.F.Arithmetic.laws c.args.target.now c.args.source.now c.loop-i.target c.args.factor c.index-target-shift.result c.index-source-i.result c.times.result c.plus.result c.args.shift i within room
    c.loop-i.invariant c.index-target-shift.is c.index-source-i.is c.times.ensures c.plus.ensures
