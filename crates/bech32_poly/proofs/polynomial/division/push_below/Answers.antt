use Rattle.std.proofs.Common.{rules, ◌<◌, ◌≤◌, length, arith}
use Rattle.bech32_poly.proofs.Below.{moved_next, out_at, all_moved}
use Rattle.bech32_poly.proofs.polynomial.division.push_below.Goals as goal

pub loop-i-preserved : goal.loop-i-preserved
loop-i-preserved g c =
    let within : c.loop-i.i < length c.args.rest.now = omega arith in
    record {
      moved = moved_next c.args.next c.loop-i.coming c.args.rest.now c.loop-i.rest c.loop-i.i within c.loop-i.invariant.moved c.loop-i.invariant.out;
      out = out_at c.args.next c.index-rest-i.result c.args.rest.now c.loop-i.rest c.loop-i.i within c.loop-i.invariant.moved c.index-rest-i.is;
    }

pub returns-clause-rest : goal.returns-clause-rest
returns-clause-rest g c =
    let all : length c.args.rest.now ≤ c.loop-i.i = search rules in
    all_moved g.met.F.Arithmetic.laws c.args.next c.args.rest.now c.loop-i.rest c.loop-i.i all c.loop-i.invariant.moved
