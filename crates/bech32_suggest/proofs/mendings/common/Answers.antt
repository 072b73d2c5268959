use Rattle.std.proofs.Common.{◌<◌, length, sym, arith}
use Rattle.bech32_suggest.proofs.Fronts.{differ_at, not_longer, same_at}
use Rattle.bech32_suggest.proofs.mendings.common.Goals as goal

pub returns-then-typed-i : goal.returns-then-typed-i
returns-then-typed-i c =
    let less : c.loop-i.i < length c.args.typed.now = omega (arith, c.loop-i-test.true, c.min-most.ensures) in
    let less_text : c.loop-i.i < length c.args.text.now = omega (arith, c.loop-i-test.true, c.min-most.ensures) in
    sym (differ_at c.args.typed.now c.args.text.now c.loop-i.i less less_text c.loop-i.invariant c.if-typed-i.true)

pub loop-i-preserved : goal.loop-i-preserved
loop-i-preserved c =
    let less : c.loop-i.i < length c.args.typed.now = omega (arith, c.loop-i-test.true, c.min-most.ensures) in
    let less_text : c.loop-i.i < length c.args.text.now = omega (arith, c.loop-i-test.true, c.min-most.ensures) in
    same_at c.args.typed.now c.args.text.now c.loop-i.i less less_text c.loop-i.invariant c.if-typed-i.false

pub returns : goal.returns
returns c =
    let low = c.loop-i.invariant in
    let high = not_longer c.args.typed.now c.args.text.now in
    omega (arith, low, high.0, high.1, c.loop-i-test.false, c.loop-i.auto.i-end, c.min-most.ensures)
