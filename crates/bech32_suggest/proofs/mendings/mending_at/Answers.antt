use Rattle.std.proofs.Common.{arith}
use Rattle.bech32_suggest.proofs.Fronts.{not_longer, replaced}
use Rattle.bech32_suggest.proofs.mendings.mending_at.Goals as goal

pub slice_bounds-begins_swapped-count : goal.slice_bounds-begins_swapped-count
slice_bounds-begins_swapped-count c = let high = not_longer c.args.typed.now c.args.text.now in omega (arith, c.requires, high.0)

pub slice_bounds-begins_swapped-start : goal.slice_bounds-begins_swapped-start
slice_bounds-begins_swapped-start c = let high = not_longer c.args.typed.now c.args.text.now in omega (arith, c.requires, high.0)

pub slice_bounds-begins_swapped-count-2 : goal.slice_bounds-begins_swapped-count-2
slice_bounds-begins_swapped-count-2 c = let high = not_longer c.args.typed.now c.args.text.now in omega (arith, c.requires, high.1)

pub slice_bounds-begins_swapped-start-2 : goal.slice_bounds-begins_swapped-start-2
slice_bounds-begins_swapped-start-2 c = let high = not_longer c.args.typed.now c.args.text.now in omega (arith, c.requires, high.1)

pub returns : goal.returns
returns c =
    replaced c.args.typed.now c.args.text.now c.args.place c.begins_swapped.result (omega (arith, c.if-text-typed.false)) (omega (arith, c.if-typed-text.false)) c.requires c.if-place-typed.false
    c.begins_swapped.ensures c.if-begins_swapped.false
