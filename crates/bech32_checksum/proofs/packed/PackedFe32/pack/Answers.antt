use Rattle.bech32_checksum.proofs.PackedRuns.{turn_fits, packed_run, row-clear, row-more}
use Rattle.bech32_checksum.proofs.packed.PackedFe32.pack.Goals as goal

pub mul_by_x_then_add-requires-clause-clear : goal.mul_by_x_then_add-requires-clause-clear
mul_by_x_then_add-requires-clause-clear g c =
    let fit = turn_fits g.I.Iterator.next_gives g.Self.PackedFe32.WIDTH c.args.iter c.requires.fits _ c.into_iter-value-iterator.ensures.into_iter_gives
    c.loop-value.yielded c.loop-value.value-iterator c.loop-value.yielded_by c.in-Some.value c.next.new.self c.in-Some.ensures.steps in
    rw c.WIDTH.ensures (row-clear _ _ c.loop-value.yielded c.in-Some.value c.loop-value.invariant fit)

pub loop-value-preserved : goal.loop-value-preserved
loop-value-preserved g c =
    let fit = turn_fits g.I.Iterator.next_gives g.Self.PackedFe32.WIDTH c.args.iter c.requires.fits _ c.into_iter-value-iterator.ensures.into_iter_gives
    c.loop-value.yielded c.loop-value.value-iterator c.loop-value.yielded_by c.in-Some.value c.next.new.self c.in-Some.ensures.steps in
    row-more _ _ g.Self.PackedFe32.WIDTH c.loop-value.yielded c.in-Some.value c.loop-value.invariant fit
    (rw c.WIDTH.ensures at c.mul_by_x_then_add.ensures.others)

pub returns : goal.returns
returns g c some =
    packed_run g.I.Iterator.next_gives g.Self.PackedFe32.WIDTH c.args.iter c.requires.fits _ c.into_iter-value-iterator.ensures.into_iter_gives
    c.loop-value.yielded c.loop-value.value-iterator c.loop-value.yielded_by _ c.next.new.self c.loop-value.invariant c.in-None.ensures.steps
