use Rattle.std.proofs.Common.{◌∙◌, arith, ap, sym}
use Rattle.bech32_typed.specs.Fronts.{is_by_one}
use Rattle.bech32_typed.specs.Slips.{after_slip}
use Rattle.bech32_typed.proofs.Any.{any_here, none_more}
use Rattle.bech32_typed.proofs.fronts.is_by_two_of.Goals as goal

pub returns-then-by_one : goal.returns-then-by_one
returns-then-by_one c =
    sym (any_here (is_by_one c.args.right.now) (after_slip c.args.slip c.args.front.now) c.loop-i.i _ (omega (arith, c.loop-i-test.true, c.places_of-i-end.ensures))
    (ap (is_by_one c.args.right.now) (sym (c.as_slice.ensures.value ∙ c.undone-frame.ensures)) ∙ sym c.by_one.ensures ∙ c.if-by_one.true))

pub loop-i-preserved : goal.loop-i-preserved
loop-i-preserved c =
    none_more (is_by_one c.args.right.now) (after_slip c.args.slip c.args.front.now) c.loop-i.i c.loop-i.invariant
    (ap (is_by_one c.args.right.now) (sym (c.as_slice.ensures.value ∙ c.undone-frame.ensures)) ∙ sym c.by_one.ensures ∙ c.if-by_one.false)
