use Rattle.std.proofs.Common.{◌∙◌, arith, ap, sym}
use Rattle.bech32_typed.specs.Fronts.{stands_for}
use Rattle.bech32_typed.specs.Slips.{after_slip}
use Rattle.bech32_typed.proofs.Any.{any_here, none_more}
use Rattle.bech32_typed.proofs.fronts.is_by_slip_of.Goals as goal

pub returns-then-stands : goal.returns-then-stands
returns-then-stands c =
    sym (any_here (λ frame. stands_for frame c.args.right.now) (after_slip c.args.slip c.args.front.now) c.loop-i.i _ (omega (arith, c.loop-i-test.true, c.places_of-i-end.ensures))
    (ap (λ f. stands_for f c.args.right.now) (sym (c.as_slice.ensures.value ∙ c.undone-frame.ensures)) ∙ sym c.stands.ensures ∙ c.if-stands.true))

pub loop-i-preserved : goal.loop-i-preserved
loop-i-preserved c =
    none_more (λ frame. stands_for frame c.args.right.now) (after_slip c.args.slip c.args.front.now) c.loop-i.i c.loop-i.invariant
    (ap (λ f. stands_for f c.args.right.now) (sym (c.as_slice.ensures.value ∙ c.undone-frame.ensures)) ∙ sym c.stands.ensures ∙ c.if-stands.false)
