use Rattle.std.proofs.Common.{◌∙◌, sym, ap, map}
use Rattle.bech32_typed.specs.Frames.{slipped, with_frames}
use Rattle.bech32_typed.specs.Slips.{after_slip}
use Rattle.bech32_typed.proofs.Adding.{one_deeper}
use Rattle.bech32_typed.proofs.frames.add_second_slips_of.Goals as goal

pub loop-i-preserved : goal.loop-i-preserved
loop-i-preserved g c =
    let before = map (λ f. f.items) c.args.frames.now.keys in
    let f = after_slip c.args.slip c.args.text.now in
    c.in_ok-add_slips.ensures
    ∙ ap (λ t. with_frames (map (λ f. f.items) c.loop-i.frames.keys) (slipped t)) (c.as_slice.ensures.value ∙ c.undone-one.ensures)
    ∙ ap (λ b. with_frames b (slipped (f c.loop-i.i))) c.loop-i.invariant
    ∙ sym (one_deeper before f c.loop-i.i)
