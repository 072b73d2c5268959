use Rattle.std.proofs.Common.{◌∙◌, [], ◌∷◌, sym, ap, map}
use Rattle.bech32_typed.specs.Frames.{deeper, is_doubled, with_frames, without_block}
use Rattle.bech32_typed.proofs.Adding.{none_passes, one_passes}
use Rattle.bech32_typed.proofs.frames.add_blocks.Goals as goal
use Rattle.bech32_typed.proofs.frames.add_blocks.Goals.{then-stand_twice+in_ok-add_made, else-stand_twice}

pub loop-i-preserved : goal.loop-i-preserved
loop-i-preserved g c =
    let text = c.args.text.now in
    let size = c.args.size in
    let d = c.args.is_deeper in
    let i = c.loop-i.i in
    let before = map (λ f. f.items) c.args.frames.now.keys in
    elim c.if-stand_twice.branch [
      | then-stand_twice+in_ok-add_made w ↦
          ap (λ frames. map (λ f. f.items) frames.keys) w.frames-is
          ∙ w.in_ok-add_made.ensures
          ∙ ap (λ t. with_frames (map (λ f. f.items) c.loop-i.frames.keys) (deeper d (t ∷ []))) w.without.ensures
          ∙ ap (λ b. with_frames b (deeper d (without_block text size i ∷ []))) c.loop-i.invariant
          ∙ sym (one_passes d before (without_block text size) (is_doubled text size) i (sym c.stand_twice.ensures ∙ w.if-stand_twice.true))
      | else-stand_twice w ↦
          ap (λ frames. map (λ f. f.items) frames.keys) w.frames-is
          ∙ c.loop-i.invariant
          ∙ sym (none_passes d before (without_block text size) (is_doubled text size) i (sym c.stand_twice.ensures ∙ w.if-stand_twice.false))
    ]
