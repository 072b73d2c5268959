use Rattle.std.proofs.Common.{◌∙◌, ◌∷◌, [], sym, ap, map}
use Rattle.bech32_typed.specs.Frames.{with_frames, with_three_unread_at}
use Rattle.bech32_typed.proofs.Adding.{one_more}
use Rattle.bech32_typed.proofs.frames.add_three_missing.Goals as goal

pub loop-i-preserved : goal.loop-i-preserved
loop-i-preserved g c =
    let before = map (λ f. f.items) c.args.frames.now.keys in
    let f = with_three_unread_at c.args.text.now in
    c.in_ok-add_frame.ensures
    ∙ ap (λ t. with_frames (map (λ f. f.items) c.loop-i.frames.keys) (t ∷ [])) c.with_three_unread.ensures
    ∙ ap (λ b. with_frames b (f c.loop-i.i ∷ [])) c.loop-i.invariant
    ∙ sym (one_more before f c.loop-i.i)
