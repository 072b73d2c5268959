use Rattle.std.proofs.Common.{◌∙◌, ℕ, List, ap, map, subst}
use Rattle.std.specs.Prelude.{string_bytes}
use Rattle.bech32_hrp.specs.HrpBytes.{hrp_bytes}
use Rattle.bech32_typed.specs.Tries.{with_errors}
use Rattle.bech32_meant.specs.Added.{AddsTry, Answer}
use Rattle.bech32_meant.proofs.Adding.{adds-next_made}
use Rattle.bech32_meant.proofs.tried.push_frames.Goals as goal

pub loop-frame-preserved : goal.loop-frame-preserved
loop-frame-preserved g c =
    let asked = c.args.asked.now in
    let Adds = AddsTry (hrp_bytes asked.hrp.now) asked.slips in
    let we = with_errors c.args.errors in
    let middle : List Answer = map (λ s. (string_bytes s.text, s.slips)) c.loop-frame.found.items in
    let after : List Answer = map (λ s. (string_bytes s.text, s.slips)) c.push_filled.new.found.items in
    adds-next_made Adds we (λ f. f.items) _ middle after c.args.frames.now c.loop-frame.frame-index c.frame-item.result c.loop-frame-test.true c.loop-frame.invariant
    (subst (λ (f : List ℕ). Adds middle (we f) after) (c.as_slice.ensures.value ∙ ap (λ f. f.items) c.frame-item.is) c.in_ok-push_filled.ensures)
