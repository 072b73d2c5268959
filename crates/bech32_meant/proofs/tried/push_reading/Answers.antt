use Rattle.std.proofs.Common.{◌≡◌, ◌∙◌, ◌-◌, ℕ, List, ap, drop, map, subst}
use Rattle.std.specs.Prelude.{string_bytes}
use Rattle.bech32_hrp.specs.HrpBytes.{hrp_bytes}
use Rattle.bech32_typed.specs.Frames.{frames_by}
use Rattle.bech32_typed.specs.Tries.{tries_by, with_errors}
use Rattle.bech32_meant.specs.Added.{AddsAll, AddsTry, Answer}
use Rattle.bech32_meant.proofs.Adding.{adds-next_number}
use Rattle.bech32_meant.proofs.tried.push_reading.Goals as goal

pub loop-made-preserved : goal.loop-made-preserved
loop-made-preserved g c =
    let asked = c.args.asked.now in
    let Adds = AddsTry (hrp_bytes asked.hrp.now) asked.slips in
    let we = with_errors (c.args.left - c.loop-made.made) in
    let middle : List Answer = map (λ s. (string_bytes s.text, s.slips)) c.loop-made.found.items in
    let after : List Answer = map (λ s. (string_bytes s.text, s.slips)) c.push_frames.new.found.items in
    let new : map (λ f. f.items) c.since-new.result.now ≡ frames_by c.loop-made.made c.args.part.now =
    ap (map (λ f. f.items)) (c.since-new.ensures ∙ ap (drop c.in_ok-before.before) c.as_slice.ensures.keys) ∙ c.in_ok-before.ensures.new in (
      c.in_ok-before.ensures.all,
      adds-next_number Adds (tries_by c.args.part.now c.args.left) _ middle after c.loop-made.made c.loop-made.invariant.1
          (subst (λ (fs : List (List ℕ)). AddsAll Adds middle (map we fs) after) new c.in_ok-push_frames.ensures),
    )
