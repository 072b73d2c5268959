use Rattle.std.proofs.Common.{◌≡◌, ◌∙◌, ◌-◌, ℕ, drop, List, None, Option, Some, ap, map, subst}
use Rattle.std.specs.List.{list_all}
use Rattle.bech32_typed.specs.Frames.{frames_by, is_frame}
use Rattle.bech32_typed.specs.Tries.{IsTaken, tries_by, with_errors}
use Rattle.bech32_typed.specs.declared.tries.Budget.{Budget}
use Rattle.bech32_typed.proofs.AllFrames.{all-frames_by}
use Rattle.bech32_typed.proofs.Taking.{taken-end, taken-next}
use Rattle.bech32_typed.proofs.tries.take_reading.Goals as goal

pub take_frames-requires-clause-frames : goal.take_frames-requires-clause-frames
take_frames-requires-clause-frames g c =
    ap (λ fs. list_all is_frame (map (λ f. f.items) fs)) (c.since-new.ensures ∙ ap (drop c.in_ok-before.before) c.as_slice.ensures.keys)
    ∙ ap (list_all is_frame) c.in_ok-before.ensures.new
    ∙ all-frames_by c.loop-made.made c.args.part.now

pub returns-in_default : goal.returns-in_default
returns-in_default g c =
    let new : map (λ f. f.items) c.since-new.result.now ≡ frames_by c.loop-made.made c.args.part.now =
    ap (map (λ f. f.items)) (c.since-new.ensures ∙ ap (drop c.in_ok-before.before) c.as_slice.ensures.keys) ∙ c.in_ok-before.ensures.new in
    taken-end (tries_by c.args.part.now c.args.slips) c.args.left c.loop-made.left c.loop-made.made c.loop-made.invariant.1 _ c.loop-made-test.true
    (subst (λ (fs : List (List ℕ)). IsTaken c.loop-made.left (map (with_errors (c.args.slips - c.loop-made.made)) fs) None) new
    (subst (λ (o : Option Budget). IsTaken c.loop-made.left (map (with_errors (c.args.slips - c.loop-made.made)) (map (λ f. f.items) c.since-new.result.now)) o) c.in_default.is
    c.take_frames.ensures))

pub loop-made-preserved : goal.loop-made-preserved
loop-made-preserved g c =
    let new : map (λ f. f.items) c.since-new.result.now ≡ frames_by c.loop-made.made c.args.part.now =
    ap (map (λ f. f.items)) (c.since-new.ensures ∙ ap (drop c.in_ok-before.before) c.as_slice.ensures.keys) ∙ c.in_ok-before.ensures.new in (
      c.in_ok-before.ensures.all,
      taken-next (tries_by c.args.part.now c.args.slips) c.args.left c.loop-made.left c.loop-made.made c.loop-made.invariant.1 c.in-Some.rest
          (subst (λ (fs : List (List ℕ)). IsTaken c.loop-made.left (map (with_errors (c.args.slips - c.loop-made.made)) fs) (Some c.in-Some.rest)) new
          (subst (λ (o : Option Budget). IsTaken c.loop-made.left (map (with_errors (c.args.slips - c.loop-made.made)) (map (λ f. f.items) c.since-new.result.now)) o) c.in-Some.is
          c.take_frames.ensures)),
    )
