use Rattle.std.proofs.Common.{◌∙◌, ℕ, List, map, subst}
use Rattle.std.specs.Prelude.{string_bytes}
use Rattle.bech32_hrp.specs.HrpBytes.{hrp_bytes}
use Rattle.bech32_meant.specs.Added.{AddsFrame, Answer, with_first_read}
use Rattle.bech32_meant.proofs.Adding.{all_of, more_of}
use Rattle.bech32_meant.proofs.tried.push_with_each.Goals as goal

pub loop-i-preserved : goal.loop-i-preserved
loop-i-preserved g c =
    let asked = c.args.asked.now in
    let Adds = AddsFrame (hrp_bytes asked.hrp.now) asked.slips c.args.errors in
    let middle : List Answer = map (λ s. (string_bytes s.text, s.slips)) c.loop-i.found.items in
    let after : List Answer = map (λ s. (string_bytes s.text, s.slips)) c.push_frame.new.found.items in
    more_of Adds (with_first_read c.args.frame.now) c.args.characters.now _ middle after c.loop-i.i 0 c.loop-i-test.true c.loop-i.invariant
    (subst (λ (f : List ℕ). Adds middle f after) (c.as_slice.ensures.value ∙ c.with_first_unread-one.ensures) c.in_ok-push_frame.ensures)

pub returns : goal.returns
returns g c =
    let asked = c.args.asked.now in
    all_of (AddsFrame (hrp_bytes asked.hrp.now) asked.slips c.args.errors) (with_first_read c.args.frame.now) c.args.characters.now _ _ c.loop-i.i c.loop-i-test.false c.loop-i.invariant
