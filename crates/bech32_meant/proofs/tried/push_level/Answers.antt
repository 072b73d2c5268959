use Rattle.std.proofs.Common.{List, map, subst}
use Rattle.std.specs.Prelude.{string_bytes}
use Rattle.bech32_hrp.specs.HrpBytes.{hrp_bytes}
use Rattle.bech32_typed.specs.Fronts.{front_of}
use Rattle.bech32_typed.specs.Tries.{tries_of_front}
use Rattle.bech32_typed.specs.declared.fronts.Front.{Front}
use Rattle.bech32_meant.specs.Added.{AddsAll, AddsTry, Answer}
use Rattle.bech32_meant.proofs.Adding.{adds-next_item}
use Rattle.bech32_meant.proofs.tried.push_level.Goals as goal

pub loop-i-preserved : goal.loop-i-preserved
loop-i-preserved g c =
    let asked = c.args.asked.now in
    let Adds = AddsTry (hrp_bytes asked.hrp.now) asked.slips in
    let f = tries_of_front c.args.pass c.args.text.now asked.slips in
    let middle : List Answer = map (λ s. (string_bytes s.text, s.slips)) c.loop-i.found.items in
    let after : List Answer = map (λ s. (string_bytes s.text, s.slips)) c.push_front.new.found.items in
    adds-next_item Adds f _ middle after c.args.fronts.now c.loop-i.i (front_of 0 0) c.loop-i-test.true c.loop-i.invariant
    (subst (λ (front : Front). AddsAll Adds middle (f front) after) c.front_at-front.ensures c.in_ok-push_front.ensures)
