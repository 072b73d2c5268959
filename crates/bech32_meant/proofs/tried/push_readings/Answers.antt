use Rattle.std.proofs.Common.{◌∙◌, ℕ, List, map, subst}
use Rattle.std.specs.Prelude.{string_bytes}
use Rattle.bech32_hrp.specs.HrpBytes.{hrp_bytes}
use Rattle.bech32_typed.specs.Tries.{tries_of_numbered, tries_of_reading}
use Rattle.bech32_meant.specs.Added.{AddsAll, AddsTry, Answer}
use Rattle.bech32_meant.proofs.Adding.{adds-next_number}
use Rattle.bech32_meant.proofs.tried.push_readings.Goals as goal

pub loop-i-preserved : goal.loop-i-preserved
loop-i-preserved g c =
    let asked = c.args.asked.now in
    let Adds = AddsTry (hrp_bytes asked.hrp.now) asked.slips in
    let middle : List Answer = map (λ s. (string_bytes s.text, s.slips)) c.loop-i.found.items in
    let after : List Answer = map (λ s. (string_bytes s.text, s.slips)) c.push_reading.new.found.items in
    adds-next_number Adds (tries_of_numbered c.args.left c.args.part.now) _ middle after c.loop-i.i c.loop-i.invariant
    (subst (λ (r : List ℕ). AddsAll Adds middle (tries_of_reading c.args.left r) after) (c.as_slice.ensures.value ∙ c.in_ok-read.ensures) c.in_ok-push_reading.ensures)
