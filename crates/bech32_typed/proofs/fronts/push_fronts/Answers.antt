use Rattle.std.proofs.Common.{◌∙◌, ◌≡◌, ap, false, rules, true}
use Rattle.bech32_typed.specs.Fronts.{front_of, is_front_by}
use Rattle.bech32_typed.proofs.Counted.{none_counted, one_counted}
use Rattle.bech32_typed.proofs.fronts.push_fronts.Goals as goal
use Rattle.bech32_typed.proofs.fronts.push_fronts.Goals.{then-slips_to-slips+in_ok-push, else-slips_to-slips}

pub loop-size-preserved : goal.loop-size-preserved
loop-size-preserved g c =
    let f = front_of c.args.slips in
    let p = is_front_by c.args.right.now c.args.text.now c.args.slips in
    let start = c.args.found.now.items in
    let before = c.loop-size.found.items in
    elim c.if-slips_to-slips.branch [
      | then-slips_to-slips+in_ok-push w ↦
          let passes : p c.loop-size.size ≡ true = search rules in
          ap (λ v. v.items) w.found-is ∙ w.in_ok-push.ensures.items ∙ one_counted f p c.loop-size.size start before passes c.loop-size.invariant
      | else-slips_to-slips w ↦
          let fails : p c.loop-size.size ≡ false = search rules in
          ap (λ v. v.items) w.found-is ∙ none_counted f p c.loop-size.size start before fails c.loop-size.invariant
    ]
