use Rattle.std.specs.Prelude.{flat_map}
use Rattle.std.proofs.Common.{rules, ◌≡◌, ◌++◌, ◌∙◌, ◌<◌, ◌≤◌, List, ℕ, append_assoc, codes, length, sym, ap, take, arith}
use Rattle.std.proofs.lemmas.List.{length-take-le}
use Rattle.mend.specs.Reply.{most_said}
use Rattle.mend.proofs.Replies.{all-said, more_there}
use Rattle.mend.proofs.near.said_of_first.Goals as goal

pub returns-then-found-le-MOST_SAID : goal.returns-then-found-le-MOST_SAID
returns-then-found-le-MOST_SAID g c =
    let few : length c.args.found.now ≤ most_said = omega arith in
    all-said g.T.Found.spelling (λ v. v.items) c.args.found.now c.reply_of.result few c.reply_of.ensures

pub returns : goal.returns
returns g c =
    let some : most_said < length c.args.found.now = c.if-found-le-MOST_SAID.false in
    let first : List ℕ = flat_map g.T.Found.spelling (take most_said c.args.found.now) in
    c.in_ok-extend_from_slice.ensures.items
    ∙ ap (λ (l : List ℕ). l ++ codes " more") c.in_ok-said.ensures
    ∙ append_assoc (codes "ok") first (codes " more")
    ∙ ap (λ (l : List ℕ). codes "ok" ++ (first ++ l)) (sym (more_there most_said c.args.found.now some))

pub slice_bounds-reply_of-end : goal.slice_bounds-reply_of-end
slice_bounds-reply_of-end g c = sym (length-take-le most_said c.args.found.now (omega (arith, c.if-found-le-MOST_SAID.false)))
