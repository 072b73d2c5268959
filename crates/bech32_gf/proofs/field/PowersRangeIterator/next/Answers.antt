use Rattle.std.proofs.Common.{◌∙◌, ap, sym, ◌∷◌}
use Rattle.bech32_gf.specs.Field.{Ops}
use Rattle.bech32_gf.specs.Powers.{multiplied, count_with_next}
use Rattle.bech32_gf.proofs.Doublings.{count_with_next-after}
use Rattle.bech32_gf.proofs.field.PowersRangeIterator.next.Goals as goal

pub returns-clause-steps : goal.returns-clause-steps
returns-clause-steps g c =
    let o : Ops _ = g.F.Arithmetic.ops in
    let s = c.args.self.now.powers in
    let t = c.next.new.self in
    let after = c.checked_sub-self.result in
    rw c.next.ensures.steps.0
    (ap (λ m. multiplied o s.base s.next (count_with_next m)) c.in_ok-more.was
    ∙ ap (λ ys. s.next ∷ ys)
    (ap (multiplied o s.base (o.mul s.next s.base)) (sym (count_with_next-after c.in_ok-more.more after c.checked_sub-self.ensures))
    ∙ ap (λ y. multiplied o s.base y (count_with_next after)) (sym c.next.ensures.steps.2)
    ∙ ap (λ b. multiplied o b t.next (count_with_next after)) (sym c.next.ensures.steps.1)))
