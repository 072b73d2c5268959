use Rattle.std.proofs.Common.{◌∙◌, ap}
use Rattle.bech32_gf.specs.Field.{Ops, power}
use Rattle.bech32_gf.proofs.Doublings.{power_next}
use Rattle.bech32_gf.proofs.field.Powers.nth.Goals as goal

pub returns-clause-next : goal.returns-clause-next
returns-clause-next g c =
    let o : Ops _ = g.F.Arithmetic.ops in
    let x = c.args.self.now.base in
    let y = c.args.self.now.next in
    c.next.ensures.steps.2
    ∙ ap (o.mul c.advance.new.self.next) c.advance.ensures.base
    ∙ ap (λ w. o.mul w x) c.advance.ensures.next
    ∙ g.met.F.Arithmetic.laws.mul_assoc y (power o x c.args.n) x
    ∙ ap (o.mul y) (power_next g.met.F.Arithmetic.laws x c.args.n)
