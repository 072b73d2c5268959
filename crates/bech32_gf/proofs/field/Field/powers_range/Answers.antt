use Rattle.std.proofs.Common.{◌≡◌, suc, ◌-◌, ◌∙◌, ap, sym, add-one}
use Rattle.bech32_gf.specs.Field.{Ops, power}
use Rattle.bech32_gf.specs.laws.FieldLaws.{one_mul}
use Rattle.bech32_gf.specs.Powers.{multiplied, powers_of}
use Rattle.bech32_gf.proofs.Doublings.{multiplied-powers}
use Rattle.bech32_gf.proofs.field.Field.powers_range.Goals as goal

pub returns : goal.returns
returns g c =
    let o : Ops _ = g.Self.Arithmetic.ops in
    let x = c.args.self in
    let more = c.args.end - c.args.start in
    let base : c.advance.new.self.base ≡ x = c.advance.ensures.base ∙ c.powers-powers.ensures.base in
    let next : c.advance.new.self.next ≡ power o x c.args.start =
    c.advance.ensures.next
    ∙ ap (λ w. o.mul w (power o c.powers-powers.result.base c.args.start)) c.powers-powers.ensures.next
    ∙ one_mul g.met.Self.Arithmetic.laws (power o c.powers-powers.result.base c.args.start)
    ∙ ap (λ w. power o w c.args.start) c.powers-powers.ensures.base
    in
    ap (λ w. multiplied o w c.advance.new.self.next (suc more)) base
    ∙ ap (λ w. multiplied o x w (suc more)) next
    ∙ multiplied-powers g.met.Self.Arithmetic.laws x c.args.start (suc more)
    ∙ ap (powers_of o x c.args.start) (sym (add-one more))
