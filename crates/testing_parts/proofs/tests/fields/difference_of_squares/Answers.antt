use Rattle.std.proofs.Common.{◌≡◌, ◌∙◌, ap}
use Rattle.bech32_gf.specs.Field.{Ops, IsField}
use Rattle.bech32_gf.specs.laws.Ring.{ring}
use Rattle.testing_parts.proofs.tests.fields.difference_of_squares.Goals as goal

squares : {F : Type 0} (o : Ops F) (l : IsField o) (x y : F)
    → o.add (o.mul x x) (o.neg (o.mul y y)) ≡ o.mul (o.add x y) (o.add x (o.neg y))
squares o l x y = simp (ring, l)

pub returns : goal.returns
returns g c =
    let o : Ops _ = g.F.Arithmetic.ops in
    let law = g.met.F.Field in
    let x = c.args.x in
    let y = c.args.y in
    law.sub_law _ _ _ c.sub.ensures
    ∙ ap (λ w. o.add w (o.neg c.mul-y_squared.result)) (law.mul_law _ _ _ c.mul-x_squared.ensures)
    ∙ ap (λ w. o.add (o.mul x x) (o.neg w)) (law.mul_law _ _ _ c.mul-y_squared.ensures)
    ∙ squares o g.met.F.Arithmetic.laws x y
