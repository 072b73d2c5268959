use Rattle.std.proofs.Common.{◌∙◌, ap}
use Rattle.testing_tools.specs.Seven.{mul, inv-products}
use Rattle.testing_tools.proofs.seven.Seven.inverted.Goals as goal

pub returns : goal.returns
returns c =
    let self = c.args.self in
    c.product_with.ensures
    ∙ ap (mul self) (c.product_with-fourth.ensures ∙ ap (λ w. mul w w) c.product_with-square.ensures)
    ∙ inv-products self
