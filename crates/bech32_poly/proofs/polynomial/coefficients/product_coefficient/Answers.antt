use Rattle.std.proofs.Common.{rules, ◌<◌, ◌≤◌, length, sym, ap, ◌∙◌, arith}
use Rattle.std.proofs.lemmas.List.{take_all}
use Rattle.bech32_poly.proofs.Products.{convolved, coefficient-multiply, convolved_next, convolved_past}
use Rattle.bech32_poly.proofs.polynomial.coefficients.product_coefficient.Goals as goal
use Rattle.bech32_poly.proofs.polynomial.coefficients.product_coefficient.Goals.{then-i-n, else-i-n}

pub loop-i-preserved : goal.loop-i-preserved
loop-i-preserved g c =
    let o = g.F.Arithmetic.ops in
    let within : c.loop-i.i < length c.args.p.now = omega arith in
    elim c.if-i-n.branch [
      | then-i-n w ↦
          convolved_next g.met.F.Arithmetic.laws c.args.p.now c.args.q.now c.loop-i.i c.args.n c.loop-i.sum w.index-p-i.result w.coefficient_of.result w.times.result c.if-i-n.sum within
          (omega arith) c.loop-i.invariant w.index-p-i.is w.coefficient_of.ensures w.times.ensures (w.sum-is ∙ w.plus-sum.ensures)
      | else-i-n w ↦
          w.sum-is ∙ convolved_past g.met.F.Arithmetic.laws c.args.p.now c.args.q.now c.loop-i.i c.args.n c.loop-i.sum within w.if-i-n.false c.loop-i.invariant
    ]

pub returns : goal.returns
returns g c =
    let o = g.F.Arithmetic.ops in
    let all : length c.args.p.now ≤ c.loop-i.i = search rules in
    c.loop-i.invariant ∙ ap (λ u. convolved o u c.args.q.now c.args.n) (take_all c.loop-i.i c.args.p.now all) ∙ sym (coefficient-multiply g.met.F.Arithmetic.laws c.args.p.now c.args.q.now c.args.n)
