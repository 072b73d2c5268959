use Rattle.std.proofs.Common.{◌≡◌, ◌%◌, ◌∙◌, arith, rules, refl}
use Rattle.bech32_gf.specs.Field.{Ops, power}
use Rattle.bech32_gf.proofs.Doublings.{power_begins, power_even, power_odd, power_ends}
use Rattle.bech32_gf.proofs.arithmetic.Arithmetic.power.Goals as goal
use Rattle.bech32_gf.proofs.arithmetic.Arithmetic.power.Goals.{then-exponent-eq1, else-exponent-eq1}

pub loop-exponent-init : goal.loop-exponent-init
loop-exponent-init g c =
    power_begins g.met.Self.Arithmetic.laws (power g.Self.Arithmetic.ops c.args.self c.args.n) c.one-product.result c.args.self c.args.n c.args.n c.one-product.ensures refl refl

pub loop-exponent-preserved : goal.loop-exponent-preserved
loop-exponent-preserved g c =
    let o : Ops _ = g.Self.Arithmetic.ops in
    rw c.times-base.ensures (elim c.if-exponent-eq1.branch [
      | then-exponent-eq1 w ↦
          let step : c.if-exponent-eq1.product ≡ o.mul c.loop-exponent.product c.loop-exponent.base = rw w.product-is w.times-product.ensures in
          let odd : c.loop-exponent.exponent % 2 ≡ 1 = search rules in
          rw step (power_odd g.met.Self.Arithmetic.laws c.loop-exponent.base c.loop-exponent.product c.loop-exponent.exponent odd ∙ c.loop-exponent.invariant)
      | else-exponent-eq1 w ↦
          let even : c.loop-exponent.exponent % 2 ≡ 0 = omega arith in
          rw w.product-is (power_even g.met.Self.Arithmetic.laws c.loop-exponent.base c.loop-exponent.product c.loop-exponent.exponent even ∙ c.loop-exponent.invariant)
    ])

pub returns : goal.returns
returns g c = power_ends g.met.Self.Arithmetic.laws _ _ _ _ c.loop-exponent-test.false c.loop-exponent.invariant
