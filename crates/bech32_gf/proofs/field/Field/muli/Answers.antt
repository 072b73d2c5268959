use Rattle.std.proofs.Common.{◌≡◌, ◌%◌, ◌∙◌, ap, arith, rules, w64, of_z, to_z}
use Rattle.std.specs.Prelude.{unsigned_abs}
use Rattle.std.proofs.lemmas.Int.{to_z-of_z}
use Rattle.bech32_gf.specs.Field.{Ops, signed_multiple}
use Rattle.bech32_gf.proofs.Doublings.{multiple_even, multiple_odd, multiple_begins, multiple_ends, signed_multiple-from_size, signed_multiple-from_negative_size}
use Rattle.bech32_gf.proofs.field.Field.muli.Goals as goal
use Rattle.bech32_gf.proofs.field.Field.muli.Goals.{then-n-ge0, else-n-ge0, then-times-eq1, else-times-eq1}

pub loop-times-init : goal.loop-times-init
loop-times-init g c =
    let o : Ops _ = g.Self.Arithmetic.ops in
    let law = g.met.Self.Field in
    let x = c.args.self.now in
    let n = to_z w64 (of_z w64 c.args.n) in
    let begins = multiple_begins g.met.Self.Arithmetic.laws (signed_multiple o x n) c.ZERO-sum.result c.if-n-ge0.base c.unsigned_abs.result (unsigned_abs n)
    g.Self.Field.CHARACTERISTIC c.CHARACTERISTIC.result (c.ZERO-sum.ensures ∙ law.zero_law) c.unsigned_abs.ensures.value
    c.CHARACTERISTIC.ensures law.characteristic_law.multiple_is_zero
    in
    elim c.if-n-ge0.branch [
      | then-n-ge0 w ↦ begins (rw w.base-is (signed_multiple-from_size g.met.Self.Arithmetic.laws x n w.if-n-ge0.true))
      | else-n-ge0 w ↦
          let negative : c.if-n-ge0.base ≡ o.neg x = w.base-is ∙ law.neg_law _ _ w.neg-base.ensures in
          begins (rw negative (signed_multiple-from_negative_size g.met.Self.Arithmetic.laws x n w.if-n-ge0.false))
    ]

pub loop-times-preserved : goal.loop-times-preserved
loop-times-preserved g c =
    let o : Ops _ = g.Self.Arithmetic.ops in
    let double : c.add-base.result ≡ o.add c.loop-times.base c.loop-times.base = g.met.Self.Field.add_law _ _ _ c.add-base.ensures in
    rw double (elim c.if-times-eq1.branch [
      | then-times-eq1 w ↦
          let step : c.if-times-eq1.sum ≡ o.add c.loop-times.sum c.loop-times.base = rw w.sum-is (g.met.Self.Field.add_assign_law _ _ _ w.add_assign.ensures.after) in
          let odd : c.loop-times.times % 2 ≡ 1 = search rules in
          rw step (multiple_odd g.met.Self.Arithmetic.laws c.loop-times.base c.loop-times.sum c.loop-times.times odd ∙ c.loop-times.invariant)
      | else-times-eq1 w ↦
          let even : c.loop-times.times % 2 ≡ 0 = omega arith in
          rw w.sum-is (multiple_even g.met.Self.Arithmetic.laws c.loop-times.base c.loop-times.sum c.loop-times.times even ∙ c.loop-times.invariant)
    ])

pub returns : goal.returns
returns g c =
    let o : Ops _ = g.Self.Arithmetic.ops in
    multiple_ends g.met.Self.Arithmetic.laws _ _ _ _ c.loop-times-test.false c.loop-times.invariant
    ∙ ap (signed_multiple o c.args.self.now) (to_z-of_z w64 c.args.n c.ranges.n)
