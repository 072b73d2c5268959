use Rattle.std.proofs.Common.{◌≡◌, ◌∙◌, ap, w64, of_z, to_z}
use Rattle.std.specs.Prelude.{unsigned_abs}
use Rattle.std.proofs.lemmas.Int.{to_z-of_z}
use Rattle.bech32_gf.specs.Field.{Ops, power, signed_power}
use Rattle.bech32_gf.proofs.Doublings.{signed_power-from_size, signed_power-from_negative_size}
use Rattle.bech32_gf.proofs.field.Field.powi.Goals as goal
use Rattle.bech32_gf.proofs.field.Field.powi.Goals.{then-n-ge0, else-n-ge0}

pub returns : goal.returns
returns g c =
    let o : Ops _ = g.Self.Arithmetic.ops in
    let laws = g.met.Self.Arithmetic.laws in
    let x = c.args.self.now in
    let n = to_z w64 (of_z w64 c.args.n) in
    let size : power o c.if-n-ge0.base (unsigned_abs n) ≡ signed_power o x n = elim c.if-n-ge0.branch [
      | then-n-ge0 w ↦ rw w.base-is (signed_power-from_size laws x n w.if-n-ge0.true)
      | else-n-ge0 w ↦
          let inverse : c.if-n-ge0.base ≡ o.inv x = w.base-is ∙ w.multiplicative_inverse-base.ensures in
          rw inverse (signed_power-from_negative_size laws x n w.if-n-ge0.false)
    ]
    in
    c.power.ensures ∙ ap (power o c.if-n-ge0.base) c.unsigned_abs.ensures.value ∙ size
    ∙ ap (signed_power o x) (to_z-of_z w64 c.args.n c.ranges.n)
