use Rattle.std.proofs.Common.{ap, sym, ◌∙◌, refl, arith}
use Rattle.std.proofs.Math.Decide.{dec_lt}
use Rattle.bech32_gf.specs.Fe32 as fe32
use Rattle.bech32_gf.specs.laws.Fe32Laws.{is_field}
use Rattle.bech32_gf.specs.laws.Ring.{mul_zero}
use Rattle.bech32_checksum.proofs.DigitRows.{digit_of-past}
use Rattle.bech32_lookup.proofs.OneError.{behind}
use Rattle.bech32_lookup.proofs.single.is_multiple.Goals as goal

pub returns : goal.returns
returns g c = (
  (λ h n. elim (dec_lt n c.loop-place.place) [
    | yes k ↦ c.loop-place.invariant n k
    | no k ↦
        ap (fe32.mul c.args.factor)
        (digit_of-past g.R.PackedFe32.WIDTH (g.R.PackedFe32.number c.args.row.now) n c.requires (omega (arith, c.max-size.ensures, c.WIDTH.ensures, c.loop-place-test.false)))
        ∙ mul_zero is_field c.args.factor
        ∙ sym (behind c.args.list.now n (omega (arith, c.max-size.ensures, c.loop-place-test.false)))
  ]),
  (λ h. refl),
)
