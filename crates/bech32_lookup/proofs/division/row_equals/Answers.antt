use Rattle.std.proofs.Common.{sym, ◌∙◌, refl, arith}
use Rattle.std.proofs.Math.Decide.{dec_lt}
use Rattle.bech32_checksum.proofs.DigitRows.{digit_of-past}
use Rattle.bech32_lookup.proofs.OneError.{behind}
use Rattle.bech32_lookup.proofs.division.row_equals.Goals as goal

pub returns : goal.returns
returns g c = (
  (λ h n. elim (dec_lt n c.loop-place.place) [
    | yes k ↦ c.loop-place.invariant n k
    | no k ↦
        digit_of-past g.R.PackedFe32.WIDTH (g.R.PackedFe32.number c.args.row.now) n c.requires (omega (arith, c.max-size.ensures, c.WIDTH.ensures, c.loop-place-test.false))
        ∙ sym (behind c.args.list.now n (omega (arith, c.max-size.ensures, c.loop-place-test.false)))
  ]),
  (λ h. refl),
)
