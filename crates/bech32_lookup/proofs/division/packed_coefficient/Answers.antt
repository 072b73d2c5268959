use Rattle.std.proofs.Common.{sym, ap, ◌∙◌, refl, arith}
use Rattle.bech32_gf.specs.Fe32 as fe32
use Rattle.bech32_checksum.proofs.DigitRows.{digit_of-past}
use Rattle.bech32_refusals.proofs.Coefficients.{element-digit_of}
use Rattle.bech32_lookup.proofs.division.packed_coefficient.Goals as goal

pub returns : goal.returns
returns g c = c.from_low_bits.ensures ∙ ap fe32.element c.unpack.ensures.value ∙ element-digit_of (g.R.PackedFe32.number c.args.row.now) c.args.place

pub returns-then-place-WIDTH : goal.returns-then-place-WIDTH
returns-then-place-WIDTH g c =
    fe32.path _ fe32.zero refl ∙ sym (digit_of-past g.R.PackedFe32.WIDTH (g.R.PackedFe32.number c.args.row.now) c.args.place c.requires (omega (arith, c.WIDTH.ensures, c.if-place-WIDTH.true)))
