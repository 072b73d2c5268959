use Rattle.std.proofs.Common.{◌≤◌, ◌<◌, ◌*◌, ◌^◌, length, lt_of_lt_of_le, sym, ap, subst, ◌∙◌, arith}
use Rattle.std.proofs.Math.Pow.{pow_mono}
use Rattle.bech32_gf.specs.Fe32 as fe32
use Rattle.bech32_gf.specs.laws.Fe32Laws.{is_field}
use Rattle.bech32_poly.specs.Pattern.{monomial}
use Rattle.bech32_poly.specs.Polynomial.{coefficient}
use Rattle.bech32_poly.proofs.Remainder.{remainder_unique}
use Rattle.bech32_checksum.specs.Code.{IsResidueOf}
use Rattle.bech32_checksum.specs.Packed.{digits}
use Rattle.bech32_checksum.proofs.DigitRows.{coefficient-digits}
use Rattle.bech32_lookup.proofs.erased.row_of.Goals as goal

pub unpacked-requires-clause-digits : goal.unpacked-requires-clause-digits
unpacked-requires-clause-digits g c =
    let wider : 5 * g.Ck.Checksum.CHECKSUM_LENGTH ≤ 5 * g.Ck.MidstateRepr.PackedFe32.WIDTH = omega (arith, g.met.Ck.Checksum.packing_laws.fits) in
    lt_of_lt_of_le c.residue.ensures.clear (pow_mono wider)

pub unpacked-requires-clause-size : goal.unpacked-requires-clause-size
unpacked-requires-clause-size g c = omega (arith, c.CHECKSUM_LENGTH.ensures, g.met.Ck.Checksum.packing_laws.fits, g.met.Ck.MidstateRepr.PackedFe32.wide_law)

pub returns : goal.returns
returns g c = λ place less.
    let generator = g.Ck.Checksum.code.generator in
    let number = g.Ck.MidstateRepr.PackedFe32.number c.residue.result.now in
    let power = monomial fe32.ops c.args.location fe32.one in
    c.unpacked.ensures place (omega (arith, less, c.CHECKSUM_LENGTH.ensures, g.met.Ck.Checksum.degree_law))
    ∙ sym (coefficient-digits (length generator) number place (subst (λ d. number < 2 ^ (5 * d)) (sym g.met.Ck.Checksum.degree_law) c.residue.ensures.clear))
    ∙ ap (λ u. coefficient fe32.ops u place)
    (remainder_unique is_field generator power (digits (length generator) number)
    (subst (λ r. IsResidueOf g.Ck.MidstateRepr.PackedFe32.number g.Ck.Checksum.code r power) (sym c.residue.ensures.value) c.power_of_x-power.ensures))
