use Rattle.std.proofs.Common.{◌≡◌, ◌≤◌, ◌*◌, ◌-◌, lt_of_lt_of_le, [], ◌∷◌, length, sym, ap, subst, ◌∙◌, arith}
use Rattle.std.proofs.Math.Pow.{pow_mono}
use Rattle.bech32_gf.specs.Fe32 as fe32
use Rattle.bech32_gf.specs.laws.Fe32Laws.{is_field}
use Rattle.bech32_poly.specs.Polynomial.{coefficient}
use Rattle.bech32_poly.proofs.Lists.{coefficient-scale}
use Rattle.bech32_checksum.specs.Code.{IsResidueOf}
use Rattle.bech32_checksum.proofs.DigitRows.{coefficient-digits}
use Rattle.bech32_lookup.proofs.single.screen_of.Goals as goal

pub packed_coefficient-requires : goal.packed_coefficient-requires
packed_coefficient-requires g c =
    let wider : 5 * g.Ck.Checksum.CHECKSUM_LENGTH ≤ 5 * g.Ck.MidstateRepr.PackedFe32.WIDTH = omega (arith, g.met.Ck.Checksum.packing_laws.fits) in
    lt_of_lt_of_le c.generator_times.ensures.row.clear (pow_mono wider)

pub returns : goal.returns
returns g c =
    let generator = g.Ck.Checksum.code.generator in
    let residue = c.args.residue.now in
    let number = g.Ck.MidstateRepr.PackedFe32.number c.generator_times.result in
    let holds = IsResidueOf g.Ck.MidstateRepr.PackedFe32.number g.Ck.Checksum.code c.input_fe-2.new.self in
    let place : c.CHECKSUM_LENGTH.result - 1 ≡ length generator - 1 = omega (arith, c.CHECKSUM_LENGTH.ensures, g.met.Ck.Checksum.degree_law) in
    let top : c.listed_coefficient-top.result ≡ coefficient fe32.ops residue (length generator - 1) =
    c.listed_coefficient-top.ensures ∙ ap (coefficient fe32.ops residue) place in
    let first : c.packed_coefficient.result ≡ fe32.mul (coefficient fe32.ops generator 0) (coefficient fe32.ops residue (length generator - 1)) =
    c.packed_coefficient.ensures ∙ sym (coefficient-digits g.Ck.Checksum.CHECKSUM_LENGTH number 0 c.generator_times.ensures.row.clear)
    ∙ ap (λ u. coefficient fe32.ops u 0) c.generator_times.ensures.row.elements_are
    ∙ coefficient-scale is_field c.listed_coefficient-top.result generator 0
    ∙ is_field.mul_comm c.listed_coefficient-top.result (coefficient fe32.ops generator 0)
    ∙ ap (fe32.mul (coefficient fe32.ops generator 0)) top in
    subst (λ v. holds (v ∷ coefficient fe32.ops residue 0 ∷ [])) first
    (subst (λ v. holds (c.packed_coefficient.result ∷ v ∷ [])) c.listed_coefficient.ensures
    (c.input_fe-2.ensures (c.listed_coefficient.result ∷ []) (c.input_fe.ensures [] c.zero-engine.ensures)))
