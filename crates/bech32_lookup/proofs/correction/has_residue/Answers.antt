use Rattle.std.proofs.Common.{◌≤◌, ◌*◌, lt_of_lt_of_le, sym, subst, arith}
use Rattle.std.proofs.Math.Pow.{pow_mono}
use Rattle.bech32_gf.specs.Fe32 as fe32
use Rattle.bech32_poly.specs.Pattern.{pattern_polynomial}
use Rattle.bech32_checksum.specs.Code.{IsResidueOf}
use Rattle.bech32_lookup.proofs.Remainders.{leaves}
use Rattle.bech32_lookup.proofs.correction.has_residue.Goals as goal

pub row_equals-requires : goal.row_equals-requires
row_equals-requires g c =
    let wider : 5 * g.Ck.Checksum.CHECKSUM_LENGTH ≤ 5 * g.Ck.MidstateRepr.PackedFe32.WIDTH = omega (arith, g.met.Ck.Checksum.packing_laws.fits) in
    lt_of_lt_of_le c.residue.ensures.clear (pow_mono wider)

pub returns : goal.returns
returns g c =
    let both = leaves g.Ck.Checksum.code.generator c.args.residue.now c.args.listing.now g.Ck.Checksum.CHECKSUM_LENGTH (g.Ck.MidstateRepr.PackedFe32.number c.residue.result.now)
    g.met.Ck.Checksum.degree_law c.residue.ensures.clear
    (subst (λ r. IsResidueOf g.Ck.MidstateRepr.PackedFe32.number g.Ck.Checksum.code r (pattern_polynomial fe32.ops c.args.listing.now)) (sym c.residue.ensures.value) c.listed_engine-engine.ensures) in
    (λ h. both.0 (c.row_equals.ensures.0 h), λ r. c.row_equals.ensures.1 (both.1 r))
