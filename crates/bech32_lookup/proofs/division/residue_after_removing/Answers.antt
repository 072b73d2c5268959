use Rattle.std.proofs.Common.{◌<◌, ◌≤◌, ◌*◌, ◌∷◌, [], ℕ, lt_of_lt_of_le, length, sym, ap, subst, ◌∙◌, refl, arith}
use Rattle.std.proofs.Math.Pow.{pow_mono}
use Rattle.std.proofs.lemmas.List.{length-set}
use Rattle.bech32_gf.specs.Fe32 as fe32
use Rattle.bech32_poly.specs.Pattern.{pattern_polynomial}
use Rattle.bech32_poly.specs.Polynomial.{coefficient}
use Rattle.bech32_checksum.specs.Code.{IsResidueOf}
use Rattle.bech32_checksum.specs.Packed.{digit_of}
use Rattle.bech32_refusals.proofs.Coefficients.{coefficient-replicate, rest-less}
use Rattle.bech32_lookup.proofs.TakenOff.{one_more, taken_off}
use Rattle.bech32_lookup.proofs.division.residue_after_removing.Goals as goal

pub packed_coefficient-requires : goal.packed_coefficient-requires
packed_coefficient-requires g c =
    let wider : 5 * g.Ck.Checksum.CHECKSUM_LENGTH ≤ 5 * g.Ck.MidstateRepr.PackedFe32.WIDTH = omega (arith, g.met.Ck.Checksum.packing_laws.fits) in
    lt_of_lt_of_le c.residue-row.ensures.clear (pow_mono wider)

pub loop-place-init : goal.loop-place-init
loop-place-init g c = record {
  room = refl;
  read = λ n h. absurd (omega arith);
  rest = λ n h. coefficient-replicate 25 n _;
}

pub loop-place-preserved : goal.loop-place-preserved
loop-place-preserved g c =
    let residue = c.args.residue.now in
    let number = g.Ck.MidstateRepr.PackedFe32.number c.residue-row.result.now in
    let place : ℕ = c.loop-place.place in
    let there : place < length c.loop-place.left = omega (arith, c.loop-place.invariant.room) in
    record {
      room = length-set _ _ _ ∙ c.loop-place.invariant.room;
      read = one_more c.loop-place.left (λ n. fe32.add (coefficient fe32.ops residue n) (digit_of number n)) place c.add.result there
          (c.add.ensures ∙ ap (λ u. fe32.add u c.packed_coefficient.result) c.listed_coefficient.ensures ∙ ap (fe32.add (coefficient fe32.ops residue place)) c.packed_coefficient.ensures) c.loop-place.invariant.read;
      rest = rest-less c.loop-place.left place c.add.result c.loop-place.invariant.rest;
    }

pub returns : goal.returns
returns g c =
    let code = g.Ck.Checksum.code in
    let number = g.Ck.MidstateRepr.PackedFe32.number c.residue-row.result.now in
    let few : g.Ck.Checksum.CHECKSUM_LENGTH ≤ 25 = omega (arith, g.met.Ck.Checksum.packing_laws.fits, g.met.Ck.MidstateRepr.PackedFe32.wide_law) in
    taken_off code.generator c.args.residue.now c.loop-place.left c.args.error number g.Ck.Checksum.CHECKSUM_LENGTH g.met.Ck.Checksum.degree_law c.residue-row.ensures.clear few c.requires
    (subst (λ r. IsResidueOf g.Ck.MidstateRepr.PackedFe32.number code r (pattern_polynomial fe32.ops (c.args.error ∷ []))) (sym c.residue-row.ensures.value) c.listed_engine-engine.ensures)
    (λ n h. c.loop-place.invariant.read n (omega arith))
    (λ n h. c.loop-place.invariant.rest n (omega arith))
