use Rattle.std.proofs.Common.{◌≡◌, ◌≤◌, ◌*◌, ◌+◌, lt_of_lt_of_le, ℕ, suc, [], ◌∷◌, sym, subst, refl, arith}
use Rattle.std.proofs.Math.Decide.{dec_lt}
use Rattle.std.proofs.Math.Pow.{pow_mono}
use Rattle.bech32_gf.specs.Fe32 as fe32
use Rattle.bech32_gf.specs.declared.gf32.Fe32.{Fe32}
use Rattle.bech32_poly.specs.Pattern.{monomial}
use Rattle.bech32_checksum.specs.Code.{IsResidueOf}
use Rattle.bech32_bch.specs.Pattern.{HasRemainder}
use Rattle.bech32_lookup.specs.Multiple.{screen}
use Rattle.bech32_lookup.proofs.OneError.{screened_digit, single}
use Rattle.bech32_lookup.proofs.Screen.{shifted}
use Rattle.bech32_lookup.proofs.single.single_error.Goals as goal

pub factor_of-requires-clause-screen : goal.factor_of-requires-clause-screen
factor_of-requires-clause-screen g c =
    let wider : 5 * g.Ck.Checksum.CHECKSUM_LENGTH ≤ 5 * g.Ck.MidstateRepr.PackedFe32.WIDTH = omega (arith, g.met.Ck.Checksum.packing_laws.fits) in
    lt_of_lt_of_le c.residue.ensures.clear (pow_mono wider)

pub factor_of-requires-clause-row : goal.factor_of-requires-clause-row
factor_of-requires-clause-row g c =
    let wider : 5 * g.Ck.Checksum.CHECKSUM_LENGTH ≤ 5 * g.Ck.MidstateRepr.PackedFe32.WIDTH = omega (arith, g.met.Ck.Checksum.packing_laws.fits) in
    lt_of_lt_of_le c.residue-in-loop-location.ensures.clear (pow_mono wider)

pub factor_of-requires-clause-screens : goal.factor_of-requires-clause-screens
factor_of-requires-clause-screens g c = λ factor h.
    let generator = g.Ck.Checksum.code.generator in
    let number = g.Ck.MidstateRepr.PackedFe32.number in
    let holds = IsResidueOf g.Ck.MidstateRepr.PackedFe32.number g.Ck.Checksum.code in
    screened_digit generator c.args.residue.now g.Ck.Checksum.CHECKSUM_LENGTH c.loop-location.location factor (number c.residue-in-loop-location.result.now) (number c.residue.result.now)
    g.met.Ck.Checksum.degree_law c.requires.degree c.residue-in-loop-location.ensures.clear c.residue.ensures.clear
    (subst (λ r. holds r (monomial fe32.ops c.loop-location.location fe32.one)) (sym c.residue-in-loop-location.ensures.value) c.loop-location.invariant.power)
    (subst (λ r. holds r (shifted fe32.ops c.loop-location.location (screen generator c.args.residue.now))) (sym c.residue.ensures.value) c.loop-location.invariant.screen)
    h

pub returns-in-Some : goal.returns-in-Some
returns-in-Some g c =
    let found = rw c.in-Some.is at c.factor_of.ensures in
    let both = single g.Ck.Checksum.code.generator c.args.residue.now c.loop-location.location c.in-Some.value g.Ck.Checksum.CHECKSUM_LENGTH (g.Ck.MidstateRepr.PackedFe32.number c.residue-in-loop-location.result.now)
    g.met.Ck.Checksum.degree_law c.residue-in-loop-location.ensures.clear
    (subst (λ r. IsResidueOf g.Ck.MidstateRepr.PackedFe32.number g.Ck.Checksum.code r (monomial fe32.ops c.loop-location.location fe32.one)) (sym c.residue-in-loop-location.ensures.value) c.loop-location.invariant.power) in
    (c.loop-location-test.true, (found.0, both.0 found.1))

pub loop-location-preserved : goal.loop-location-preserved
loop-location-preserved g c =
    let generator = g.Ck.Checksum.code.generator in
    let location : ℕ = c.loop-location.location in
    let holds = IsResidueOf g.Ck.MidstateRepr.PackedFe32.number g.Ck.Checksum.code in
    let more : suc c.loop-location.location ≡ c.loop-location.location + 1 = omega arith in
    let power = c.input_fe.ensures (monomial fe32.ops c.loop-location.location fe32.one) c.loop-location.invariant.power in
    let screened = c.input_fe-in-loop-location.ensures (shifted fe32.ops c.loop-location.location (screen generator c.args.residue.now)) c.loop-location.invariant.screen in
    let here : (v : Fe32) → HasRemainder fe32.ops g.Ck.Checksum.code.generator c.args.residue.now ((c.loop-location.location, v) ∷ []) → ⊥ =
    λ v r. (rw c.in_default.is at c.factor_of.ensures) v
    ((single generator c.args.residue.now location v g.Ck.Checksum.CHECKSUM_LENGTH (g.Ck.MidstateRepr.PackedFe32.number c.residue-in-loop-location.result.now)
    g.met.Ck.Checksum.degree_law c.residue-in-loop-location.ensures.clear
    (subst (λ r. holds r (monomial fe32.ops location fe32.one)) (sym c.residue-in-loop-location.ensures.value) c.loop-location.invariant.power)).1 r) in
    record {
      power = subst (λ k. holds c.input_fe.new.self (monomial fe32.ops k fe32.one)) more
          (subst (λ q. holds c.input_fe.new.self (q ∷ monomial fe32.ops location fe32.one)) (fe32.path _ fe32.zero refl) power);
      screen = subst (λ k. holds c.input_fe-in-loop-location.new.self (shifted fe32.ops k (screen generator c.args.residue.now))) more
          (subst (λ q. holds c.input_fe-in-loop-location.new.self (q ∷ shifted fe32.ops location (screen generator c.args.residue.now))) (fe32.path _ fe32.zero refl) screened);
      none = λ i v below r. elim (dec_lt i location) [
        | yes k ↦ c.loop-location.invariant.none i v k r
        | no k ↦ (
            let e : i ≡ c.loop-location.location = omega arith in
            here v (subst (λ k. HasRemainder fe32.ops generator c.args.residue.now ((k, v) ∷ [])) e r)
            )
      ];
    }

pub returns : goal.returns
returns g c = λ i v below. c.loop-location.invariant.none i v (omega (arith, below, c.loop-location-test.false))
