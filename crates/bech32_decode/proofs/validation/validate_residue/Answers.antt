use Rattle.std.proofs.Common.{◌≡◌, ◌≢◌, ◌∙◌, ◌<◌, ◌≤◌, ◌*◌, ◌^◌, ℕ, Bool, true, false, ap, sym, refl, arith}
use mathlib.Core.Bool.{not}
use Rattle.std.proofs.Common.{lt_of_lt_of_le}
use Rattle.std.proofs.Math.Pow.{pow_mono}
use Rattle.bech32_checksum.specs.Code.{Code}
use Rattle.bech32_decode.proofs.Checksums.{has_target, residue_error}
use Rattle.bech32_decode.proofs.validation.validate_residue.Goals as goal

-- what fits the degree fits the width
wider : (number d width : ℕ) → number < 2 ^ (5 * d) → d ≤ width → number < 2 ^ (5 * width)
wider number d width h le = lt_of_lt_of_le h (pow_mono (omega arith))

not_equal : (t : Bool) → true ≡ not t → t ≡ true → ⊥
not_equal true e h = cc
not_equal false e h = cc

equal : (t : Bool) → false ≡ not t → t ≡ true
equal true e = refl
equal false e = absurd cc

pub new-requires-clause-actual_fits : goal.new-requires-clause-actual_fits
new-requires-clause-actual_fits g c = wider _ g.Ck.Checksum.CHECKSUM_LENGTH _ c.requires g.met.Ck.Checksum.packing_laws.fits

pub new-requires-clause-target_fits : goal.new-requires-clause-target_fits
new-requires-clause-target_fits g c =
    rw c.TARGET_RESIDUE-then-ne.ensures (wider _ g.Ck.Checksum.CHECKSUM_LENGTH _ g.met.Ck.Checksum.packing_laws.target_clear g.met.Ck.Checksum.packing_laws.fits)

pub returns-then-ne : goal.returns-then-ne
returns-then-ne g c p leaves =
    let laws = g.met.Ck.Checksum in
    let words = g.met.Ck.MidstateRepr.PackedFe32 in
    let degree = laws.degree_law in
    let residue = c.args.residue.now in
    let target = g.Ck.Checksum.TARGET_RESIDUE in
    let differs : residue ≢ target = λ e. not_equal _ c.if-ne.ensures ((words.eq_law residue c.TARGET_RESIDUE.result).1 (e ∙ sym c.TARGET_RESIDUE.ensures)) in
    residue_error g.Ck.Checksum.code _ _ degree (ap (λ (k : Code). k.target) laws.code_law) (g.Ck.MidstateRepr.PackedFe32.number residue) _ c.new.result
    c.requires laws.packing_laws.target_clear (λ e. differs (words.same_number_law residue target e)) leaves
    c.new.ensures.actual (rw c.TARGET_RESIDUE-then-ne.ensures at c.new.ensures.target)

pub returns : goal.returns
returns g c p leaves =
    let laws = g.met.Ck.Checksum in
    let degree = laws.degree_law in
    let residue = c.args.residue.now in
    let same = (g.met.Ck.MidstateRepr.PackedFe32.eq_law residue c.TARGET_RESIDUE.result).0 (equal _ c.if-ne.ensures) ∙ c.TARGET_RESIDUE.ensures in
    has_target g.Ck.Checksum.code _ _ degree (ap (λ (k : Code). k.target) laws.code_law) (g.Ck.MidstateRepr.PackedFe32.number residue) _ (ap g.Ck.MidstateRepr.PackedFe32.number same) leaves
