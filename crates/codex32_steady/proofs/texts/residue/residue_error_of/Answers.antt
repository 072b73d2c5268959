use Rattle.std.proofs.Common.{◌≢◌, ◌≡◌, ◌∙◌, ◌<◌, ◌≤◌, ◌*◌, ◌^◌, ◌++◌, ◌∷◌, [], ℕ, List, ap, subst, sym, arith, lt_of_lt_of_le}
use Rattle.std.proofs.Math.Pow.{pow_mono}
use Rattle.bech32_gf.specs.Fe32 as fe32
use Rattle.bech32_gf.specs.Fe32.{elements_of}
use Rattle.bech32_gf.specs.declared.gf32.Fe32.{Fe32 as Element}
use Rattle.bech32_poly.specs.Polynomial.{appended}
use Rattle.bech32_poly.proofs.Appended.{appended-append}
use Rattle.bech32_checksum.specs.Code.{Code, IsResidueOf}
use Rattle.bech32_checksum.specs.TextPolynomial.{hrp_elements}
use Rattle.bech32_decode.proofs.Checksums.{has_target, residue_error}
use Rattle.codex32_steady.proofs.texts.residue.residue_error_of.Goals as goal

-- what fits the degree fits the width
wider : (number d width : ℕ) → number < 2 ^ (5 * d) → d ≤ width → number < 2 ^ (5 * width)
wider number d width h le = lt_of_lt_of_le h (pow_mono (omega arith))

-- what was handed to an engine in three parts is its whole polynomial
whole : {R : Type 0} (number : R → ℕ) (code : Code) (part behind : List Element) (r : R)
    → IsResidueOf number code r (appended (appended (fe32.one ∷ []) part) behind)
    → IsResidueOf number code r (appended (fe32.one ∷ []) (part ++ behind))
whole number code part behind r held =
    subst (λ (q : List Element). IsResidueOf number code r q) (sym (appended-append (fe32.one ∷ []) part behind)) held

pub new-requires-clause-actual_fits : goal.new-requires-clause-actual_fits
new-requires-clause-actual_fits g c = wider _ g.Ck.Checksum.CHECKSUM_LENGTH _ c.residue.ensures.clear g.met.Ck.Checksum.packing_laws.fits

pub new-requires-clause-target_fits : goal.new-requires-clause-target_fits
new-requires-clause-target_fits g c =
    rw c.TARGET_RESIDUE.ensures (wider _ g.Ck.Checksum.CHECKSUM_LENGTH _ g.met.Ck.Checksum.packing_laws.target_clear g.met.Ck.Checksum.packing_laws.fits)

pub returns-then-is_target : goal.returns-then-is_target
returns-then-is_target g c =
    let laws = g.met.Ck.Checksum in
    let number = g.Ck.MidstateRepr.PackedFe32.number in
    let code = g.Ck.Checksum.code in
    let held = whole number code (hrp_elements c.args.part.now) (elements_of c.args.data_part.now) c.input_elements.new.engine
    (c.input_elements.ensures _ (c.input_part.ensures (fe32.one ∷ []) c.new-engine.ensures)) in
    has_target code _ _ laws.degree_law (ap (λ (k : Code). k.target) laws.code_law) (number c.residue.result.now) _
    (ap number (c.is_target.ensures.0 c.if-is_target.true)) (rw c.residue.ensures.value held)

pub returns : goal.returns
returns g c =
    let laws = g.met.Ck.Checksum in
    let words = g.met.Ck.MidstateRepr.PackedFe32 in
    let number = g.Ck.MidstateRepr.PackedFe32.number in
    let code = g.Ck.Checksum.code in
    let residue = c.residue.result.now in
    let target = g.Ck.Checksum.TARGET_RESIDUE in
    let held = whole number code (hrp_elements c.args.part.now) (elements_of c.args.data_part.now) c.input_elements.new.engine
    (c.input_elements.ensures _ (c.input_part.ensures (fe32.one ∷ []) c.new-engine.ensures)) in
    let differs : residue ≢ target = λ e. let k = sym c.if-is_target.false ∙ c.is_target.ensures.1 e in cc in
    residue_error code _ _ laws.degree_law (ap (λ (k : Code). k.target) laws.code_law) (number residue) _ c.new.result
    c.residue.ensures.clear laws.packing_laws.target_clear (λ e. differs (words.same_number_law residue target e)) (rw c.residue.ensures.value held)
    c.new.ensures.actual (rw c.TARGET_RESIDUE.ensures at c.new.ensures.target)
