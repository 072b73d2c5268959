use Rattle.std.specs.Prelude.{slice_index}
use Rattle.std.proofs.Common.{◌≡◌, ◌∙◌, ℕ, List, [], ◌∷◌, length, subst, sym, ap, arith}
use Rattle.bech32_bch.specs.Erasures.{AreErasures}
use Rattle.bech32_checksum.specs.Code.{Code}
use Rattle.bech32_checksum.specs.Lookup.{IfLookedUp}
use Rattle.bech32_checksum.proofs.Digits.{length-tabulate}
use Rattle.bech32_bch.proofs.Candidates.{apart_inside}
use Rattle.bech32_lookup.specs.Question.{IsAnswerTo}
use Rattle.bech32_lookup.proofs.FewErasures.{only_one}
use Rattle.bech32_lookup.proofs.Lawful.{only_erasures}
use Rattle.bech32_lookup.proofs.looked_up.lookup_erasures.Goals as goal

pub returns-in-1 : goal.returns-in-1
returns-in-1 g c =
    let code = g.Ck.Checksum.code in
    let bound = g.Ck.Checksum.bound in
    let alone : c.args.given.now ≡ slice_index c.args.given.now 0 ∷ [] = only_one c.args.given.now (omega (arith, c.in-1.is)) in
    subst (λ (s : List ℕ). IfLookedUp c.lookup_error_beside_erasure.result (λ found. AreErasures c.args.window s × IsAnswerTo code bound (record { residue = c.args.residue.now; window = c.args.window; erasures = s }) found))
    (sym alone) c.lookup_error_beside_erasure.ensures

pub returns-in-2 : goal.returns-in-2
returns-in-2 g c =
    let code = g.Ck.Checksum.code in
    let apart = apart_inside g.Ck.CorrectionField.Extension.embed g.Ck.CorrectionField.Extension.retract g.met.Ck.CorrectionField.Extension.retract_law in
    let size : length code.target ≡ length code.generator =
    ap (λ (k : Code). length k.target) g.met.Ck.Checksum.code_law ∙ length-tabulate g.Ck.Checksum.CHECKSUM_LENGTH _ ∙ sym g.met.Ck.Checksum.degree_law in
    only_erasures g.met.Ck.CorrectionField.Arithmetic.laws g.met.Ck.CorrectionField.LocatorField.embeds_law apart code
    g.Ck.Checksum.ROOT_GENERATOR g.Ck.Checksum.ROOT_EXPONENTS_START g.Ck.Checksum.ROOT_EXPONENTS_END g.Ck.Checksum.bound g.Ck.Checksum.CODE_LENGTH c.args.window
    g.met.Ck.Checksum.bound_law g.met.Ck.Checksum.code_length_law size (g.met.Ck.Checksum.lawful_law.0 c.requires.lawful.0 c.requires.lawful.1) c.requires.within c.args.residue.now c.args.given.now c.two_below.result
    (omega (arith, c.in-2.is, c.requires.bound)) (omega (arith, c.in-2.is, c.requires.bound)) c.two_below.ensures

pub returns-in-3 : goal.returns-in-3
returns-in-3 g c =
    let code = g.Ck.Checksum.code in
    let apart = apart_inside g.Ck.CorrectionField.Extension.embed g.Ck.CorrectionField.Extension.retract g.met.Ck.CorrectionField.Extension.retract_law in
    let size : length code.target ≡ length code.generator =
    ap (λ (k : Code). length k.target) g.met.Ck.Checksum.code_law ∙ length-tabulate g.Ck.Checksum.CHECKSUM_LENGTH _ ∙ sym g.met.Ck.Checksum.degree_law in
    only_erasures g.met.Ck.CorrectionField.Arithmetic.laws g.met.Ck.CorrectionField.LocatorField.embeds_law apart code
    g.Ck.Checksum.ROOT_GENERATOR g.Ck.Checksum.ROOT_EXPONENTS_START g.Ck.Checksum.ROOT_EXPONENTS_END g.Ck.Checksum.bound g.Ck.Checksum.CODE_LENGTH c.args.window
    g.met.Ck.Checksum.bound_law g.met.Ck.Checksum.code_length_law size (g.met.Ck.Checksum.lawful_law.0 c.requires.lawful.0 c.requires.lawful.1) c.requires.within c.args.residue.now c.args.given.now c.three_below.result
    (omega (arith, c.in-3.is, c.requires.bound)) (omega (arith, c.in-3.is, c.requires.bound)) c.three_below.ensures
