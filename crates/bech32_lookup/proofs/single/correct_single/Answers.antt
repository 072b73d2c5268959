use Rattle.std.proofs.Common.{◌≡◌, ◌∙◌, ℕ, List, [], ◌∷◌, ◌++◌, length, sym, subst, ap}
use Rattle.bech32_gf.specs.Fe32 as fe32
use Rattle.bech32_gf.specs.declared.gf32.Fe32.{Fe32}
use Rattle.bech32_poly.specs.Polynomial.{IsSamePolynomial, coefficient}
use Rattle.bech32_checksum.specs.Code.{Code}
use Rattle.bech32_checksum.proofs.Digits.{length-tabulate}
use Rattle.bech32_bch.proofs.Candidates.{apart_inside}
use Rattle.bech32_lookup.specs.Question.{IsOnlyListing}
use Rattle.bech32_lookup.proofs.Lawful.{only_lawful}
use Rattle.bech32_lookup.proofs.OneError.{no_pattern, not_zero_by_eq, nothing_left, zero_by_eq}
use Rattle.bech32_lookup.proofs.Only.{no_erasures, none_listed, one_listed}
use Rattle.bech32_lookup.proofs.single.correct_single.Goals as goal

pub returns-then-eq-clause-answer : goal.returns-then-eq-clause-answer
returns-then-eq-clause-answer g c =
    let code = g.Ck.Checksum.code in
    let residue = c.args.residue.now in
    let apart = apart_inside g.Ck.CorrectionField.Extension.embed g.Ck.CorrectionField.Extension.retract g.met.Ck.CorrectionField.Extension.retract_law in
    let size : length code.target ≡ length code.generator =
    ap (λ (k : Code). length k.target) g.met.Ck.Checksum.code_law ∙ length-tabulate g.Ck.Checksum.CHECKSUM_LENGTH _ ∙ sym g.met.Ck.Checksum.degree_law in
    let nothing : coefficient fe32.ops residue c.pivot_of-pivot.result ≡ fe32.zero =
    sym c.listed_coefficient.ensures ∙ zero_by_eq c.listed_coefficient.result c.eq.result c.eq.ensures c.if-eq.true in
    subst (λ (l : List (ℕ × Fe32)). IsOnlyListing code g.Ck.Checksum.bound (record { residue = residue; window = c.args.window; erasures = [] }) l) (sym c.new-listing.ensures)
    (only_lawful g.met.Ck.CorrectionField.Arithmetic.laws g.met.Ck.CorrectionField.LocatorField.embeds_law apart code
    g.Ck.Checksum.ROOT_GENERATOR g.Ck.Checksum.ROOT_EXPONENTS_START g.Ck.Checksum.ROOT_EXPONENTS_END g.Ck.Checksum.bound g.Ck.Checksum.CODE_LENGTH c.args.window
    g.met.Ck.Checksum.bound_law g.met.Ck.Checksum.code_length_law size (g.met.Ck.Checksum.lawful_law.0 c.requires.lawful.0 c.requires.lawful.1) c.requires.within residue [] []
    (no_erasures c.args.window) (none_listed c.args.window g.Ck.Checksum.bound) (nothing_left code.generator residue (c.pivot_of-pivot.ensures nothing)))

pub returns-in_default-clause-answer : goal.returns-in_default-clause-answer
returns-in_default-clause-answer g c = λ e h.
    let residue = c.args.residue.now in
    let some : IsSamePolynomial fe32.ops residue [] → ⊥ =
    λ same. not_zero_by_eq c.listed_coefficient.result c.eq.result c.eq.ensures c.if-eq.false (c.listed_coefficient.ensures ∙ same c.pivot_of-pivot.result) in
    no_pattern g.Ck.Checksum.code.generator residue c.args.window g.Ck.Checksum.bound c.requires.most some (rw c.in_default.is at c.error_below.ensures) e h

pub returns-clause-answer : goal.returns-clause-answer
returns-clause-answer g c =
    let code = g.Ck.Checksum.code in
    let residue = c.args.residue.now in
    let error : ℕ × Fe32 = c.in-Some.error in
    let apart = apart_inside g.Ck.CorrectionField.Extension.embed g.Ck.CorrectionField.Extension.retract g.met.Ck.CorrectionField.Extension.retract_law in
    let size : length code.target ≡ length code.generator =
    ap (λ (k : Code). length k.target) g.met.Ck.Checksum.code_law ∙ length-tabulate g.Ck.Checksum.CHECKSUM_LENGTH _ ∙ sym g.met.Ck.Checksum.degree_law in
    let found = rw c.in-Some.is at c.error_below.ensures in
    let listed : c.push.new.self ≡ c.in-Some.error ∷ [] = c.in_ok-push.ensures.ok ∙ ap (λ (l : List (ℕ × Fe32)). l ++ c.in-Some.error ∷ []) c.new-listing.ensures in
    subst (λ (l : List (ℕ × Fe32)). IsOnlyListing code g.Ck.Checksum.bound (record { residue = residue; window = c.args.window; erasures = [] }) l) (sym listed)
    (only_lawful g.met.Ck.CorrectionField.Arithmetic.laws g.met.Ck.CorrectionField.LocatorField.embeds_law apart code
    g.Ck.Checksum.ROOT_GENERATOR g.Ck.Checksum.ROOT_EXPONENTS_START g.Ck.Checksum.ROOT_EXPONENTS_END g.Ck.Checksum.bound g.Ck.Checksum.CODE_LENGTH c.args.window
    g.met.Ck.Checksum.bound_law g.met.Ck.Checksum.code_length_law size (g.met.Ck.Checksum.lawful_law.0 c.requires.lawful.0 c.requires.lawful.1) c.requires.within residue [] (error ∷ [])
    (no_erasures c.args.window) (one_listed c.args.window g.Ck.Checksum.bound error c.requires.one found.0 found.1.0) found.1.1)
