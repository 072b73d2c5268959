use Rattle.std.specs.Prelude.{slice_index, true, false}
use Rattle.std.proofs.Common.{◌≡◌, ◌∙◌, ℕ, suc, List, length, sym, subst, ap, arith}
use Rattle.bech32_gf.specs.Fe32 as fe32
use Rattle.bech32_gf.specs.declared.gf32.Fe32.{Fe32}
use Rattle.bech32_gf.specs.laws.Fe32Laws.{is_field}
use Rattle.bech32_poly.specs.Pattern.{value_of_pattern_at}
use Rattle.bech32_poly.specs.Polynomial.{coefficient}
use Rattle.bech32_checksum.specs.Code.{Code}
use Rattle.bech32_checksum.proofs.Digits.{length-tabulate}
use Rattle.bech32_bch.specs.Pattern.{HasRemainder}
use Rattle.bech32_bch.proofs.Candidates.{apart_inside}
use Rattle.bech32_lookup.specs.Equations.{placed}
use Rattle.bech32_lookup.specs.Question.{IsOnlyListing}
use Rattle.bech32_lookup.proofs.ErasedPatterns.{erased_pattern, only_erased}
use Rattle.bech32_lookup.proofs.Lawful.{only_lawful}
use Rattle.bech32_lookup.proofs.erased.correct_erased.Goals as goal

pub returns-in_default-clause-answer : goal.returns-in_default-clause-answer
returns-in_default-clause-answer g c = λ e h.
    let generator = g.Ck.Checksum.code.generator in
    let residue = c.args.residue.now in
    let s = c.args.erasures.now in
    (rw c.in_default.is at c.erased_values.ensures) (λ i. value_of_pattern_at fe32.ops e (slice_index s i))
    (subst (λ (l : List ℕ). HasRemainder fe32.ops generator residue (placed l (λ i. value_of_pattern_at fe32.ops e (slice_index s i)) (length l))) (sym c.as_slice.ensures)
    (erased_pattern is_field generator residue s c.args.window g.Ck.Checksum.bound e c.requires.erased c.requires.full h))

pub returns-clause-answer : goal.returns-clause-answer
returns-clause-answer g c =
    let code = g.Ck.Checksum.code in
    let residue = c.args.residue.now in
    let s = c.args.erasures.now in
    let value : ℕ → Fe32 = λ i. coefficient fe32.ops c.in-Some.values (suc i) in
    let apart = apart_inside g.Ck.CorrectionField.Extension.embed g.Ck.CorrectionField.Extension.retract g.met.Ck.CorrectionField.Extension.retract_law in
    let size : length code.target ≡ length code.generator =
    ap (λ (k : Code). length k.target) g.met.Ck.Checksum.code_law ∙ length-tabulate g.Ck.Checksum.CHECKSUM_LENGTH _ ∙ sym g.met.Ck.Checksum.degree_law in
    let found : HasRemainder fe32.ops code.generator residue (placed s value (length s)) =
    subst (λ (l : List ℕ). HasRemainder fe32.ops code.generator residue (placed l value (length l))) c.as_slice.ensures (rw c.in-Some.is at c.erased_values.ensures) in
    let listed : c.in_ok-listing.listing ≡ placed s value (length s) =
    c.in_ok-listing.ensures.items ∙ ap (λ (l : List ℕ). placed l value (length l)) c.as_slice-2.ensures in
    subst (λ (l : List (ℕ × Fe32)). IsOnlyListing code g.Ck.Checksum.bound (record { residue = residue; window = c.args.window; erasures = s }) l) (sym listed)
    (only_lawful g.met.Ck.CorrectionField.Arithmetic.laws g.met.Ck.CorrectionField.LocatorField.embeds_law apart code
    g.Ck.Checksum.ROOT_GENERATOR g.Ck.Checksum.ROOT_EXPONENTS_START g.Ck.Checksum.ROOT_EXPONENTS_END g.Ck.Checksum.bound g.Ck.Checksum.CODE_LENGTH c.args.window
    g.met.Ck.Checksum.bound_law g.met.Ck.Checksum.code_length_law size (g.met.Ck.Checksum.lawful_law.0 c.requires.lawful.0 c.requires.lawful.1) c.requires.within residue s (placed s value (length s))
    c.requires.erased (only_erased fe32.ops c.args.window g.Ck.Checksum.bound s value c.requires.few) found)

refused : {P : Type 0} → false ≡ true → P
refused h = absurd (cc h)

pub returns-in_err-listing-clause-in_place : goal.returns-in_err-listing-clause-in_place
returns-in_err-listing-clause-in_place g c = λ few.
    refused (c.in_err-listing.ensures.in_place (omega (arith, few, c.requires.few, (g.met.Ck.Checksum.lawful_law.0 c.requires.lawful.0 c.requires.lawful.1).few, g.met.Ck.Checksum.bound_law, ap (λ (l : List ℕ). length l) c.as_slice-2.ensures)))
