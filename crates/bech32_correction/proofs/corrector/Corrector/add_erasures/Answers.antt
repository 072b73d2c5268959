use Rattle.std.specs.List.{AllByRecursion}
use Rattle.std.proofs.Common.{◌≡◌, ◌<◌, ◌∙◌, ℕ, List, length, take, sym, ap, subst}
use Rattle.bech32_gf.specs.declared.gf32.Fe32.{Fe32}
use Rattle.bech32_poly.specs.FieldVec.{FitsInPlace}
use Rattle.bech32_bch.specs.Erasures.{AreErasures, with_erasures}
use Rattle.bech32_bch.specs.Search.{locators}
use Rattle.bech32_lookup.specs.Question.{Question}
use Rattle.bech32_lookup.proofs.Added.{erasures_more}
use Rattle.bech32_correction.proofs.corrector.Corrector.add_erasures.Goals as goal

pub invariant_of-self : goal.invariant_of-self
invariant_of-self g c =
    let held = c.self.inside in
    let within = subst (λ (v : Question). AllByRecursion (λ i. i < v.window) c.args.locations.now) (sym c.self.view_is) c.requires in (
      c.self.invariant.0,
      subst (AreErasures held.window) (sym c.in-Ok.ensures.ok) (erasures_more held.window held.erasures c.args.locations.now c.self.invariant.1 within),
      c.in-Ok.ensures.locators ∙ ap (λ b. locators g.Ck.CorrectionField.Arithmetic.ops b c.extended.new.erasures) c.ROOT_GENERATOR.ensures,
      c.self.invariant.3,
    )

pub invariant_of-self-in-Err : goal.invariant_of-self-in-Err
invariant_of-self-in-Err g c =
    let held = c.self.inside in
    let back : c.truncate.new.self ≡ held.erasures = c.truncate.ensures ∙ ap (λ n. take n c.extended.new.erasures) c.len-before.ensures ∙ c.in-Err.ensures.front in (
      c.self.invariant.0,
      subst (AreErasures held.window) (sym back) c.self.invariant.1,
      c.self.invariant.2 ∙ ap (locators g.Ck.CorrectionField.Arithmetic.ops g.Ck.Checksum.ROOT_GENERATOR) (sym back),
      c.self.invariant.3,
    )

abbrev holds : List Fe32 → ℕ → List ℕ → Question
holds residue window erasures = record { residue = residue; window = window; erasures = erasures }

as_before : (residue : List Fe32) (window : ℕ) (erasures erasures' : List ℕ) (v : Question) → erasures' ≡ erasures → holds residue window erasures ≡ v → holds residue window erasures' ≡ v
as_before residue window erasures erasures' v e k = (λ i. holds residue window (e i)) ∙ k

pub returns-in-Err-clause-err : goal.returns-in-Err-clause-err
returns-in-Err-clause-err g c =
    let held = c.self.inside in
    let back : c.truncate.new.self ≡ held.erasures = c.truncate.ensures ∙ ap (λ n. take n c.extended.new.erasures) c.len-before.ensures ∙ c.in-Err.ensures.front in
    as_before held.residue held.window held.erasures c.truncate.new.self _ back c.self.view_is

pub returns-in-Err-clause-in_place : goal.returns-in-Err-clause-in_place
returns-in-Err-clause-in_place g c = λ fits.
    c.in-Err.ensures.in_place (subst (λ (v : Question). FitsInPlace (length (with_erasures v.erasures c.args.locations.now))) (sym c.self.view_is) fits)
