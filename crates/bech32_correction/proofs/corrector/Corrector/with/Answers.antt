use Rattle.std.proofs.Common.{◌≡◌, ◌≤◌, ◌∙◌, ℕ, List, [], true, false, length, ap, subst, arith}
use Rattle.bech32_bch.specs.Erasures.{with_erasures}
use Rattle.bech32_bch.specs.Search.{locators}
use Rattle.bech32_lookup.specs.Question.{Question}
use Rattle.bech32_correction.specs.Given.{AreWithin, with_given}
use Rattle.bech32_correction.proofs.corrector.Corrector.with.Goals as goal

pub invariant_of-result : goal.invariant_of-result
invariant_of-result g c =
    let found = rw c.in-Some.is at c.in_ok-erasures.ensures.value in (
      c.self.invariant.0,
      found.1,
      c.in_ok-known.ensures.locators ∙ ap (λ b. locators g.Ck.CorrectionField.Arithmetic.ops b c.as_slice.result.now) c.ROOT_GENERATOR.ensures
          ∙ ap (locators g.Ck.CorrectionField.Arithmetic.ops g.Ck.Checksum.ROOT_GENERATOR) c.as_slice.ensures,
      c.self.invariant.3,
    )

pub returns-in_default-clause-value : goal.returns-in_default-clause-value
returns-in_default-clause-value g c =
    let not = rw c.in_default.is at c.in_ok-erasures.ensures.value in
    subst (λ (q : Question). AreWithin q.window g.Ck.Checksum.bound c.args.given.now → ⊥) c.self.view_is
    (subst (λ (n : ℕ). AreWithin c.self.inside.window n c.args.given.now → ⊥) c.bound-most.ensures not)

pub returns-clause-value : goal.returns-clause-value
returns-clause-value g c =
    let given = c.args.given.now in
    let found = rw c.in-Some.is at c.in_ok-erasures.ensures.value in (
      subst (λ (q : Question). AreWithin q.window g.Ck.Checksum.bound given) c.self.view_is
          (subst (λ (n : ℕ). AreWithin c.self.inside.window n given) c.bound-most.ensures found.0),
      ap (λ (s : List ℕ). record { residue = c.self.inside.residue; window = c.self.inside.window; erasures = s }) found.2
          ∙ ap (λ (q : Question). with_given q given) c.self.view_is,
    )

refused : {P : Type 0} → false ≡ true → P
refused h = absurd (cc h)

pub returns-in_err-erasures-clause-in_place : goal.returns-in_err-erasures-clause-in_place
returns-in_err-erasures-clause-in_place g c = λ short.
    refused (c.in_err-erasures.ensures.in_place (omega (arith, short, c.bound-most.ensures, g.met.Ck.Checksum.bound_law, (g.met.Ck.Checksum.lawful_law.0 c.self.invariant.3.0 c.self.invariant.3.1).few)))

pub returns-in_err-known-clause-in_place : goal.returns-in_err-known-clause-in_place
returns-in_err-known-clause-in_place g c = λ short.
    let found = rw c.in-Some.is at c.in_ok-erasures.ensures.value in
    let few : length (with_erasures [] c.args.given.now) ≤ c.bound-most.result = found.0.1 in
    refused (c.in_err-known.ensures.in_place
    (omega (arith, short, few, c.bound-most.ensures, g.met.Ck.Checksum.bound_law, (g.met.Ck.Checksum.lawful_law.0 c.self.invariant.3.0 c.self.invariant.3.1).few, ap (λ (s : List ℕ). length s) (c.as_slice.ensures ∙ found.2))))

pub returns-in_err-erasures-clause-few : goal.returns-in_err-erasures-clause-few
returns-in_err-erasures-clause-few g c = λ fits. refused (c.in_err-erasures.ensures.few fits)

pub returns-in_err-known-clause-few : goal.returns-in_err-known-clause-few
returns-in_err-known-clause-few g c = λ fits.
    let found = rw c.in-Some.is at c.in_ok-erasures.ensures.value in
    refused (c.in_err-known.ensures.in_place (omega (arith, fits, ap (λ (s : List ℕ). length s) (c.as_slice.ensures ∙ found.2))))
