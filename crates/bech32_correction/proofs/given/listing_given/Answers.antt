use Rattle.std.proofs.Common.{rules, ◌≡◌, ◌≤◌, ℕ, List, [], true, false, length, subst, ap, arith}
use Rattle.std.specs.Prelude.{IfOk}
use Rattle.bech32_bch.specs.Erasures.{with_erasures}
use Rattle.bech32_lookup.specs.Question.{IsAnswerTo}
use Rattle.bech32_correction.specs.Given.{AreWithin}
use Rattle.bech32_correction.proofs.Within.{none_with, some_with}
use Rattle.bech32_correction.proofs.given.listing_given.Goals as goal

pub listing_below-requires : goal.listing_below-requires
listing_below-requires g c =
    let found = rw c.in-Some.is at c.in_ok-erasures.ensures.value in
    (search rules, (search rules, (search rules, (c.requires.lawful, (c.requires.within, (found.1, c.in_ok-known.ensures.locators))))))

pub returns-in_default-clause-answer : goal.returns-in_default-clause-answer
returns-in_default-clause-answer g c = λ before.
    let not = rw c.in_default.is at c.in_ok-erasures.ensures.value in
    none_with g.Ck.Checksum.code g.Ck.Checksum.bound (record { residue = c.args.residue.now; window = c.args.window; erasures = before }) c.args.given.now
    (subst (λ (n : ℕ). AreWithin c.args.window n c.args.given.now → ⊥) c.bound.ensures not)

pub returns-clause-answer : goal.returns-clause-answer
returns-clause-answer g c = λ before.
    let code = g.Ck.Checksum.code in
    let bound = g.Ck.Checksum.bound in
    let given = c.args.given.now in
    let found = rw c.in-Some.is at c.in_ok-erasures.ensures.value in
    some_with code bound (record { residue = c.args.residue.now; window = c.args.window; erasures = before }) given c.listing_below.result
    (subst (λ (n : ℕ). AreWithin c.args.window n given) c.bound.ensures found.0)
    (subst (λ (s : List ℕ). IfOk c.listing_below.result (λ answer. IsAnswerTo code bound (record { residue = c.args.residue.now; window = c.args.window; erasures = s }) answer))
    found.2 c.listing_below.ensures.answer)

refused : {P : Type 0} → false ≡ true → P
refused h = absurd (cc h)

pub returns-in_err-erasures-clause-in_place : goal.returns-in_err-erasures-clause-in_place
returns-in_err-erasures-clause-in_place g c = λ short.
    refused (c.in_err-erasures.ensures.in_place (omega (arith, short, c.bound.ensures, (g.met.Ck.Checksum.lawful_law.0 c.requires.lawful.0 c.requires.lawful.1).few, g.met.Ck.Checksum.bound_law)))

pub returns-in_err-known-clause-in_place : goal.returns-in_err-known-clause-in_place
returns-in_err-known-clause-in_place g c = λ short.
    let found = rw c.in-Some.is at c.in_ok-erasures.ensures.value in
    let few : length (with_erasures [] c.args.given.now) ≤ c.bound.result = found.0.1 in
    refused (c.in_err-known.ensures.in_place
    (omega (arith, short, few, c.bound.ensures, (g.met.Ck.Checksum.lawful_law.0 c.requires.lawful.0 c.requires.lawful.1).few, g.met.Ck.Checksum.bound_law, ap (λ (s : List ℕ). length s) found.2)))
