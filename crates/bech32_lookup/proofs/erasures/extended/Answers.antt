use Rattle.std.specs.Prelude.{true, false, OnOk}
use Rattle.std.proofs.Common.{◌≡◌, ◌<◌, ◌+◌, ◌∷◌, [], ℕ, take, get_or, length, Result, Ok, Err, IfOk, ap, ◌∙◌, subst, arith}
use Rattle.bech32_bch.specs.Erasures.{with_erasures}
use Rattle.bech32_bch.specs.Search.{locators}
use Rattle.bech32_lookup.proofs.Added.{all_taken, length-with_some, take-with_erasures, with_erasures-more}
use Rattle.bech32_lookup.proofs.erasures.extended.Goals as goal

on_ok : {T E : Type 0} (r : Result T E) {P : Type 0} → P → OnOk r P
on_ok (Ok x) p = p
on_ok (Err e) p = tt

refused : {P : Type 0} → false ≡ true → P
refused h = absurd (cc h)

pub returns-in_err-add_erasure-clause-front : goal.returns-in_err-add_erasure-clause-front
returns-in_err-add_erasure-clause-front g c =
    ap (take (length c.args.erasures.now)) (c.in_err-add_erasure.ensures.err ∙ c.loop-location.invariant)
    ∙ take-with_erasures c.args.erasures.now (take c.loop-location.location-index c.args.more.now)

pub returns-in_err-add_erasure-clause-in_place : goal.returns-in_err-add_erasure-clause-in_place
returns-in_err-add_erasure-clause-in_place g c = λ fits.
    let i : ℕ = c.loop-location.location-index in
    let within : i < length c.args.more.now = omega (arith, c.loop-location-test.true) in
    let now : with_erasures c.loop-location.erasures (get_or c.args.more.now i 0 ∷ []) ≡ with_erasures c.args.erasures.now (take (i + 1) c.args.more.now) =
    with_erasures-more c.args.erasures.now c.args.more.now c.loop-location.erasures i within c.loop-location.invariant in
    refused (c.in_err-add_erasure.ensures.in_place
    (omega (arith, fits, ap (λ u. length u) now, length-with_some c.args.erasures.now c.args.more.now (i + 1))))

pub loop-location-preserved : goal.loop-location-preserved
loop-location-preserved g c =
    c.in_ok-add_erasure.ensures.ok
    ∙ with_erasures-more c.args.erasures.now c.args.more.now c.loop-location.erasures c.loop-location.location-index (omega (arith, c.loop-location-test.true)) c.loop-location.invariant

pub returns-clause-front : goal.returns-clause-front
returns-clause-front g c =
    ap (take (length c.args.erasures.now)) c.loop-location.invariant ∙ take-with_erasures c.args.erasures.now (take c.loop-location.location-index c.args.more.now)

pub returns-clause-ok : goal.returns-clause-ok
returns-clause-ok g c =
    on_ok c.locators_of.result
    (c.loop-location.invariant ∙ ap (with_erasures c.args.erasures.now) (all_taken c.args.more.now c.loop-location.location-index (omega (arith, c.loop-location-test.false))))

pub returns-clause-locators : goal.returns-clause-locators
returns-clause-locators g c =
    subst (λ u. IfOk c.locators_of.result (λ known. known ≡ locators g.K.Arithmetic.ops c.args.base u)) c.as_slice.ensures c.locators_of.ensures.locators

pub returns-clause-in_place : goal.returns-clause-in_place
returns-clause-in_place g c = λ fits.
    c.locators_of.ensures.in_place
    (omega (arith, fits, ap (λ u. length u) c.as_slice.ensures, ap (λ u. length u) c.loop-location.invariant, length-with_some c.args.erasures.now c.args.more.now c.loop-location.location-index))
