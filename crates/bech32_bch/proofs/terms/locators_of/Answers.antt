use Rattle.std.specs.Prelude.{true, false}
use Rattle.std.proofs.Common.{◌≡◌, ◌≤◌, ℕ, length, get_or, take, [], ◌∷◌, ◌++◌, arith, sym, ap, ◌∙◌}
use Rattle.std.proofs.lemmas.List.{take_all, take_more}
use Rattle.bech32_bch.specs.Search.{locators}
use Rattle.bech32_bch.proofs.Located.{length-locators}
use Rattle.bech32_bch.proofs.Loops.{locators-more}
use Rattle.bech32_bch.proofs.Places.{length_take}
use Rattle.bech32_bch.proofs.terms.locators_of.Goals as goal

refused : {P : Type 0} → false ≡ true → P
refused h = absurd (cc h)

pub loop-location-preserved : goal.loop-location-preserved
loop-location-preserved g c =
    let o = g.K.Arithmetic.ops in
    let b = c.args.base in
    let k : ℕ = c.loop-location.location-index in
    let locations = c.args.locations.now in
    c.in_ok-push.ensures.ok ∙ ap (λ u. u ++ (c.power.result ∷ [])) c.loop-location.invariant
    ∙ ap (λ y. locators o b (take k locations) ++ (y ∷ [])) c.power.ensures
    ∙ sym (locators-more o b (take k locations) (get_or locations k 0))
    ∙ ap (locators o b) (sym (take_more locations k 0 c.loop-location-test.true))

pub returns-clause-locators : goal.returns-clause-locators
returns-clause-locators g c =
    c.loop-location.invariant ∙ ap (locators g.K.Arithmetic.ops c.args.base) (take_all c.loop-location.location-index c.args.locations.now c.loop-location-test.false)

pub returns-in_err-push-clause-in_place : goal.returns-in_err-push-clause-in_place
returns-in_err-push-clause-in_place g c = λ fits.
    let k : ℕ = c.loop-location.location-index in
    let locations = c.args.locations.now in
    let within : k ≤ length locations = omega arith in
    refused (c.in_err-push.ensures.in_place (omega (arith, fits, ap (λ u. length u) c.loop-location.invariant, length-locators g.K.Arithmetic.ops c.args.base (take k locations), length_take locations k within, c.loop-location-test.true)))
