use Rattle.std.specs.Prelude.{true, false}
use Rattle.std.proofs.Common.{rules, ◌≡◌, ◌≢◌, ◌+◌, ◌<◌, ℕ, length, get_or, take, [], ◌∷◌, ◌++◌, arith, sym, ap, ◌∙◌, refl}
use Rattle.std.proofs.lemmas.List.{length-append, take_all, take_more}
use Rattle.bech32_gf.specs.Field.{power}
use Rattle.bech32_bch.specs.Knock.{without}
use Rattle.bech32_bch.specs.Search.{locators}
use Rattle.bech32_bch.proofs.Located.{length-locators}
use Rattle.bech32_bch.proofs.Loops.{get-locators, locators-more, other_more, other_same}
use Rattle.bech32_bch.proofs.terms.other_locators.Goals.{then-locations-k+in_ok-push, else-locations-k}
use Rattle.bech32_bch.proofs.terms.other_locators.Goals as goal

pub loop-k-preserved : goal.loop-k-preserved
loop-k-preserved g c =
    let o = g.K.Arithmetic.ops in
    let b = c.args.base in
    let k : ℕ = c.loop-k.k in
    let locations = c.args.locations.now in
    let ms = take k locations in
    let x : ℕ = get_or locations k 0 in
    let within : k < length locations = c.loop-k-test.true in
    let more : take (k + 1) locations ≡ ms ++ (x ∷ []) = take_more locations k 0 within in
    elim c.if-locations-k.branch [
      | then-locations-k+in_ok-push w ↦
          let other : x ≢ c.args.location = search rules in
          let y = w.index-all-k.result in
          let read : y ≡ power o b x = get-locators o b locations c.args.all.now k y within c.requires w.index-all-k.is in
          let pushed : c.if-locations-k.others ≡ c.loop-k.others ++ (y ∷ []) = w.others-is ∙ w.in_ok-push.ensures.ok in
          record {
            so_far = pushed ∙ ap (λ u. u ++ (y ∷ [])) c.loop-k.invariant.so_far ∙ ap (λ u. locators o b (without c.args.location ms) ++ (u ∷ [])) read
                ∙ sym (locators-more o b (without c.args.location ms) x)
                ∙ ap (locators o b) (other_more c.args.location x ms (without c.args.location ms) refl other ∙ ap (without c.args.location) (sym more));
            fits = omega (arith, ap (λ u. length u) pushed, length-append c.loop-k.others (y ∷ []), c.loop-k.invariant.fits);
          }
      | else-locations-k w ↦
          let same : x ≡ c.args.location = search rules in
          record {
            so_far = w.others-is ∙ c.loop-k.invariant.so_far ∙ ap (locators o b) (other_same c.args.location x ms (without c.args.location ms) refl same ∙ ap (without c.args.location) (sym more));
            fits = omega (arith, ap (λ u. length u) w.others-is, c.loop-k.invariant.fits);
          }
    ]

refused : {P : Type 0} → false ≡ true → P
refused h = absurd (cc h)

pub bounds-all-k : goal.bounds-all-k
bounds-all-k g c = omega (arith, ap (λ u. length u) c.requires, length-locators g.K.Arithmetic.ops c.args.base c.args.locations.now)

pub returns-in_err-push-clause-in_place : goal.returns-in_err-push-clause-in_place
returns-in_err-push-clause-in_place g c = λ few. refused (c.in_err-push.ensures.in_place (omega (arith, c.loop-k.invariant.fits, few)))

pub returns-clause-locators : goal.returns-clause-locators
returns-clause-locators g c =
    c.loop-k.invariant.so_far ∙ ap (λ u. locators g.K.Arithmetic.ops c.args.base (without c.args.location u)) (take_all c.loop-k.k c.args.locations.now (omega arith))
