use Rattle.std.specs.Prelude.{true, false}
use Rattle.std.proofs.Common.{◌≡◌, ◌++◌, ◌∷◌, [], ℕ, List, length, sym, ap, ◌∙◌, arith, length-drop}
use Rattle.std.proofs.lemmas.Result.{on_ok_weaker}
use Rattle.bech32_gf.specs.declared.gf32.Fe32.{Fe32}
use Rattle.bech32_near.proofs.NearestAnswers.{tried_not, tried_one}
use Rattle.bech32_near.proofs.search.gathering.push_highest.Goals as goal

pub returns-in_default : goal.returns-in_default
returns-in_default g c = λ long.
    absurd (omega (arith, long, ap (λ u. length u) c.as_slice.ensures, ap (λ u. length u) c.parts_at.ensures.back, length-drop c.args.erased c.as_slice.result.now, c.in_default.ensures.cases))

pub returns-then-not-is_highest : goal.returns-then-not-is_highest
returns-then-not-is_highest g c = λ long.
    tried_not c.args.listing.now c.as_slice.result.now c.parts_at.result.0.now c.parts_at.result.1.now c.in-Some.rest.now c.args.erased c.args.others.limit c.args.others.errors c.in-Some.error.now c.args.found.now.items
    c.as_slice.ensures c.parts_at.ensures.front c.parts_at.ensures.back c.in-Some.ensures.cases.0 long
    (λ k. let e : false ≡ true = sym c.if-not-is_highest.true ∙ c.is_highest.ensures.1 k in cc e)

pub returns : goal.returns
returns g c = λ long.
    on_ok_weaker c.push_listing.result
    (λ pushed. tried_one c.args.listing.now c.as_slice.result.now c.parts_at.result.0.now c.parts_at.result.1.now c.in-Some.rest.now c.args.erased c.args.others.limit c.args.others.errors c.in-Some.error.now c.args.found.now.items
    c.as_slice.ensures c.parts_at.ensures.front c.parts_at.ensures.back c.in-Some.ensures.cases.0 long
    c.push_listing.new.found.items (c.is_highest.ensures.0 c.if-not-is_highest.false)
    (pushed ∙ ap (λ (u : List (ℕ × Fe32)). c.args.found.now.items ++ u ∷ []) c.in_ok-raised.ensures))
    c.push_listing.ensures
