use Rattle.std.proofs.Common.{◌≡◌, ◌≤◌, ◌∷◌, ◌++◌, [], List, ℕ, ap, subst, ◌∙◌}
use Rattle.std.specs.List.{AllByRecursion}
use Rattle.bech32_near.proofs.NearestAnswers.{one_more}
use Rattle.bech32_near.proofs.search.gathering.erased_listing.Goals as goal

pub returns : goal.returns
returns g c = λ within.
    let q = c.args.corrector.now in
    let highest = c.highest_of.result in
    let given : c.push.new.self ≡ q.erasures ++ c.args.location ∷ [] =
    c.in_ok-push.ensures.ok ∙ ap (λ s. s ++ c.args.location ∷ []) (c.in_ok-wider.ensures.ok ∙ c.erasures-erasures.ensures.value) in
    let below : AllByRecursion (λ i. i ≤ highest) q.erasures = subst (λ (s : List ℕ). AllByRecursion (λ i. i ≤ highest) s) c.erasures-erasures.ensures.value c.highest_of.ensures.erasures in
    one_more g.Ck.Checksum.code g.Ck.Checksum.bound q c.args.location highest c.as_slice.result.now c.listing.result (c.as_slice.ensures ∙ given) c.erasures-erasures.ensures.lawful
    c.highest_of.ensures.location below (c.highest_of.ensures.among q.window within (rw (← c.erasures-erasures.ensures.value) at c.erasures-erasures.ensures.lawful.below))
    c.listing.ensures.answer
