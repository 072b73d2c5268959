use Rattle.std.proofs.Common.{◌++◌, ◌∷◌, [], sym, subst, ap, ◌∙◌}
use Rattle.std.proofs.lemmas.Result.{err_from_is_err_and}
use Rattle.bech32_near.specs.search.Nearest.{AreNearest}
use Rattle.bech32_near.proofs.listings.listings_within.Goals as goal

pub returns-in_err-push-clause-memory : goal.returns-in_err-push-clause-memory
returns-in_err-push-clause-memory g c = λ few.
    let p = err_from_is_err_and c.from_residual-in_err-push.result c.from_residual-in_err-push.ensures.1 in
    rw p.1 (λ six. (c.in-Some.listing, rw c.in-Some.is at (c.in_ok-listing.ensures.all few)))

pub returns-clause-all : goal.returns-clause-all
returns-clause-all g c = λ few.
    subst (AreNearest g.Ck.Checksum.code g.Ck.Checksum.bound c.args.corrector.now c.args.errors)
    (sym (c.in_ok-push.ensures.items ∙ ap (λ u. u ++ c.in-Some.listing ∷ []) c.new-listings.ensures.items)) (rw c.in-Some.is at (c.in_ok-listing.ensures.all few))
