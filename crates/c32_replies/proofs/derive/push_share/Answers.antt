use Rattle.std.proofs.Common.{rules, ◌≡◌, ◌++◌, [], ◌∷◌, inr}
use Rattle.std.proofs.lemmas.Result.{err_from_is_err_and}
use Rattle.c32_replies.proofs.derive.push_share.Goals as goal

pub returns-in_err-share : goal.returns-in_err-share
returns-in_err-share g c =
    let p = err_from_is_err_and c.from_residual.result c.from_residual.ensures.1 in
    rw p.1 (rw p.2 (inr c.in_err-share.ensures.refused))

pub returns-in-Ok : goal.returns-in-Ok
returns-in-Ok g c =
    let added : c.push.new.self.items ≡ c.args.shares.now.items ++ (c.in_ok-share.share ∷ []) = search rules in
    (c.in_ok-share.share, c.in_ok-share.ensures.parts, added)
