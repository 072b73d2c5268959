use Rattle.std.proofs.lemmas.Result.{err_from_is_err_and}
use Rattle.std.proofs.Common.{inr, refl}
use Rattle.codex32.proofs.Derived.{agree-from_put}
use Rattle.codex32.proofs.derivation.derived_in.Goals as goal

pub returns-in_err-spelled_in : goal.returns-in_err-spelled_in
returns-in_err-spelled_in g c =
    let p = err_from_is_err_and c.from_residual-in_err-spelled_in.result c.from_residual-in_err-spelled_in.ensures.1 in
    let (size, small, whole, given) = c.in_ok-size.ensures.outcome in
    rw p.1 (rw p.2 (inr (inr (refl, whole, λ contradict. contradict (agree-from_put c.args.shares.now c.args.index _ _ size given)))))
