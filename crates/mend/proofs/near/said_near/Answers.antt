use Rattle.std.proofs.lemmas.Result.{err_from_is_err_and}
use Rattle.bech32_checksum.specs.Roots.{singleton_bound}
use Rattle.b32_replies.specs.Request.{code_of_name}
use Rattle.mend.proofs.Replies.{refused_near, says-found}
use Rattle.mend.proofs.near.said_near.Goals as goal

pub returns : goal.returns
returns c =
    says-found _ (code_of_name c.args.checksum) c.args.text.now c.args.given.now c.args.errors c.in_ok-near.near.items c.as_slice.result.now _ c.as_slice.ensures.value c.in_ok-near.ensures
    c.in_ok-said_of_first.ensures

pub returns-in_err-near : goal.returns-in_err-near
returns-in_err-near c =
    let p = err_from_is_err_and c.from_residual.result c.from_residual.ensures.1 in
    rw p.1 (rw p.2 (refused_near (code_of_name c.args.checksum) (singleton_bound 24 26) c.args.text.now c.args.given.now c.args.errors c.in_err-near.field-0.0 c.in_err-near.ensures))

pub returns-in_err-said_of_first : goal.returns-in_err-said_of_first
returns-in_err-said_of_first c =
    let p = err_from_is_err_and c.from_residual-in_err-said_of_first.result c.from_residual-in_err-said_of_first.ensures.1 in
    let l = c.in_ok-near.ensures.listings in
    rw p.1 (rw p.2 (l.hrp, l.data_part, l.residue, l.read))
