use Rattle.std.proofs.Common.{rules, ◌≤◌, ℕ, subst}
use Rattle.std.proofs.lemmas.Result.{err_from_is_err_and}
use Rattle.bech32.proofs.writers.encode_into_bytes.Goals as goal

pub returns-in_err-pieces_into_bytes-clause-refused : goal.returns-in_err-pieces_into_bytes-clause-refused
returns-in_err-pieces_into_bytes-clause-refused g c =
    let p = err_from_is_err_and c.from_residual-in_err-pieces_into_bytes.result c.from_residual-in_err-pieces_into_bytes.ensures.1 in
    let size = c.in_ok-encoded_length.ensures in
    let failed = c.in_err-pieces_into_bytes.ensures in
    let (n, within, took) = failed.beginning in
    rw p.1 (rw p.2 (subst (λ (k : ℕ). k ≤ g.Ck.Checksum.code.code_length) size.0 size.1, (failed.err_mark, (_, c.new-pieces.ensures, n, within, took))))

pub returns-in_err-pieces_into_bytes-clause-error : goal.returns-in_err-pieces_into_bytes-clause-error
returns-in_err-pieces_into_bytes-clause-error g c =
    let p = err_from_is_err_and c.from_residual-in_err-pieces_into_bytes.result c.from_residual-in_err-pieces_into_bytes.ensures.1 in
    rw p.1 (rw p.2 (_, c.new-pieces.ensures, c.in_err-pieces_into_bytes.ensures.error))

pub returns-clause-ok : goal.returns-clause-ok
returns-clause-ok g c = (_, c.new-pieces.ensures, search rules)
