use Rattle.std.proofs.Common.{arith}
use Rattle.std.proofs.lemmas.Result.{err_from_is_err_and}
use Rattle.bech32_calls.proofs.Checking.{unread_check}
use Rattle.bech32_small.proofs.Checked.{right, too_long, too_short, wrong}
use Rattle.bech32_small.proofs.Numbers.{numbered}
use Rattle.bech32_small.proofs.decode.checked.Goals as goal

pub returns-in_err-reading : goal.returns-in_err-reading
returns-in_err-reading c code has most =
    let p = err_from_is_err_and c.from_residual.result c.from_residual.ensures.1 in
    rw p.1 (rw p.2 (numbered _ (unread_check c.args.bytes.now code) c.in_err-reading.ensures))

pub returns-then-bytes-most : goal.returns-then-bytes-most
returns-then-bytes-most c code has most =
    let r = c.in_ok-reading.reading in
    too_long c.args.target c.args.most code has most c.args.bytes.now r.hrp.now r.data_part.now r.residue (rw c.in_ok-reading.ensures at r.is_reading)
    (omega (arith, c.if-bytes-most.true))

pub returns-then-reading-lt-LENGTH : goal.returns-then-reading-lt-LENGTH
returns-then-reading-lt-LENGTH c code has most =
    let r = c.in_ok-reading.reading in
    too_short c.args.target c.args.most code has most c.args.bytes.now r.hrp.now r.data_part.now r.residue (rw c.in_ok-reading.ensures at r.is_reading)
    (omega (arith, c.if-bytes-most.false)) (omega (arith, c.if-reading-lt-LENGTH.true))

pub returns-then-reading-target : goal.returns-then-reading-target
returns-then-reading-target c code has most =
    let r = c.in_ok-reading.reading in
    wrong c.args.target c.args.most code has most c.args.bytes.now r.hrp.now r.data_part.now r.residue (rw c.in_ok-reading.ensures at r.is_reading)
    (omega (arith, c.if-bytes-most.false)) (omega (arith, c.if-reading-lt-LENGTH.false)) c.requires (λ e. omega (arith, e, c.if-reading-target.true))

pub returns : goal.returns
returns c code has most =
    let r = c.in_ok-reading.reading in
    right c.args.target c.args.most code has most c.args.bytes.now r.hrp.now r.data_part.now r.residue (rw c.in_ok-reading.ensures at r.is_reading) _ _
    (omega (arith, c.if-bytes-most.false)) (omega arith) (omega (arith, c.if-reading-lt-LENGTH.false)) (omega (arith, c.if-reading-target.false))
