use Rattle.std.proofs.Common.{ℕ, ap, arith, length}
use Rattle.std.proofs.lemmas.Result.{err_from_is_err_and}
use Rattle.bech32_calls.proofs.Addresses.{refused_address}
use Rattle.bech32_calls.proofs.segwit.address_in.Goals as goal

pub short_address-requires : goal.short_address-requires
short_address-requires c = omega (arith, ap length c.in_ok-reading.ensures.0, c.in_ok-reading.ensures.1)

pub returns-in_err-reading : goal.returns-in_err-reading
returns-in_err-reading c =
    let p = err_from_is_err_and c.from_residual.result c.from_residual.ensures.1 in
    rw p.1 (rw p.2 c.in_err-reading.ensures)

pub returns-in_err-address : goal.returns-in_err-address
returns-in_err-address c =
    let r = c.in_ok-reading.reading in
    let read = c.in_ok-reading.ensures.0 in
    let p = err_from_is_err_and c.from_residual-in_err-address.result c.from_residual-in_err-address.ensures.1 in
    rw p.1 (rw p.2 (λ (m n : ℕ). refused_address c.args.text.now r.hrp.now r.data_part.now m n c.in_err-address.field-0.0
    (rw read at r.is_reading.grammar) c.in_ok-reading.ensures.1 (rw read at c.in_err-address.ensures)))

pub returns : goal.returns
returns c = rw c.in_ok-reading.ensures.0 at c.in_ok-address.ensures
