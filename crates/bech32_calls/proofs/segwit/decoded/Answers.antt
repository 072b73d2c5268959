use Rattle.std.proofs.Common.{ap, arith, length, refl}
use Rattle.std.proofs.lemmas.Result.{err_from_is_err_and}
use Rattle.bech32_calls.proofs.Addresses.{program_lacks, puts_program, refused_address}
use Rattle.bech32_calls.proofs.segwit.decoded.Goals as goal

pub short_address-requires : goal.short_address-requires
short_address-requires c = omega (arith, ap length c.in_ok-reading.ensures.0, c.in_ok-reading.ensures.1)

pub returns-in_err-reading-clause-refused : goal.returns-in_err-reading-clause-refused
returns-in_err-reading-clause-refused c =
    let p = err_from_is_err_and c.from_residual.result c.from_residual.ensures.1 in
    rw p.1 (rw p.2 (c.in_err-reading.ensures (length c.args.hrp.now) (length c.args.program.now)))

pub returns-in_err-address-clause-refused : goal.returns-in_err-address-clause-refused
returns-in_err-address-clause-refused c =
    let r = c.in_ok-reading.reading in
    let read = c.in_ok-reading.ensures.0 in
    let p = err_from_is_err_and c.from_residual-in_err-address.result c.from_residual-in_err-address.ensures.1 in
    rw p.1 (rw p.2 (refused_address c.args.text.now r.hrp.now r.data_part.now (length c.args.hrp.now) (length c.args.program.now) c.in_err-address.field-0.0
    (rw read at r.is_reading.grammar) c.in_ok-reading.ensures.1 (rw read at c.in_err-address.ensures)))

pub returns-in_err-part-clause-refused : goal.returns-in_err-part-clause-refused
returns-in_err-part-clause-refused c =
    let r = c.in_ok-reading.reading in
    let read = c.in_ok-reading.ensures.0 in
    let a = c.in_ok-address.address in
    let p = err_from_is_err_and c.from_residual-in_err-part.result c.from_residual-in_err-part.ensures.1 in
    rw p.1 (rw p.2 (program_lacks c.args.text.now r.hrp.now a.version a.program.now (rw read at c.in_ok-address.ensures)
    (length c.args.hrp.now) (length c.args.program.now) c.in_err-part.field-0.0 c.in_err-part.ensures.refused))

pub returns-clause-value : goal.returns-clause-value
returns-clause-value c =
    let r = c.in_ok-reading.reading in
    let read = c.in_ok-reading.ensures.0 in
    let a = c.in_ok-address.address in
    puts_program c.args.text.now r.hrp.now a.version a.program.now (rw read at c.in_ok-address.ensures)
    c.args.hrp.now c.put_parts.new.hrp c.args.program.now c.put_parts.new.bytes _ _ _ refl c.in_ok-part.ensures.value
