use Rattle.std.proofs.Common.{ap, arith, length, refl}
use Rattle.std.proofs.lemmas.Result.{err_from_is_err_and}
use Rattle.bech32_calls.proofs.Addresses.{program_lacks, puts_program, refused_address}
use Rattle.bech32_calls.specs.declared.refusal.Refusal.TheVariants.{Address, NoRoom}
use Rattle.bech32_small.proofs.segwit.decoded.Goals as goal

pub short_address-requires : goal.short_address-requires
short_address-requires c = omega (arith, ap length c.in_ok-reading.ensures.0, c.in_ok-reading.ensures.1)

pub returns-in_err-reading-clause-refused : goal.returns-in_err-reading-clause-refused
returns-in_err-reading-clause-refused c =
    let p = err_from_is_err_and c.from_residual.result c.from_residual.ensures.1 in
    rw p.1 (rw p.2 (c.in_err-reading.ensures (length c.args.hrp.now) (length c.args.program.now)))

pub returns-in-Err-clause-refused : goal.returns-in-Err-clause-refused
returns-in-Err-clause-refused c =
    let r = c.in_ok-reading.reading in
    let read = c.in_ok-reading.ensures.0 in
    record {
      refusal = Address c.in-Err.e;
      holds = refused_address c.args.text.now r.hrp.now r.data_part.now (length c.args.hrp.now) (length c.args.program.now) c.in-Err.e
          (rw read at r.is_reading.grammar) c.in_ok-reading.ensures.1 (rw read at c.in-Err.ensures);
      number = c.number.ensures.value;
    }

pub returns-in-None-clause-refused : goal.returns-in-None-clause-refused
returns-in-None-clause-refused c =
    let r = c.in_ok-reading.reading in
    let read = c.in_ok-reading.ensures.0 in
    let a = c.in-Ok.address in
    record {
      refusal = NoRoom;
      holds = program_lacks c.args.text.now r.hrp.now a.version a.program.now (rw read at c.in-Ok.ensures)
          (length c.args.hrp.now) (length c.args.program.now) NoRoom (refl, (rw c.in-None.is at c.put_parts.ensures).0);
      number = refl;
    }

pub returns-in-Some-clause-value : goal.returns-in-Some-clause-value
returns-in-Some-clause-value c =
    let r = c.in_ok-reading.reading in
    let read = c.in_ok-reading.ensures.0 in
    let a = c.in-Ok.address in
    puts_program c.args.text.now r.hrp.now a.version a.program.now (rw read at c.in-Ok.ensures)
    c.args.hrp.now c.put_parts.new.hrp c.args.program.now c.put_parts.new.bytes _ _ _ refl (rw c.in-Some.is at c.put_parts.ensures)
