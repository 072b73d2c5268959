use Rattle.std.proofs.Common.{length, refl}
use Rattle.std.specs.Prelude.{Err, Ok}
use Rattle.std.proofs.lemmas.Result.{err_from_is_err_and}
use Rattle.bech32_calls.specs.declared.refusal.Refusal.TheVariants.{Checksum, NoRoom}
use Rattle.bech32_calls.proofs.Decoding.{decoded_lacks, puts_decoded, refused_either, unread_decode}
use Rattle.bech32_small.proofs.Numbers.{numbered}
use Rattle.bech32_small.proofs.decode.decoded.Goals as goal

pub returns-in_err-reading-clause-refused : goal.returns-in_err-reading-clause-refused
returns-in_err-reading-clause-refused c =
    let p = err_from_is_err_and c.from_residual.result c.from_residual.ensures.1 in
    rw p.1 (rw p.2 (numbered _ (unread_decode c.args.text.now (length c.args.hrp.now) (length c.args.bytes.now)) c.in_err-reading.ensures))

pub returns-in-Err-clause-refused : goal.returns-in-Err-clause-refused
returns-in-Err-clause-refused c =
    record {
      refusal = Checksum c.in-Err.e;
      holds = refused_either c.args.text.now c.in-Err.e (rw c.in_ok-reading.ensures at c.in-Err.ensures);
      number = c.number.ensures.value;
    }

pub returns-in-None-clause-refused : goal.returns-in-None-clause-refused
returns-in-None-clause-refused c =
    let r = c.in_ok-reading.reading in
    record {
      refusal = NoRoom;
      holds = decoded_lacks c.args.text.now r.hrp.now r.data_part.now c.characters.result.now
          (rw c.in_ok-reading.ensures at c.in-Ok.ensures) c.characters.ensures.before
          (length c.args.hrp.now) (length c.args.bytes.now) (Err NoRoom) (refl, (rw c.in-None.is at c.put_parts.ensures).0);
      number = refl;
    }

pub returns-in-Some-clause-value : goal.returns-in-Some-clause-value
returns-in-Some-clause-value c =
    let r = c.in_ok-reading.reading in
    puts_decoded c.args.text.now r.hrp.now r.data_part.now c.characters.result.now
    (rw c.in_ok-reading.ensures at c.in-Ok.ensures) c.characters.ensures.before
    c.args.hrp.now c.put_parts.new.hrp c.args.bytes.now c.put_parts.new.bytes (Ok (length r.hrp.now, c.in-Some.count)) (rw c.in-Some.is at c.put_parts.ensures)
