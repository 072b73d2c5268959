use Rattle.std.proofs.Common.{◌≡◌, true, false}
use Rattle.std.proofs.lemmas.Result.{err_from_is_err_and}
use Rattle.bech32_correction.proofs.Outcomes.{none-from_lengths, refusal_of_parts, reply_of}
use Rattle.bech32_correction.proofs.in_place.said_of_read.Goals as goal

pub listing_of_read-requires : goal.listing_of_read-requires
listing_of_read-requires g c = record {
  lengths = c.in_ok-validate_lengths.ensures;
  refused = λ is. let yes_ : c.has_target.result ≡ true = c.has_target.ensures.1 is in let no_ : c.has_target.result ≡ false = c.if-has_target.false in absurd cc;
}

pub returns-in_err-validate_lengths : goal.returns-in_err-validate_lengths
returns-in_err-validate_lengths g c =
    let code = g.Ck.Checksum.code in
    let s = c.args.reading.now in
    let refusal = c.in_err-validate_lengths.ensures in
    let e = c.in_err-validate_lengths.field-0.0 in
    let p = err_from_is_err_and c.from_residual.result c.from_residual.ensures.1 in
    rw p.1 (rw p.2 (refusal_of_parts code s.text.now s.hrp.now s.data_part.now e s.is_reading.grammar refusal.0
    (none-from_lengths code _ s.hrp.now s.data_part.now e refusal.0 refusal.1)))

pub returns-then-has_target : goal.returns-then-has_target
returns-then-has_target g c =
    let s = c.args.reading.now in
    let lengths = c.in_ok-validate_lengths.ensures in (
      s.hrp.now,
      s.data_part.now,
      record {
        grammar = c.args.reading.now.is_reading.grammar;
        text_length = lengths.0;
        data_length = lengths.1;
        has_target = c.has_target.ensures.0 c.if-has_target.true;
      },
    )

pub returns : goal.returns
returns g c =
    reply_of g.Ck.Checksum.code g.Ck.Checksum.bound c.args.reading.now.text.now c.args.erasures.now c.listing_of_read.result c.said_by.result
    c.listing_of_read.ensures c.said_by.ensures
