use Rattle.std.proofs.Common.{rules}
use Rattle.std.proofs.lemmas.Result.{err_from_is_err_and}
use Rattle.bech32_correction.proofs.Outcomes.{none-from_lengths, refusal_of_parts}
use Rattle.bech32_near.proofs.texts.nearest.Goals as goal

pub returns-in_err-validate_lengths : goal.returns-in_err-validate_lengths
returns-in_err-validate_lengths g c =
    let code = g.Ck.Checksum.code in
    let s = c.in_ok-reading.reading in
    let refusal = rw c.in_ok-reading.ensures.value at c.in_err-validate_lengths.ensures in
    let e = c.in_err-validate_lengths.field-0.0 in
    let p = err_from_is_err_and c.from_residual-in_err-validate_lengths.result c.from_residual-in_err-validate_lengths.ensures.1 in
    rw p.1 (rw p.2 (refusal_of_parts code c.args.text.now s.hrp.now s.data_part.now e (rw c.in_ok-reading.ensures.value at s.is_reading.grammar) refusal.0
    (none-from_lengths code _ s.hrp.now s.data_part.now e refusal.0 refusal.1)))

pub nearest_to_reading-requires : goal.nearest_to_reading-requires
nearest_to_reading-requires g c = (search rules, (search rules, c.in_ok-validate_lengths.ensures))

pub returns : goal.returns
returns g c = rw c.in_ok-reading.ensures.value at c.in_ok-nearest_to_reading.ensures
