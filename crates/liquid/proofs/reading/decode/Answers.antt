use Rattle.std.proofs.Common.{refl}
use Rattle.std.proofs.lemmas.Result.{err_from_is_err_and}
use Rattle.blech32.specs.Words.{blech32_code}
use Rattle.liquid.proofs.Refused.{accepts-from_outcome, refused-from_outcome, value-from_outcome}
use Rattle.liquid.proofs.reading.decode.Goals as goal

pub returns-in_err-reading-clause-accepts : goal.returns-in_err-reading-clause-accepts
returns-in_err-reading-clause-accepts c =
    let p = err_from_is_err_and c.from_residual.result c.from_residual.ensures.1 in
    accepts-from_outcome blech32_code refl refl c.args.s.now c.utf8.s c.from_residual.result (rw p.1 (rw p.2 c.in_err-reading.ensures.refused))

pub returns-clause-value : goal.returns-clause-value
returns-clause-value c = value-from_outcome blech32_code refl refl c.args.s.now c.decoded.result (rw c.in_ok-reading.ensures.value at c.decoded.ensures)

pub returns-clause-accepts : goal.returns-clause-accepts
returns-clause-accepts c = accepts-from_outcome blech32_code refl refl c.args.s.now c.utf8.s c.decoded.result (rw c.in_ok-reading.ensures.value at c.decoded.ensures)

pub returns-clause-refused : goal.returns-clause-refused
returns-clause-refused c = refused-from_outcome blech32_code refl refl c.args.s.now c.decoded.result (rw c.in_ok-reading.ensures.value at c.decoded.ensures)
