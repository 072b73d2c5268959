use Rattle.std.proofs.Common.{arith}
use Rattle.bech32_calls.proofs.Decoding.{no_read_fault}
use Rattle.bech32_more_calls.proofs.columns.check.check_text.Goals as goal

pub returns-in-Err : goal.returns-in-Err
returns-in-Err c = record {
  either = λ z. record {
    value = λ e. absurd (omega (arith, e, c.number.ensures.some));
    accepts = λ a. absurd (no_read_fault c.args.text.now c.in-Err.refusal a c.in-Err.ensures);
    refused = λ nz. record { refusal = c.in-Err.refusal; holds = c.in-Err.ensures; number = c.number.ensures.value };
  };
  one = λ nz. absurd (nz c.if-checksum-ne0.false);
}
