use Rattle.std.proofs.Common.{length, rules}
use Rattle.bech32_more_calls.proofs.Written.{refused-full, refused-value}
use Rattle.bech32_more_calls.proofs.columns.encode.encode_program.Goals as goal

pub returns-in-Err : goal.returns-in-Err
returns-in-Err c =
    let h = rw c.from.ensures at c.in-Err.ensures.refused in
    record {
      value = refused-value (λ t. t.number) (λ t. t.count) c.args.hrp.now c.args.version c.args.program.now c.args.text.now c.encoded.new.text c.in-Err.refusal h c.in-Err.ensures.same c.refused.result c.refused.ensures;
      full = refused-full (λ t. t.number) (λ t. t.count) c.args.hrp.now c.args.version c.args.program.now c.args.text.now c.encoded.new.text c.in-Err.refusal h c.in-Err.ensures.same c.refused.result c.refused.ensures;
      same = search rules;
    }
