use Rattle.std.proofs.Common.{inl, inr, subst}
use Rattle.std.proofs.lemmas.Result.{err_from_is_err_and}
use Rattle.bech32_gf.specs.declared.gf32.Fe32.{Fe32}
use Rattle.blech32.specs.Words.{blech32_code}
use Rattle.liquid.specs.Confidential.{IsLowerConfidential}
use Rattle.bech32_more_calls.proofs.confidential.address.encoded.Goals as goal

pub returns-in_err-element-clause-refused : goal.returns-in_err-element-clause-refused
returns-in_err-element-clause-refused c =
    let p = err_from_is_err_and c.from_residual.result c.from_residual.ensures.1 in
    rw p.1 (inl (c.in_err-element.field-0.0, p.2, inl c.in_err-element.ensures))

pub returns-in_err-test_part-clause-refused : goal.returns-in_err-test_part-clause-refused
returns-in_err-test_part-clause-refused c =
    let p = err_from_is_err_and c.from_residual-in_err-test_part.result c.from_residual-in_err-test_part.ensures.1 in
    rw p.1 (inl (c.in_err-test_part.field-0.0, p.2, inr (c.in_ok-element.ensures.0, c.in_err-test_part.ensures)))

pub returns-clause-value : goal.returns-clause-value
returns-clause-value c =
    let hrp = c.args.hrp.now in
    let key = c.args.key.now in
    let program = c.args.program.now in
    let given = c.in_ok-element.ensures in
    let (written, is_address, put) = c.put_address.ensures in
    record {
      text = written;
      is_hrp = c.in_ok-test_part.ensures;
      small = given.0;
      is_address = subst (λ (v : Fe32). IsLowerConfidential blech32_code hrp v key program written) given.1 is_address;
      put = put;
    }
