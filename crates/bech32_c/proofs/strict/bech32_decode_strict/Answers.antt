use Rattle.std.proofs.Common.{length}
use Rattle.bech32_calls.specs.Strict.{CanDecodeStrict, IsStrictFault}
use Rattle.bech32_calls.proofs.ByNumber.{no_fault_of_texts}
use Rattle.bech32_calls.proofs.OneSpelling.{no_strict_fault}
use Rattle.bech32_c.proofs.strict.bech32_decode_strict.Goals as goal

pub returns-in-Err-clause-accepts : goal.returns-in-Err-clause-accepts
returns-in-Err-clause-accepts c can =
    let text = c.args.text.now in
    let m = length c.args.hrp.now in
    let n = length c.args.bytes.now in
    absurd (no_fault_of_texts (CanDecodeStrict text m n) (IsStrictFault text m n) c.in-Err.refusal
    (λ code. no_strict_fault text m n code c.in-Err.refusal) c.args.checksum can c.in-Err.ensures.refused)
