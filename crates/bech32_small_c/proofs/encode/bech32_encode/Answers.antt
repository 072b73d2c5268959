use Rattle.std.proofs.Common.{length}
use Rattle.bech32_calls.specs.Encode.{HasText, IsEncodeFault}
use Rattle.bech32_calls.proofs.ByNumber.{no_fault_of_texts}
use Rattle.bech32_calls.proofs.Encoding.{no_encode_fault}
use Rattle.bech32_small.proofs.Numbers.{not_zero}
use Rattle.bech32_small_c.proofs.encode.bech32_encode.Goals as goal

pub returns-in-Err-clause-value : goal.returns-in-Err-clause-value
returns-in-Err-clause-value c none = absurd (not_zero c.in-Err.number c.in-Err.ensures.refused none)

pub returns-in-Err-clause-accepts : goal.returns-in-Err-clause-accepts
returns-in-Err-clause-accepts c has_text =
    let fault = c.in-Err.ensures.refused in
    let hrp = c.args.hrp.now in
    let bytes = c.args.bytes.now in
    let room = length c.args.text.now in
    absurd (no_fault_of_texts (λ code. HasText code hrp bytes room) (IsEncodeFault hrp bytes room) fault.refusal
    (λ code. no_encode_fault hrp bytes room code fault.refusal) c.args.checksum has_text fault.holds)
