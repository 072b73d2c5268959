use Rattle.std.proofs.Common.{length}
use Rattle.bech32_calls.specs.Elements.{CanDecodeElements, IsElementsFault}
use Rattle.bech32_calls.proofs.ByNumber.{no_fault_of_texts}
use Rattle.bech32_calls.proofs.InElements.{no_elements_fault}
use Rattle.bech32_c.proofs.elements.bech32_decode_elements.Goals as goal

pub returns-in-Err-clause-accepts : goal.returns-in-Err-clause-accepts
returns-in-Err-clause-accepts c can =
    let text = c.args.text.now in
    let m = length c.args.hrp.now in
    let n = length c.args.elements.now in
    absurd (no_fault_of_texts (CanDecodeElements text m n) (IsElementsFault text m n) c.in-Err.refusal
    (λ code. no_elements_fault text m n code c.in-Err.refusal) c.args.checksum can c.in-Err.ensures.refused)
