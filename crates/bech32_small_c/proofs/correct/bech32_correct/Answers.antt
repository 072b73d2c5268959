use Rattle.std.proofs.Common.{length}
use Rattle.bech32_calls.specs.Correct.{CanMend, IsCorrectFault}
use Rattle.bech32_calls.proofs.ByNumber.{no_fault_by}
use Rattle.bech32_calls.proofs.Mending.{no_correct_fault}
use Rattle.bech32_small.proofs.Numbers.{not_zero}
use Rattle.bech32_small_c.proofs.correct.bech32_correct.Goals as goal

pub returns-in-Err-clause-value : goal.returns-in-Err-clause-value
returns-in-Err-clause-value c none = absurd (not_zero c.in-Err.number c.in-Err.ensures.refused none)

pub returns-in-Err-clause-accepts : goal.returns-in-Err-clause-accepts
returns-in-Err-clause-accepts c can =
    let fault = c.in-Err.ensures.refused in
    let text = c.args.text.now in
    let given = c.args.erasures.now in
    let m = length c.args.locations.now in
    let n = length c.args.values.now in
    let r = length c.args.mended.now in
    absurd (no_fault_by (CanMend text given m n r) (IsCorrectFault text given m n r) fault.refusal
    (λ code. no_correct_fault text given code m n r fault.refusal) c.args.checksum can fault.holds)
