use Rattle.bech32_decode.specs.Acceptance.{Accepts}
use Rattle.bech32_calls.specs.Check.{IsCheckFault}
use Rattle.bech32_calls.proofs.ByNumber.{no_fault_of_texts}
use Rattle.bech32_calls.proofs.Checking.{no_check_fault}
use Rattle.bech32_c.proofs.decode.bech32_check.Goals as goal

pub returns-in-Err-clause-accepts : goal.returns-in-Err-clause-accepts
returns-in-Err-clause-accepts c accepted =
    absurd (no_fault_of_texts (λ code. Accepts code c.args.text.now) (IsCheckFault c.args.text.now) c.in-Err.refusal
    (λ code. no_check_fault c.args.text.now code c.in-Err.refusal) c.args.checksum accepted c.in-Err.ensures)
