use Rattle.bech32_decode.specs.Acceptance.{Accepts}
use Rattle.bech32_calls.specs.Check.{IsCheckFault}
use Rattle.bech32_calls.proofs.ByNumber.{no_fault_of_texts}
use Rattle.bech32_calls.proofs.Checking.{no_check_fault}
use Rattle.bech32_calls.proofs.Stands.{accepted-stands, fault-stands}
use Rattle.bech32_calls.proofs.fault.number_of.Goals as goal

pub returns-in-Err-clause-accepts : goal.returns-in-Err-clause-accepts
returns-in-Err-clause-accepts c accepted =
    absurd (no_fault_of_texts (λ code. Accepts code c.args.text.now) (IsCheckFault c.args.text.now) c.in-Err.refusal
    (λ code. no_check_fault c.args.text.now code c.in-Err.refusal) c.args.checksum accepted c.in-Err.ensures)

pub returns-in-Ok-clause-stands : goal.returns-in-Ok-clause-stands
returns-in-Ok-clause-stands c = accepted-stands c.args.text.now

pub returns-in-Err-clause-stands : goal.returns-in-Err-clause-stands
returns-in-Err-clause-stands c = fault-stands c.args.text.now c.args.checksum c.in-Err.refusal c.number.result c.number.ensures.value c.in-Err.ensures
