use Rattle.std.proofs.Common.{length}
use Rattle.bech32_more_calls.proofs.Addresses.{no_encode_fault}
use Rattle.bech32_c.proofs.confidential.bech32_liquid_encode.Goals as goal

pub returns-in-Err-clause-accepts : goal.returns-in-Err-clause-accepts
returns-in-Err-clause-accepts c has_room =
    absurd (no_encode_fault c.args.hrp.now c.args.version (length c.args.program.now) (length c.args.text.now) c.in-Err.refusal has_room c.in-Err.ensures.refused)
