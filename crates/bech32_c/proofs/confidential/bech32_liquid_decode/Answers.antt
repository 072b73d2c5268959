use Rattle.std.proofs.Common.{length}
use Rattle.bech32_more_calls.proofs.Addresses.{no_decode_fault}
use Rattle.bech32_c.proofs.confidential.bech32_liquid_decode.Goals as goal

pub returns-in-Err-clause-accepts : goal.returns-in-Err-clause-accepts
returns-in-Err-clause-accepts c is part_fits program_fits =
    absurd (no_decode_fault c.args.text.now (length c.args.hrp.now) (length c.args.program.now) c.in-Err.refusal is part_fits program_fits c.in-Err.ensures.refused)
