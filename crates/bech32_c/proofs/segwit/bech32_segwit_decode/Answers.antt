use Rattle.std.proofs.Common.{length}
use Rattle.bech32_calls.proofs.Addresses.{no_segwit_decode_fault}
use Rattle.bech32_c.proofs.segwit.bech32_segwit_decode.Goals as goal

pub returns-in-Err-clause-accepts : goal.returns-in-Err-clause-accepts
returns-in-Err-clause-accepts c can =
    absurd (no_segwit_decode_fault c.args.text.now (length c.args.hrp.now) (length c.args.program.now) c.in-Err.refusal can c.in-Err.ensures.refused)
