use Rattle.std.proofs.Common.{length}
use Rattle.bech32_calls.proofs.Addresses.{no_segwit_decode_fault}
use Rattle.bech32_small.proofs.Numbers.{not_zero}
use Rattle.bech32_small_c.proofs.segwit.bech32_segwit_decode.Goals as goal

pub returns-in-Err-clause-value : goal.returns-in-Err-clause-value
returns-in-Err-clause-value c none = absurd (not_zero c.in-Err.number c.in-Err.ensures.refused none)

pub returns-in-Err-clause-accepts : goal.returns-in-Err-clause-accepts
returns-in-Err-clause-accepts c can =
    let fault = c.in-Err.ensures.refused in
    absurd (no_segwit_decode_fault c.args.text.now (length c.args.hrp.now) (length c.args.program.now) fault.refusal can fault.holds)
