use Rattle.std.proofs.Common.{length, refl}
use Rattle.bech32_calls.proofs.Back.{no_back_fault, put-back}
use Rattle.bech32_calls.proofs.Decoding.{no_decode_fault}
use Rattle.bech32_small.proofs.Numbers.{not_zero}
use Rattle.bech32_small_c.proofs.decode.bech32_decode.Goals as goal

pub returns-in-Err-clause-value : goal.returns-in-Err-clause-value
returns-in-Err-clause-value c none = absurd (not_zero c.in-Err.number c.in-Err.ensures.refused none)

pub returns-in-Ok-clause-back : goal.returns-in-Ok-clause-back
returns-in-Ok-clause-back c part found is below encoded short part_fits found_fits =
    let put = put-back c.args.text.now part found is below encoded _ _ _ _ _ _ c.in-Ok.ensures.value in
    (refl, put.0, put.1)

pub returns-in-Err-clause-accepts : goal.returns-in-Err-clause-accepts
returns-in-Err-clause-accepts c can =
    let fault = c.in-Err.ensures.refused in
    absurd (no_decode_fault c.args.text.now (length c.args.hrp.now) (length c.args.bytes.now) fault.refusal can fault.holds)

pub returns-in-Err-clause-back : goal.returns-in-Err-clause-back
returns-in-Err-clause-back c part found is below encoded short part_fits found_fits =
    let fault = c.in-Err.ensures.refused in
    absurd (no_back_fault c.args.text.now part found is below encoded (length c.args.hrp.now) (length c.args.bytes.now) fault.refusal short part_fits found_fits
    fault.holds)
