use Rattle.std.proofs.Common.{length, refl}
use Rattle.bech32_calls.proofs.Addresses.{no_segwit_encode_fault, put-spelling, room-from_address}
use Rattle.bech32_small.proofs.Numbers.{not_zero}
use Rattle.bech32_small_c.proofs.segwit.bech32_segwit_encode.Goals as goal

pub returns-in-Err-clause-value : goal.returns-in-Err-clause-value
returns-in-Err-clause-value c none = absurd (not_zero c.in-Err.number c.in-Err.ensures.refused none)

pub returns-in-Ok-clause-spelling : goal.returns-in-Ok-clause-spelling
returns-in-Ok-clause-spelling c h t same a is small fits =
    (refl, put-spelling c.args.hrp.now c.args.version c.args.program.now _ _ _ h t same a c.in-Ok.ensures.value)

pub returns-in-Err-clause-accepts : goal.returns-in-Err-clause-accepts
returns-in-Err-clause-accepts c has_room =
    let fault = c.in-Err.ensures.refused in
    absurd (no_segwit_encode_fault c.args.hrp.now c.args.version c.args.program.now (length c.args.text.now) fault.refusal has_room fault.holds)

pub returns-in-Err-clause-spelling : goal.returns-in-Err-clause-spelling
returns-in-Err-clause-spelling c h t same a is small fits =
    let fault = c.in-Err.ensures.refused in
    let room = room-from_address c.args.hrp.now c.args.version c.args.program.now (length c.args.text.now) h t same a is small fits in
    absurd (no_segwit_encode_fault c.args.hrp.now c.args.version c.args.program.now (length c.args.text.now) fault.refusal room fault.holds)
