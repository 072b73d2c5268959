use Rattle.std.proofs.Common.{length, ap}
use Rattle.std.proofs.lemmas.Result.{err_from_is_err_and}
use Rattle.bech32_gf.specs.declared.gf32.Fe32.{Fe32}
use Rattle.bech32_more_calls.proofs.Addresses.{lacks_room, puts_parts}
use Rattle.bech32_more_calls.proofs.confidential.address.decoded.Goals as goal

pub returns-in_err-address-clause-refused : goal.returns-in_err-address-clause-refused
returns-in_err-address-clause-refused c =
    let p = err_from_is_err_and c.from_residual.result c.from_residual.ensures.1 in
    rw p.1 (rw p.2 (c.in_err-address.ensures (length c.args.hrp.now) (length c.args.program.now)))

pub returns-in_err-part-clause-refused : goal.returns-in_err-part-clause-refused
returns-in_err-part-clause-refused c =
    let p = err_from_is_err_and c.from_residual-in_err-part.result c.from_residual-in_err-part.ensures.1 in
    rw p.1 (rw p.2 (lacks_room c.args.text.now c.in_ok-address.address (length c.args.hrp.now) (length c.args.program.now) c.in_err-part.field-0.0
    c.in_ok-address.ensures c.in_err-part.ensures.refused))

pub returns-clause-value : goal.returns-clause-value
returns-clause-value c =
    puts_parts c.args.text.now c.in_ok-address.address c.args.hrp.now c.put_parts.new.hrp c.put_parts.new.key c.args.program.now c.put_parts.new.program _ _ _
    c.in_ok-address.ensures (ap (λ (v : Fe32). v.value) c.witness_version.ensures) c.in_ok-part.ensures.value
