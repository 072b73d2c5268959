use Rattle.std.proofs.Common.{arith, refl}
use Rattle.bech32_segwit.proofs.SegwitEncoding.{address_fits}
use Rattle.b32_replies.proofs.segwit_encode.length_of.Goals as goal

pub returns-in-Ok : goal.returns-in-Ok
returns-in-Ok c =
    let (has, size) = c.in-Ok.ensures in
    (has, size, omega (arith, size, address_fits c.args.hrp.now c.args.version c.args.program.now has))

pub returns-in-Err : goal.returns-in-Err
returns-in-Err c = (c.in-Err.e, refl, c.in-Err.ensures)
