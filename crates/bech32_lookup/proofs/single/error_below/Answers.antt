use Rattle.std.proofs.Common.{subst, arith}
use Rattle.bech32_checksum.specs.OneError.{IsSingle}
use Rattle.bech32_lookup.proofs.OneError.{none_before, none_below}
use Rattle.bech32_lookup.proofs.single.error_below.Goals as goal

pub returns-in-Absent : goal.returns-in-Absent
returns-in-Absent g c =
    none_below g.Ck.Checksum.code.generator c.args.residue.now g.Ck.Checksum.CODE_LENGTH c.args.window c.looked_up_error.result c.requires.within
    c.looked_up_error.ensures c.in-Absent.is

pub returns-else-error-window : goal.returns-else-error-window
returns-else-error-window g c =
    none_before g.Ck.Checksum.code.generator c.args.residue.now g.Ck.Checksum.CODE_LENGTH c.args.window c.in-Found.error c.requires.within
    (subst (IsSingle g.Ck.Checksum.code.generator g.Ck.Checksum.CODE_LENGTH c.args.residue.now) c.in-Found.is c.looked_up_error.ensures) (omega (arith, c.if-error-window.false))
