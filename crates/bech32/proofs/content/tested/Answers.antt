use Rattle.std.proofs.lemmas.Result.{err_from_is_err_and}
use Rattle.bech32.proofs.Values.{elements_refused}
use Rattle.bech32.proofs.content.tested.Goals as goal

pub returns-in-Bytes : goal.returns-in-Bytes
returns-in-Bytes g c = rw c.in-Bytes.is c.padded.ensures

pub returns-in_err-new-in-Elements : goal.returns-in_err-new-in-Elements
returns-in_err-new-in-Elements g c =
    let p = err_from_is_err_and c.from_residual.result c.from_residual.ensures.1 in
    rw p.1 (rw (p.2, c.in-Elements.is) (elements_refused g.Ck.Checksum.code c.args.s.now c.in_err-new-in-Elements.field-0.0 c.in_err-new-in-Elements.ensures.refused))

pub returns-in_ok-new-in-Elements : goal.returns-in_ok-new-in-Elements
returns-in_ok-new-in-Elements g c = rw c.in-Elements.is (c.in_ok-new-in-Elements.ensures.parts, tt)
