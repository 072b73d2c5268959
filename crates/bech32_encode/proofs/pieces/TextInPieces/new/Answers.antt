use Rattle.std.proofs.Common.{arith}
use Rattle.bech32_hrp.specs.HrpBytes.{hrp_bytes}
use Rattle.bech32_checksum.proofs.Digits.{length-tabulate}
use Rattle.bech32_encode.proofs.ChecksumEnds.{target-length}
use Rattle.bech32_encode.proofs.TextsLeft.{text_at_first}
use Rattle.bech32_encode.proofs.pieces.TextInPieces.new.Goals as goal

pub returns : goal.returns
returns g c =
    let laws = g.met.Ck.Checksum in
    let wide = g.met.Ck.MidstateRepr.PackedFe32.wide_law in
    let fits = laws.packing_laws.fits in
    let degree = laws.degree_law in
    text_at_first g.Ck.MidstateRepr.PackedFe32.number g.Ck.Checksum.code
    (target-length g.Ck.Checksum.code _ _ laws.code_law (length-tabulate _ _) laws.degree_law) (omega arith)
    c.args.upper (hrp_bytes c.args.hrp.now) c.args.version c.args.bytes.now _ c.engine_after.ensures
