use Rattle.std.proofs.Common.{take}
use Rattle.bech32_gf.specs.Fe32.{elements_of}
use Rattle.bech32_checksum.specs.Code.{IsResidueOf}
use Rattle.bech32_checksum.specs.TextPolynomial.{text_polynomial}
use Rattle.bech32_hrp.specs.HrpBytes.{hrp_bytes}
use Rattle.bech32_near.proofs.edits.residue.engine_of.Given as goal

abbrev pub invariant-loop-b : goal.invariant-loop-b
invariant-loop-b g l =
    IsResidueOf g.Ck.MidstateRepr.PackedFe32.number g.Ck.Checksum.code l.engine
    (text_polynomial (hrp_bytes l.fn.hrp) (elements_of (take l.b-index l.characters)))
