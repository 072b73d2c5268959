use Rattle.bech32_checksum.proofs.Input.{one_clear}
use Rattle.bech32_checksum.proofs.Residue.{one_is_residue}
use Rattle.bech32_checksum.proofs.Engine.new.Goals as goal

pub invariant_of-result : goal.invariant_of-result
invariant_of-result g c = rw c.ONE.ensures
    (one_clear g.Ck.Checksum.CHECKSUM_LENGTH g.Ck.MidstateRepr.PackedFe32.WIDTH (g.Ck.MidstateRepr.PackedFe32.number g.Ck.MidstateRepr.PackedFe32.ONE)
    g.met.Ck.Checksum.packing_laws.empty g.met.Ck.Checksum.packing_laws.fits (g.met.Ck.MidstateRepr.PackedFe32.empty_law g.Ck.MidstateRepr.PackedFe32.ONE) g.met.Ck.MidstateRepr.PackedFe32.one_law)

pub returns : goal.returns
returns g c = rw c.ONE.ensures
    (one_is_residue g.Ck.Checksum.code.generator g.Ck.MidstateRepr.PackedFe32.WIDTH _
    (rw g.met.Ck.Checksum.degree_law g.met.Ck.Checksum.packing_laws.fits) g.met.Ck.MidstateRepr.PackedFe32.one_law)
