use Rattle.std.proofs.Common.{◌<◌, ◌*◌, ◌^◌, ℕ, sym, subst}
use Rattle.bech32_checksum.specs.Code.{IsResidueOf}
use Rattle.bech32_near.proofs.edits.residue.word_of.Goals as goal

pub returns : goal.returns
returns g c p h =
    let number = g.Ck.MidstateRepr.PackedFe32.number in
    let code = g.Ck.Checksum.code in record {
      residue = subst (λ r. IsResidueOf number code r p) (sym c.residue.ensures.value) h;
      clear = subst (λ (d : ℕ). number c.residue.result.now < 2 ^ (5 * d)) (sym g.met.Ck.Checksum.degree_law) c.residue.ensures.clear;
    }
