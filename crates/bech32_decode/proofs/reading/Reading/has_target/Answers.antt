use Rattle.std.proofs.Common.{◌∙◌, ap, sym}
use Rattle.bech32_checksum.specs.Code.{Code}
use Rattle.bech32_decode.proofs.Checksums.{has_target, target_alone}
use Rattle.bech32_decode.proofs.Readings.{residue-from_reading}
use Rattle.bech32_decode.proofs.reading.Reading.has_target.Goals as goal

pub returns : goal.returns
returns g c =
    let laws = g.met.Ck.Checksum in
    let words = g.met.Ck.MidstateRepr.PackedFe32 in
    let number = g.Ck.MidstateRepr.PackedFe32.number in
    let code = g.Ck.Checksum.code in
    let s = c.args.self.now in
    let leaves = residue-from_reading number code s.text.now s.hrp.now s.data_part.now s.residue s.is_reading in
    let target_is = ap (λ (k : Code). k.target) laws.code_law in
    let same = words.eq_law s.residue c.TARGET_RESIDUE.result in (
      λ yes_. has_target code _ _ laws.degree_law target_is (number s.residue) _ (ap number (same.0 (sym c.eq.ensures ∙ yes_) ∙ c.TARGET_RESIDUE.ensures)) leaves,
      λ wanted. c.eq.ensures ∙ same.1 (words.same_number_law s.residue g.Ck.Checksum.TARGET_RESIDUE
          (target_alone code _ _ laws.degree_law target_is (number s.residue) _ (rw laws.degree_law at s.is_reading.clear) laws.packing_laws.target_clear leaves wanted) ∙ sym c.TARGET_RESIDUE.ensures),
    )
