use Rattle.std.proofs.Common.{◌∙◌, ap, sym}
use Rattle.bech32_checksum.specs.Code.{Code}
use Rattle.bech32_decode.proofs.Checksums.{has_target, target_alone}
use Rattle.bech32_near.proofs.edits.residue.is_target.Goals as goal

pub returns : goal.returns
returns g c p word =
    let laws = g.met.Ck.Checksum in
    let words = g.met.Ck.MidstateRepr.PackedFe32 in
    let number = g.Ck.MidstateRepr.PackedFe32.number in
    let code = g.Ck.Checksum.code in
    let residue = c.args.residue in
    let target_is = ap (λ (k : Code). k.target) laws.code_law in
    let same = words.eq_law residue c.TARGET_RESIDUE.result in (
      λ yes_. has_target code _ _ laws.degree_law target_is (number residue) p (ap number (same.0 (sym c.eq.ensures ∙ yes_) ∙ c.TARGET_RESIDUE.ensures)) word.residue,
      λ wanted. c.eq.ensures ∙ same.1 (words.same_number_law residue g.Ck.Checksum.TARGET_RESIDUE
          (target_alone code _ _ laws.degree_law target_is (number residue) p (rw laws.degree_law at word.clear) laws.packing_laws.target_clear word.residue wanted) ∙ sym c.TARGET_RESIDUE.ensures),
    )
