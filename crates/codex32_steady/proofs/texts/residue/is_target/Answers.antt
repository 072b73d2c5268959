use Rattle.std.proofs.Common.{sym, ◌∙◌}
use Rattle.codex32_steady.proofs.texts.residue.is_target.Goals as goal

pub returns : goal.returns
returns g c =
    let law = g.met.Ck.MidstateRepr.PackedFe32.eq_law c.args.residue.now c.TARGET_RESIDUE.result in (
      λ yes. law.0 (sym c.eq.ensures ∙ yes) ∙ c.TARGET_RESIDUE.ensures,
      λ same. c.eq.ensures ∙ law.1 (same ∙ sym c.TARGET_RESIDUE.ensures),
    )
