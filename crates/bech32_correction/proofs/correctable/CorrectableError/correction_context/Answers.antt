use Rattle.std.proofs.Common.{◌≡◌, ◌<◌, ◌⊎◌, [], Some, None, subst}
use Rattle.std.specs.Prelude.{MatchOption}
use Rattle.bech32_refusals.specs.ResidueRows.{error_residue_of}
use Rattle.bech32_refusals.specs.declared.error.InvalidResidueError.{InvalidResidueError}
use Rattle.bech32_correction.proofs.correctable.CorrectableError.correction_context.Goals as goal

pub returns : goal.returns
returns g c =
    let carried = g.Self.CorrectableError.carried c.args.self.now in
    subst (λ w. MatchOption c.correction_context_within.result ((g.Ck.Checksum.CHECKSUM_LENGTH ≡ 0) ⊎ (carried ≡ None))
    (λ r. (0 < g.Ck.Checksum.CHECKSUM_LENGTH) × ((e : InvalidResidueError) × (carried ≡ Some e) × (r ≡ record { residue = error_residue_of e; window = w; erasures = [] }))))
    c.CODE_LENGTH.ensures c.correction_context_within.ensures
