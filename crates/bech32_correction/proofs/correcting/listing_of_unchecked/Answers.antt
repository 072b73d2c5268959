use Rattle.std.proofs.Common.{rules, ◌≡◌, ℕ, length, ap, sym, ◌∙◌}
use Rattle.std.proofs.lemmas.Result.{err_from_is_err_and}
use Rattle.bech32_checksum.specs.Code.{Code}
use Rattle.bech32_checksum.proofs.Digits.{length-tabulate}
use Rattle.bech32_decode.specs.Refusals.{IsInvalidBy, IsValidBy}
use Rattle.bech32_refusals.specs.ResidueRows.{error_residue_of}
use Rattle.bech32_refusals.specs.declared.error.ChecksumError.TheVariants.{InvalidResidue}
use Rattle.bech32_correction.proofs.Outcomes.{accepted-from_valid, corrector_of, inside_code, none_carried, of_residue, refused_for, some_degree}
use Rattle.bech32_correction.proofs.correcting.listing_of_unchecked.Goals as goal

pub new-corrector-requires : goal.new-corrector-requires
new-corrector-requires g c =
    let code = g.Ck.Checksum.code in
    let u = c.args.unchecked.now in
    let error = c.in-InvalidResidue.error in
    let invalid : IsInvalidBy code u (InvalidResidue error) = rw c.in-InvalidResidue.is at (rw c.in-Err.is at c.validate_checksum.ensures) in
    let size : length code.target ≡ length code.generator =
    ap (λ (k : Code). length k.target) g.met.Ck.Checksum.code_law ∙ length-tabulate g.Ck.Checksum.CHECKSUM_LENGTH _ ∙ sym g.met.Ck.Checksum.degree_law in (
      search rules,
      (
        (g.met.Ck.CorrectingChecksum.lawful_roots, some_degree code u error size invalid),
        inside_code code _ _ g.Ck.Checksum.CODE_LENGTH (length c.data_part_ascii-window.result.now) u.fits invalid.0 g.met.Ck.Checksum.code_length_law (ap length c.data_part_ascii-window.ensures.value),
      ),
    )

pub returns-in_default-clause-value : goal.returns-in_default-clause-value
returns-in_default-clause-value g c = λ text is.
    let valid : IsValidBy g.Ck.Checksum.code c.args.unchecked.now = rw c.in_default.is at c.validate_checksum.ensures in
    accepted-from_valid g.Ck.Checksum.code text c.args.unchecked.now is valid

pub returns-in_default-refusal-clause-value : goal.returns-in_default-refusal-clause-value
returns-in_default-refusal-clause-value g c =
    rw c.from.ensures (rw c.in-Err.is at c.validate_checksum.ensures, none_carried c.in-Err.refusal c.in_default-refusal.not-InvalidResidue)

pub listing_by-requires : goal.listing_by-requires
listing_by-requires g c = search rules

pub returns-in_err-listing_by-clause-value : goal.returns-in_err-listing_by-clause-value
returns-in_err-listing_by-clause-value g c =
    let error = c.in-InvalidResidue.error in
    let invalid : IsInvalidBy g.Ck.Checksum.code c.args.unchecked.now (InvalidResidue error) = rw c.in-InvalidResidue.is at (rw c.in-Err.is at c.validate_checksum.ensures) in
    let p = err_from_is_err_and c.from_residual.result c.from_residual.ensures.1 in
    rw p.1 (rw p.2 (error, invalid))

pub returns-clause-value : goal.returns-clause-value
returns-clause-value g c = λ text is.
    let code = g.Ck.Checksum.code in
    let u = c.args.unchecked.now in
    let error = c.in-InvalidResidue.error in
    let window : ℕ = length c.data_part_ascii-window.result.now in
    let invalid : IsInvalidBy code u (InvalidResidue error) = rw c.in-InvalidResidue.is at (rw c.in-Err.is at c.validate_checksum.ensures) in
    let corrects = corrector_of code text _ _ (error_residue_of error) window c.new-corrector.result (refused_for code text u error is invalid) (ap length c.data_part_ascii-window.ensures.value)
    (of_residue c.residue.result (error_residue_of error) window c.new-corrector.result c.new-corrector.ensures c.residue.ensures) in
    c.in_ok-listing_by.ensures.value text corrects
