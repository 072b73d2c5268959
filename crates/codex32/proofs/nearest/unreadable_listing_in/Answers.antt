use Rattle.std.proofs.Common.{rules, ◌≡◌, [], length, inl, sym, arith, ◌∙◌}
use Rattle.bech32_checksum.proofs.Target.{length-target}
use Rattle.bech32_correction.proofs.Outcomes.{some_places}
use Rattle.codex32.specs.Lengths.{may_have}
use Rattle.codex32.proofs.Answered.{accepted-from_target, said_of_residue, window_fits}
use Rattle.codex32.proofs.nearest.unreadable_listing_in.Goals as goal

pub residue_error_of-requires : goal.residue_error_of-requires
residue_error_of-requires g c = c.requires.1.data_bytes

pub returns-in_default : goal.returns-in_default
returns-in_default g c =
    let may = may_have g.Ck.StringChecksum.lengths in
    inl (
      c.new.ensures,
      accepted-from_target may c.args.part.now c.args.data_part.now c.requires g.Ck.Checksum.code g.met.Ck.StringChecksum.fits (rw c.in_default.is at c.residue_error_of.ensures),
      omega arith,
    )

pub new-corrector-requires : goal.new-corrector-requires
new-corrector-requires g c =
    let may = may_have g.Ck.StringChecksum.lengths in
    let code = g.Ck.Checksum.code in
    let is = rw c.in-Some.is at c.residue_error_of.ensures in
    let size : length code.target ≡ length code.generator =
    length-target g.Ck.MidstateRepr.PackedFe32.number code _ _ g.Ck.Checksum.GENERATOR_SH g.Ck.Checksum.TARGET_RESIDUE g.met.Ck.Checksum.code_law
    ∙ sym g.met.Ck.Checksum.degree_law in
    let fits = window_fits may c.args.part.now c.args.data_part.now c.requires code g.met.Ck.StringChecksum.fits in (
      search rules,
      (
        (g.met.Ck.CorrectingChecksum.lawful_roots, some_places code is.remainder size is.is_remainder.short is.not_target),
        omega (arith, fits, g.met.Ck.Checksum.code_length_law),
      ),
    )

pub listing-requires : goal.listing-requires
listing-requires g c = search rules

pub returns : goal.returns
returns g c =
    let may = may_have g.Ck.StringChecksum.lengths in
    said_of_residue may c.args.part.now c.args.data_part.now c.requires g.Ck.Checksum.code g.met.Ck.StringChecksum.fits g.Ck.Checksum.bound c.args.given.now c.in-Some.error
    c.put_error_residue.new.residue c.listing.result g.met.Ck.StringChecksum.eight (rw c.in-Some.is at c.residue_error_of.ensures) c.put_error_residue.ensures
    (rw c.new-corrector.ensures at c.listing.ensures.answer)
