use Rattle.std.proofs.Common.{◌≡◌, ◌∙◌, [], ◌∷◌, length, sym, subst, ap, arith}
use Rattle.bech32_checksum.specs.Code.{Code}
use Rattle.bech32_checksum.specs.OneError.{IsOnlyError, IsSingle}
use Rattle.bech32_checksum.proofs.Digits.{length-tabulate}
use Rattle.bech32_bch.proofs.Candidates.{apart_inside}
use Rattle.bech32_lookup.proofs.Lawful.{only_lawful}
use Rattle.bech32_lookup.proofs.OneError.{no_pattern, none_before, none_below}
use Rattle.bech32_lookup.proofs.Only.{no_erasures, one_listed}
use Rattle.bech32_lookup.proofs.looked_up.lookup_single_error.Goals as goal

pub returns-in-Absent : goal.returns-in-Absent
returns-in-Absent g c =
    no_pattern g.Ck.Checksum.code.generator c.args.residue.now c.args.window g.Ck.Checksum.bound (omega (arith, c.requires.bound)) c.requires.not_zero
    (none_below g.Ck.Checksum.code.generator c.args.residue.now g.Ck.Checksum.CODE_LENGTH c.args.window c.looked_up_error.result c.requires.within c.looked_up_error.ensures c.in-Absent.is)

pub returns-then-error-window : goal.returns-then-error-window
returns-then-error-window g c =
    let code = g.Ck.Checksum.code in
    let error : IsOnlyError g.Ck.Checksum.code.generator g.Ck.Checksum.CODE_LENGTH c.args.residue.now c.in-Found.error =
    subst (IsSingle g.Ck.Checksum.code.generator g.Ck.Checksum.CODE_LENGTH c.args.residue.now) c.in-Found.is c.looked_up_error.ensures in
    let apart = apart_inside g.Ck.CorrectionField.Extension.embed g.Ck.CorrectionField.Extension.retract g.met.Ck.CorrectionField.Extension.retract_law in
    let size : length code.target ≡ length code.generator =
    ap (λ (k : Code). length k.target) g.met.Ck.Checksum.code_law ∙ length-tabulate g.Ck.Checksum.CHECKSUM_LENGTH _ ∙ sym g.met.Ck.Checksum.degree_law in
    only_lawful g.met.Ck.CorrectionField.Arithmetic.laws g.met.Ck.CorrectionField.LocatorField.embeds_law apart code
    g.Ck.Checksum.ROOT_GENERATOR g.Ck.Checksum.ROOT_EXPONENTS_START g.Ck.Checksum.ROOT_EXPONENTS_END g.Ck.Checksum.bound g.Ck.Checksum.CODE_LENGTH c.args.window
    g.met.Ck.Checksum.bound_law g.met.Ck.Checksum.code_length_law size (g.met.Ck.Checksum.lawful_law.0 c.requires.lawful.0 c.requires.lawful.1) c.requires.within c.args.residue.now [] (c.in-Found.error ∷ [])
    (no_erasures c.args.window) (one_listed c.args.window g.Ck.Checksum.bound c.in-Found.error (omega (arith, c.requires.bound)) (omega (arith, c.if-error-window.true)) error.not_zero) error.leaves

pub returns-else-error-window : goal.returns-else-error-window
returns-else-error-window g c =
    let error : IsOnlyError g.Ck.Checksum.code.generator g.Ck.Checksum.CODE_LENGTH c.args.residue.now c.in-Found.error =
    subst (IsSingle g.Ck.Checksum.code.generator g.Ck.Checksum.CODE_LENGTH c.args.residue.now) c.in-Found.is c.looked_up_error.ensures in
    no_pattern g.Ck.Checksum.code.generator c.args.residue.now c.args.window g.Ck.Checksum.bound (omega (arith, c.requires.bound)) c.requires.not_zero
    (none_before g.Ck.Checksum.code.generator c.args.residue.now g.Ck.Checksum.CODE_LENGTH c.args.window c.in-Found.error c.requires.within error (omega (arith, c.if-error-window.false)))
