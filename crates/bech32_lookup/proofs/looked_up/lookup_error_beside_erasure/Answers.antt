use Rattle.std.proofs.Common.{◌≡◌, ◌<◌, ◌∙◌, ℕ, List, [], ◌∷◌, length, sym, subst, ap, arith}
use Rattle.bech32_gf.specs.declared.gf32.Fe32.{Fe32}
use Rattle.bech32_checksum.specs.Code.{Code}
use Rattle.bech32_checksum.proofs.Digits.{length-tabulate}
use Rattle.bech32_bch.proofs.Candidates.{apart_inside}
use Rattle.bech32_lookup.specs.Question.{IsOnlyListing}
use Rattle.bech32_lookup.proofs.Beside.{alone_listed, beside_listed, none_beside, one_erasure}
use Rattle.bech32_lookup.proofs.Lawful.{only_lawful}
use Rattle.bech32_lookup.proofs.Trimmed.{left_of}
use Rattle.bech32_lookup.proofs.looked_up.lookup_error_beside_erasure.Goals as goal

pub returns-in-Some-alone_at : goal.returns-in-Some-alone_at
returns-in-Some-alone_at g c =
    let code = g.Ck.Checksum.code in
    let residue = c.args.residue.now in
    let erasure : ℕ = c.args.erasure in
    let value : Fe32 = c.in-Some-alone_at.value in
    let apart = apart_inside g.Ck.CorrectionField.Extension.embed g.Ck.CorrectionField.Extension.retract g.met.Ck.CorrectionField.Extension.retract_law in
    let size : length code.target ≡ length code.generator =
    ap (λ (k : Code). length k.target) g.met.Ck.Checksum.code_law ∙ length-tabulate g.Ck.Checksum.CHECKSUM_LENGTH _ ∙ sym g.met.Ck.Checksum.degree_law in
    let inside = one_erasure c.args.erasure c.args.window (omega (arith, c.if-erasure-window.false)) in
    let leaves = left_of code.generator c.in-Some.list.now residue ((erasure, value) ∷ []) (rw c.in-Some.is at c.trimmed.ensures) (rw c.in-Some-alone_at.is at c.alone_at.ensures) in (
      inside,
      subst (λ (l : List (ℕ × Fe32)). IsOnlyListing code g.Ck.Checksum.bound (record { residue = residue; window = c.args.window; erasures = erasure ∷ [] }) l) (sym c.of_one.ensures)
          (only_lawful g.met.Ck.CorrectionField.Arithmetic.laws g.met.Ck.CorrectionField.LocatorField.embeds_law apart code
          g.Ck.Checksum.ROOT_GENERATOR g.Ck.Checksum.ROOT_EXPONENTS_START g.Ck.Checksum.ROOT_EXPONENTS_END g.Ck.Checksum.bound g.Ck.Checksum.CODE_LENGTH c.args.window
          g.met.Ck.Checksum.bound_law g.met.Ck.Checksum.code_length_law size (g.met.Ck.Checksum.lawful_law.0 c.requires.lawful.0 c.requires.lawful.1) c.requires.within residue (erasure ∷ []) ((erasure, value) ∷ [])
          inside (alone_listed c.args.window g.Ck.Checksum.bound erasure value c.requires.bound) leaves),
    )

pub returns-in-Absent : goal.returns-in-Absent
returns-in-Absent g c =
    let generator = g.Ck.Checksum.code.generator in
    let residue = c.args.residue.now in
    let list = c.in-Some.list.now in
    let erasure : ℕ = c.args.erasure in
    let within : c.args.erasure < c.args.window = omega (arith, c.if-erasure-window.false) in (
      one_erasure c.args.erasure c.args.window within,
      none_beside generator residue c.args.window g.Ck.Checksum.bound erasure c.requires.bound within
          (λ v i u below h. (rw c.in-Absent.is at c.error_beside.ensures) v i u below (left_of generator residue list ((erasure, v) ∷ (i, u) ∷ []) (λ n. sym ((rw c.in-Some.is at c.trimmed.ensures) n)) h)),
    )

pub returns-in-Found : goal.returns-in-Found
returns-in-Found g c =
    let code = g.Ck.Checksum.code in
    let residue = c.args.residue.now in
    let erasure : ℕ = c.args.erasure in
    let value : Fe32 = c.in-Found.value in
    let error : ℕ × Fe32 = c.in-Found.error in
    let found = rw c.in-Found.is at c.error_beside.ensures in
    let apart = apart_inside g.Ck.CorrectionField.Extension.embed g.Ck.CorrectionField.Extension.retract g.met.Ck.CorrectionField.Extension.retract_law in
    let size : length code.target ≡ length code.generator =
    ap (λ (k : Code). length k.target) g.met.Ck.Checksum.code_law ∙ length-tabulate g.Ck.Checksum.CHECKSUM_LENGTH _ ∙ sym g.met.Ck.Checksum.degree_law in
    let inside = one_erasure c.args.erasure c.args.window (omega (arith, c.if-erasure-window.false)) in (
      inside,
      only_lawful g.met.Ck.CorrectionField.Arithmetic.laws g.met.Ck.CorrectionField.LocatorField.embeds_law apart code
          g.Ck.Checksum.ROOT_GENERATOR g.Ck.Checksum.ROOT_EXPONENTS_START g.Ck.Checksum.ROOT_EXPONENTS_END g.Ck.Checksum.bound g.Ck.Checksum.CODE_LENGTH c.args.window
          g.met.Ck.Checksum.bound_law g.met.Ck.Checksum.code_length_law size (g.met.Ck.Checksum.lawful_law.0 c.requires.lawful.0 c.requires.lawful.1) c.requires.within residue (erasure ∷ []) ((erasure, value) ∷ error ∷ [])
          inside (beside_listed c.args.window g.Ck.Checksum.bound erasure value error c.requires.bound found.0 found.1.0 found.1.1.0)
          (left_of code.generator c.in-Some.list.now residue ((erasure, value) ∷ error ∷ []) (rw c.in-Some.is at c.trimmed.ensures) found.1.1.1),
    )
