use Rattle.std.proofs.Common.{◌≡◌, ◌∙◌, length, ap, sym, subst}
use Rattle.std.proofs.lemmas.Result.{err_from_is_err_and}
use Rattle.bech32_bch.proofs.Located.{length-locators}
use Rattle.bech32_lookup.specs.Question.{Question}
use Rattle.bech32_poly.specs.FieldVec.{FitsInPlace}
use Rattle.bech32_correction.proofs.corrector.CorrectorClone.clone.Goals as goal

-- there is a locator for each erasure
pub returns-in_err-clone-2 : goal.returns-in_err-clone-2
returns-in_err-clone-2 g c =
    let p = err_from_is_err_and c.from_residual-in_err-clone-2.result c.from_residual-in_err-clone-2.ensures.1 in
    let same : length c.self.inside.known ≡ length c.args.self.now.erasures =
    ap length c.self.invariant.2 ∙ length-locators _ _ _ ∙ ap (λ (v : Question). length v.erasures) c.self.view_is in
    record { cases = rw p.1 (λ fits. c.in_err-clone-2.ensures.cases (subst FitsInPlace (sym same) fits)) }
