use Rattle.std.proofs.Common.{◌∙◌, ◌<◌, ◌*◌, ◌^◌, ◌++◌, [], ◌∷◌, ℕ, List, map, ap, sym, subst, append-nil}
use Rattle.std.proofs.lemmas.List.{map-append}
use Rattle.std.proofs.lemmas.Result.{err_from_is_err_and}
use Rattle.bech32_gf.specs.declared.gf32.Fe32.{Fe32}
use Rattle.bech32_gf.specs.Fe32.{element, one}
use Rattle.bech32_poly.specs.Polynomial.{appended}
use Rattle.bech32_checksum.specs.Code.{IsResidueOf}
use Rattle.bech32_checksum.proofs.ResidueRuns.{residue_then}
use Rattle.bech32_calls.proofs.Runs.{other_among}
use Rattle.bech32_calls.proofs.engine.remainder_of_values.Goals as goal

pub returns-in_err-input_each : goal.returns-in_err-input_each
returns-in_err-input_each g c =
    let p = err_from_is_err_and c.from_residual-in_err-input_each.result c.from_residual-in_err-input_each.ensures.1 in
    let (_, taken, parts, held) = c.in_ok-left.ensures in
    let left = c.in_ok-left.left.now in
    let fault = c.in_err-input_each.ensures in
    rw p.1 (rw p.2 (
      other_among c.args.values.now taken left []
          (parts ∙ ap (λ (l : List ℕ). taken ++ l) (sym (append-nil left))) fault.0,
      fault.1,
    ))

pub returns : goal.returns
returns g c =
    let number = g.Ck.MidstateRepr.PackedFe32.number in
    let code = g.Ck.Checksum.code in
    let laws = g.met.Ck.Checksum in
    let (elements, taken, parts, held) = c.in_ok-left.ensures in
    let left = c.in_ok-left.left.now in
    let (others, more) = c.in_ok-input_each.ensures in
    let engine = c.input_each.new.engine in
    let all = ap (map element) parts ∙ map-append element taken left in
    rw c.residue.ensures.value (record {
      elements = elements others;
      residue_is = subst (λ (l : List Fe32). IsResidueOf number code engine (appended (one ∷ []) l)) (sym all)
          (residue_then number code _ _ _ (map element taken) (map element left) held more (one ∷ []) c.new-engine.ensures);
      fits = subst (λ (n : ℕ). number engine < 2 ^ (5 * n)) (sym laws.degree_law)
          (subst (λ r. number r < 2 ^ (5 * g.Ck.Checksum.CHECKSUM_LENGTH)) c.residue.ensures.value c.residue.ensures.clear);
    })
