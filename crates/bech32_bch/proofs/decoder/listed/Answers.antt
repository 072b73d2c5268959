use Rattle.std.proofs.Common.{◌≡◌, ◌++◌, ℕ, length, map, drop, IfOk, IfSome, subst, ap, ◌∙◌, arith}
use Rattle.std.specs.Prelude.{◌≢◌, MatchOption, true, false}
use Rattle.std.specs.List.{AllByRecursion}
use Rattle.std.proofs.lemmas.List.{length-append}
use Rattle.bech32_poly.specs.Distinct.{IsAmong}
use Rattle.bech32_bch.specs.Pattern.{locations}
use Rattle.bech32_bch.specs.Search.{AreExplained}
use Rattle.bech32_bch.proofs.decoder.listed.Goals as goal

refused : {P : Type 0} → false ≡ true → P
refused h = absurd (cc h)

pub values-requires : goal.values-requires
values-requires g c =
    let joined = ap (λ u. length u) c.as_slice-3.ensures ∙ ap (λ u. length u) c.in_ok-wrong.ensures.joined ∙ length-append c.as_slice.result.now c.as_slice-2.result.now in
    omega (arith, c.requires, joined, ap (λ u. length u) c.as_slice.ensures, ap (λ u. length u) c.as_slice-2.ensures)

pub returns-in_err-wrong-clause-in_place : goal.returns-in_err-wrong-clause-in_place
returns-in_err-wrong-clause-in_place g c = λ fits.
    refused (c.in_err-wrong.ensures.in_place (omega (arith, fits, c.requires, ap (λ u. length u) c.as_slice.ensures, ap (λ u. length u) c.as_slice-2.ensures)))

pub returns-clause-placed : goal.returns-clause-placed
returns-clause-placed g c =
    let s = c.args.erasures.now in
    let found = c.args.found.now in
    let wrong : c.as_slice-3.result.now ≡ s ++ found = c.as_slice-3.ensures ∙ c.in_ok-wrong.ensures.joined ∙ ap (λ u. u ++ c.as_slice-2.result.now) c.as_slice.ensures ∙ ap (λ u. s ++ u) c.as_slice-2.ensures in
    subst (λ u. IfOk c.values.result (λ answer. IfSome answer (λ listing. locations listing ≡ u))) wrong c.values.ensures.placed

pub returns-clause-not_zero : goal.returns-clause-not_zero
returns-clause-not_zero g c =
    subst (λ n. IfOk c.values.result (λ answer. IfSome answer (λ listing. AllByRecursion (λ p. p.1 ≢ g.E.Extension.base_ops.zero) (drop n listing)))) c.len.ensures c.values.ensures.not_zero

pub returns-clause-found : goal.returns-clause-found
returns-clause-found g c =
    let s = c.args.erasures.now in
    let found = c.args.found.now in
    let wrong : c.as_slice-3.result.now ≡ s ++ found = c.as_slice-3.ensures ∙ c.in_ok-wrong.ensures.joined ∙ ap (λ u. u ++ c.as_slice-2.result.now) c.as_slice.ensures ∙ ap (λ u. s ++ u) c.as_slice-2.ensures in
    subst (λ u. IfOk c.values.result (λ answer. (v : ℕ → g.row.E-Base.Denot) → AreExplained g.E.Arithmetic.ops g.E.Extension.embed c.args.roots.base c.args.roots.start c.args.list.now u v
    → ((i : ℕ) → IsAmong i (drop (length s) u) → v i ≢ g.E.Extension.base_ops.zero) → MatchOption answer ⊥ (λ listing. listing ≡ map (λ i. (i, v i)) u))) wrong
    (subst (λ n. IfOk c.values.result (λ answer. (v : ℕ → g.row.E-Base.Denot) → AreExplained g.E.Arithmetic.ops g.E.Extension.embed c.args.roots.base c.args.roots.start c.args.list.now c.as_slice-3.result.now v
    → ((i : ℕ) → IsAmong i (drop n c.as_slice-3.result.now) → v i ≢ g.E.Extension.base_ops.zero) → MatchOption answer ⊥ (λ listing. listing ≡ map (λ i. (i, v i)) c.as_slice-3.result.now))) c.len.ensures c.values.ensures.found)

pub returns-clause-in_place : goal.returns-clause-in_place
returns-clause-in_place g c = c.values.ensures.in_place
