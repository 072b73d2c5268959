use Rattle.std.proofs.Common.{rules, ◌≡◌, ◌<◌, ◌≤◌, ℕ, true, false, List, length, map, take, sym, ap, ◌∙◌, arith}
use Rattle.std.proofs.lemmas.List.{take_all, length-map, length-take-le}
use Rattle.bech32_gf.specs.Field.{Ops, IsField}
use Rattle.bech32_gf.specs.laws.FieldLaws.{power-zero}
use Rattle.bech32_poly.proofs.RootTerms.{terms_from, terms_next, factors_next, power_next, search_of, length-terms_from, length-factors_from}
use Rattle.bech32_poly.proofs.polynomial.roots.RootIter.new.Goals as goal

refused : {P : Type 0} → false ≡ true → P
refused h = absurd (cc h)

-- how many terms there are after i coefficients
size_of : {B K : Type 0} {o : Ops K} (l : IsField o) (embed : B → K) (x : K) (xs : List B) (ts : List K) (i : ℕ) → i ≤ length xs → ts ≡ terms_from o x 0 (map embed (take i xs)) → length ts ≡ i
size_of l embed x xs ts i within is =
    ap (λ u. length u) is ∙ length-terms_from l x 0 (map embed (take i xs)) ∙ length-map (take i xs) embed ∙ length-take-le i xs within

pub loop-coefficient-init : goal.loop-coefficient-init
loop-coefficient-init g c = record {
  terms_are = c.new-terms.ensures;
  factors_are = c.new-factors.ensures;
  power_is = c.one-power.ensures ∙ sym (power-zero g.met.E.Arithmetic.laws _);
  factor_is = c.one-factor.ensures ∙ sym (power-zero g.met.E.Arithmetic.laws _);
}

pub loop-coefficient-preserved : goal.loop-coefficient-preserved
loop-coefficient-preserved g c =
    let l = g.met.E.Arithmetic.laws in
    let i : ℕ = c.loop-coefficient.coefficient-index in
    let within : i < length c.as_slice-coefficient-items.result.now = omega arith in
    record {
      terms_are = terms_next l g.E.Extension.embed c.as_slice-coefficient-items.result.now i c.coefficient-item.result c.power-first.result c.loop-coefficient.power c.times.result c.lift.result c.loop-coefficient.terms c.push.new.self within
          c.loop-coefficient.invariant.terms_are c.loop-coefficient.invariant.power_is c.coefficient-item.is c.lift.ensures c.times.ensures c.in_ok-push.ensures.ok;
      factors_are = factors_next l c.args.base c.loop-coefficient.factor i c.loop-coefficient.factors c.push-in-loop-coefficient.new.self
          c.loop-coefficient.invariant.factors_are c.loop-coefficient.invariant.factor_is c.in_ok-push-2.ensures.ok;
      power_is = power_next l c.power-first.result c.loop-coefficient.power c.times-power.result i c.loop-coefficient.invariant.power_is c.times-power.ensures;
      factor_is = power_next l c.args.base c.loop-coefficient.factor c.times-factor.result i c.loop-coefficient.invariant.factor_is c.times-factor.ensures;
    }

pub returns-in_err-push-clause-in_place : goal.returns-in_err-push-clause-in_place
returns-in_err-push-clause-in_place g c = λ fits.
    let items : length c.as_slice-coefficient-items.result.now ≡ length c.args.polynomial.now = ap (λ u. length u) c.as_slice-coefficient-items.ensures in
    let size : length c.loop-coefficient.terms ≡ c.loop-coefficient.coefficient-index =
    size_of g.met.E.Arithmetic.laws g.E.Extension.embed c.power-first.result c.as_slice-coefficient-items.result.now c.loop-coefficient.terms c.loop-coefficient.coefficient-index (omega arith) c.loop-coefficient.invariant.terms_are in
    refused (c.in_err-push.ensures.in_place (omega (arith, size, items, fits)))

pub returns-in_err-push-2-clause-in_place : goal.returns-in_err-push-2-clause-in_place
returns-in_err-push-2-clause-in_place g c = λ fits.
    let items : length c.as_slice-coefficient-items.result.now ≡ length c.args.polynomial.now = ap (λ u. length u) c.as_slice-coefficient-items.ensures in
    let size : length c.loop-coefficient.factors ≡ c.loop-coefficient.coefficient-index =
    ap (λ u. length u) c.loop-coefficient.invariant.factors_are ∙ length-factors_from g.met.E.Arithmetic.laws c.args.base 0 c.loop-coefficient.coefficient-index in
    refused (c.in_err-push-2.ensures.in_place (omega (arith, size, items, fits)))

pub invariant_of-search : goal.invariant_of-search
invariant_of-search g c =
    ap (λ u. length u) c.loop-coefficient.invariant.factors_are ∙ length-factors_from g.met.E.Arithmetic.laws c.args.base 0 c.loop-coefficient.coefficient-index
    ∙ sym (size_of g.met.E.Arithmetic.laws g.E.Extension.embed c.power-first.result c.as_slice-coefficient-items.result.now c.loop-coefficient.terms c.loop-coefficient.coefficient-index (omega arith) c.loop-coefficient.invariant.terms_are)

pub returns-clause-roots : goal.returns-clause-roots
returns-clause-roots g c =
    let embed = g.E.Extension.embed in
    let i : ℕ = c.loop-coefficient.coefficient-index in
    let all : length c.as_slice-coefficient-items.result.now ≤ i = search rules in
    let size : i ≡ length (map embed c.args.polynomial.now) = omega (arith, ap (λ u. length u) c.as_slice-coefficient-items.ensures, length-map c.args.polynomial.now embed) in
    search_of g.met.E.Arithmetic.laws g.E.Arithmetic.same (map embed (take i c.as_slice-coefficient-items.result.now)) (map embed c.args.polynomial.now) c.args.base c.power-first.result c.args.start c.args.end i
    c.loop-coefficient.terms c.loop-coefficient.factors c.loop-coefficient.invariant.terms_are c.loop-coefficient.invariant.factors_are c.power-first.ensures
    (ap (map embed) (take_all i c.as_slice-coefficient-items.result.now all ∙ c.as_slice-coefficient-items.ensures)) size
