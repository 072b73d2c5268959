use Rattle.std.proofs.Common.{◌≡◌, ◌+◌, ◌++◌, ℕ, length, [], ◌∷◌, sym, ap, ◌∙◌, refl, arith}
use Rattle.std.proofs.lemmas.List.{length-append}
use Rattle.bech32_poly.specs.RootSearch.{left_of, total_of}
use Rattle.bech32_poly.proofs.RootTerms.{length-multiplied_each}
use Rattle.bech32_bch.proofs.Searched.{root_met, root_passed, searching, stopped}
use Rattle.bech32_bch.proofs.locations.push_roots.Goals.{then-equals+in_ok-push, else-equals}
use Rattle.bech32_bch.proofs.locations.push_roots.Goals as goal

pub loop-location-init : goal.loop-location-init
loop-location-init g c =
    let o = g.K.Arithmetic.ops in
    let l = g.met.K.Arithmetic.laws in
    let same = g.K.Arithmetic.same in
    record {
      few = omega (arith, ap (λ u. length u) c.requires.empty);
      size = c.requires.size;
      whole = ap (λ u. u ++ left_of o same (searching l same c.args.terms.now c.args.factors.now 0 c.args.window)) c.requires.empty;
    }

pub loop-location-preserved : goal.loop-location-preserved
loop-location-preserved g c =
    let o = g.K.Arithmetic.ops in
    let l = g.met.K.Arithmetic.laws in
    let same = g.K.Arithmetic.same in
    let terms = c.loop-location.terms in
    let factors = c.args.factors.now in
    let roots = left_of o same (searching l same c.args.terms.now factors 0 c.args.window) in
    let location : ℕ = c.loop-location.location in
    let found = c.loop-location.found in
    let summed : c.total.result ≡ total_of o terms = c.total.ensures ∙ ap (total_of o) c.as_slice.ensures in
    elim c.if-equals.branch [
      | then-equals+in_ok-push w ↦
          let pushed : c.if-equals.found ≡ found ++ (location ∷ []) = w.found-is ∙ w.in_ok-push.ensures.ok in
          record {
            few = omega (arith, ap (λ u. length u) pushed, length-append found (location ∷ []), c.len.ensures);
            size = c.loop-location.invariant.size ∙ sym (ap (λ u. length u) c.multiply_each.ensures ∙ length-multiplied_each l terms factors);
            whole = root_met l same terms c.multiply_each.new.self factors location (location + 1) c.args.window found c.if-equals.found roots c.total.result c.zero.result c.equals.result
                w.if-equals.true (omega arith) c.loop-location.invariant.size summed c.zero.ensures c.equals.ensures c.multiply_each.ensures refl pushed c.loop-location.invariant.whole;
          }
      | else-equals w ↦ record {
        few = omega (arith, ap (λ u. length u) w.found-is, c.loop-location.invariant.few);
        size = c.loop-location.invariant.size ∙ sym (ap (λ u. length u) c.multiply_each.ensures ∙ length-multiplied_each l terms factors);
        whole = root_passed l same terms c.multiply_each.new.self factors location (location + 1) c.args.window found c.if-equals.found roots c.total.result c.zero.result c.equals.result
            w.if-equals.false (omega arith) c.loop-location.invariant.size summed c.zero.ensures c.equals.ensures c.multiply_each.ensures refl w.found-is c.loop-location.invariant.whole;
      }
    ]

pub returns-else-len-degree-clause-roots : goal.returns-else-len-degree-clause-roots
returns-else-len-degree-clause-roots g c =
    stopped g.met.K.Arithmetic.laws g.K.Arithmetic.same c.loop-location.terms c.args.factors.now c.loop-location.location c.args.window c.args.degree c.loop-location.found _
    (λ k. absurd (omega (arith, k, c.if-len-degree.false, c.len.ensures))) c.loop-location.invariant.few c.loop-location.invariant.whole

pub returns-after-loop-location-clause-roots : goal.returns-after-loop-location-clause-roots
returns-after-loop-location-clause-roots g c =
    stopped g.met.K.Arithmetic.laws g.K.Arithmetic.same c.loop-location.terms c.args.factors.now c.loop-location.location c.args.window c.args.degree c.loop-location.found _
    (λ k. c.loop-location-test.false) c.loop-location.invariant.few c.loop-location.invariant.whole
