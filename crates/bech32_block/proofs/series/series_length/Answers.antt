use Rattle.std.specs.Prelude.{true, false}
use Rattle.std.specs.List.{Contains}
use Rattle.std.proofs.Common.{◌≡◌, ◌≢◌, ◌+◌, ◌%◌, ℕ, refl, sym, subst, ◌∙◌, arith, rules, eqb}
use Rattle.std.specs.Bool.{Decides}
use Rattle.std.proofs.lemmas.Bool.Decides.{Decides-eqb}
use Rattle.std.proofs.lemmas.List.Elements.{contains_decides, Decides-contains}
use Rattle.bech32_block.specs.Series.{IsSeries, series_term}
use Rattle.bech32_block.proofs.Walks.{walk_start, walk_more, next_is, series_of, stops_back, stops_out, stops_end}
use Rattle.bech32_block.proofs.series.series_length.Goals as goal
use Rattle.bech32_block.proofs.series.series_length.Goals.{then-at-first-via-then-at-first, then-at-first-via-else-at-first+then-not-contains}

pub loop-length-init : goal.loop-length-init
loop-length-init c = walk_start c.args.order c.args.roots.now c.args.first c.args.step c.requires.first_below c.requires.first_root

pub returns-then-at-first-clause-series : goal.returns-then-at-first-clause-series
returns-then-at-first-clause-series c = series_of c.args.order c.args.roots.now c.args.first c.args.step c.loop-length.length c.loop-length.at c.loop-length.invariant c.requires.first_below c.requires.step_positive c.requires.step_below

pub returns-then-at-first-clause-longest : goal.returns-then-at-first-clause-longest
returns-then-at-first-clause-longest c len s =
    let next : ℕ = (c.loop-length.at + c.args.step) % c.args.order in
    let is : next ≡ series_term c.args.order c.args.first c.args.step c.loop-length.length = next_is c.args.order c.args.roots.now c.args.first c.args.step c.loop-length.length c.loop-length.at next c.loop-length.invariant (omega arith) refl in
    elim c.then-at-first.branch [
      | then-at-first-via-then-at-first w ↦
          let back : next ≡ c.args.first = search rules in
          stops_back c.args.order c.args.roots.now c.args.first c.args.step c.loop-length.length len c.requires.first_below (omega arith) (sym is ∙ back) s
      | then-at-first-via-else-at-first+then-not-contains w ↦
          let test : Decides w.contains.result (Contains c.args.roots.now next) = Decides-contains c.args.roots.now next w.contains.result (contains_decides eqb Decides-eqb c.args.roots.now next w.contains.result w.contains.ensures.cases) in
          let out : w.contains.result ≡ false = search rules in
          stops_out c.args.order c.args.roots.now c.args.first c.args.step c.loop-length.length len
          (λ h. let k : true ≡ false = sym (test.1 (subst (Contains c.args.roots.now) (sym is) h)) ∙ out in cc) s
    ]

pub loop-length-preserved : goal.loop-length-preserved
loop-length-preserved c =
    let next : ℕ = (c.loop-length.at + c.args.step) % c.args.order in
    let test : Decides c.contains.result (Contains c.args.roots.now next) = Decides-contains c.args.roots.now next c.contains.result (contains_decides eqb Decides-eqb c.args.roots.now next c.contains.result c.contains.ensures.cases) in
    let inside : c.contains.result ≡ true = search rules in
    let differ : next ≢ c.args.first = search rules in
    walk_more c.args.order c.args.roots.now c.args.first c.args.step c.loop-length.length c.loop-length.at next c.loop-length.invariant (omega arith) refl differ (test.0 inside)

pub returns-clause-series : goal.returns-clause-series
returns-clause-series c =
    let all : c.loop-length.length ≡ c.args.order = omega arith in
    subst (IsSeries c.args.order c.args.roots.now c.args.first c.args.step) all
    (series_of c.args.order c.args.roots.now c.args.first c.args.step c.loop-length.length c.loop-length.at c.loop-length.invariant c.requires.first_below c.requires.step_positive c.requires.step_below)

pub returns-clause-longest : goal.returns-clause-longest
returns-clause-longest c len s = stops_end c.args.order c.args.roots.now c.args.first c.args.step c.args.order len (omega arith) (omega arith) s
