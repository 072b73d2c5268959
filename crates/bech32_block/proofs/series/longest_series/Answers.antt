use Rattle.std.proofs.Common.{◌≡◌, ◌≢◌, ◌<◌, ◌≤◌, ◌+◌, length, get_or, sym, subst, arith, rules}
use Rattle.bech32_block.specs.declared.series.Series.{Series}
use Rattle.bech32_block.proofs.Terms.{step-positive}
use Rattle.bech32_block.proofs.Pairs.{Best, best_start, skip, keep, better, row_done, run_of, places_apart}
use Rattle.bech32_block.proofs.series.longest_series.Goals as goal
use Rattle.bech32_block.proofs.series.longest_series.Goals.{then-i-j+then-length-best, then-i-j+else-length-best, else-i-j}

pub loop-i-init : goal.loop-i-init
loop-i-init c = best_start c.args.order c.args.roots.now c.series_length.result c.requires.rising (λ k l. c.requires.below k 0 l) c.requires.two c.series_length.ensures.series

pub series_length-length-requires-clause-step_positive : goal.series_length-length-requires-clause-step_positive
series_length-length-requires-clause-step_positive c =
    let li : c.loop-i.i < length c.args.roots.now = omega arith in
    let lj : c.loop-j.j < length c.args.roots.now = omega arith in
    let differ : c.loop-i.i ≢ c.loop-j.j = search rules in
    step-positive c.args.order (get_or c.args.roots.now c.loop-i.i 0) (get_or c.args.roots.now c.loop-j.j 0) (c.requires.below c.loop-i.i 0 li) (c.requires.below c.loop-j.j 0 lj)
    (places_apart c.args.roots.now c.requires.rising c.loop-i.i c.loop-j.j differ li lj)

pub loop-j-preserved : goal.loop-j-preserved
loop-j-preserved c =
    let li : c.loop-i.i < length c.args.roots.now = omega arith in
    let lj : c.loop-j.j < length c.args.roots.now = omega arith in
    let P : Series → Type 0 = λ b. Best c.args.order c.args.roots.now c.loop-i.i (c.loop-j.j + 1) b.first b.step b.length in
    elim c.if-i-j.branch [
      | then-i-j+then-length-best w ↦
          let differ : c.loop-i.i ≢ c.loop-j.j = search rules in
          let more : c.loop-j.best.length < w.series_length-length.result = search (rules, arith) in
          subst P (sym w.best-is)
          (better c.args.order c.args.roots.now c.loop-i.i c.loop-j.j c.loop-j.best.first c.loop-j.best.step c.loop-j.best.length w.series_length-length.result c.requires.rising (λ k l. c.requires.below k 0 l)
          c.loop-j.invariant li lj differ more w.series_length-length.ensures.series w.series_length-length.ensures.longest)
      | then-i-j+else-length-best w ↦
          let differ : c.loop-i.i ≢ c.loop-j.j = search rules in
          let less : w.series_length-length.result ≤ c.loop-j.best.length = search (rules, arith) in
          subst P (sym w.best-is)
          (keep c.args.order c.args.roots.now c.loop-i.i c.loop-j.j c.loop-j.best.first c.loop-j.best.step c.loop-j.best.length w.series_length-length.result
          c.loop-j.invariant li lj differ less w.series_length-length.ensures.longest)
      | else-i-j w ↦
          let same : c.loop-i.i ≡ c.loop-j.j = search rules in
          subst P (sym w.best-is) (skip c.args.order c.args.roots.now c.loop-i.i c.loop-j.j c.loop-j.best.first c.loop-j.best.step c.loop-j.best.length c.loop-j.invariant same)
    ]

pub loop-i-preserved : goal.loop-i-preserved
loop-i-preserved c = row_done c.args.order c.args.roots.now c.loop-i.i c.loop-j.j c.loop-j.best.first c.loop-j.best.step c.loop-j.best.length c.loop-j.invariant (search (rules, arith))

pub returns : goal.returns
returns c = run_of c.args.order c.args.roots.now c.loop-i.i 0 c.loop-i.best.first c.loop-i.best.step c.loop-i.best.length c.requires.rising (λ k l. c.requires.below k 0 l) c.requires.two c.loop-i.invariant (search (rules, arith))
