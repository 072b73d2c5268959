use Rattle.std.proofs.Common.{◌≡◌, ◌<◌, ◌-◌, length, get_or, ap, refl, ◌∙◌, arith}
use Rattle.std.proofs.lemmas.List.{length-set}
use Rattle.bech32_bch.proofs.Loops.{knock_left, knock_next}
use Rattle.bech32_bch.proofs.terms.knock_out.Goals as goal

pub loop-i-preserved : goal.loop-i-preserved
loop-i-preserved g c =
    let o = g.K.Arithmetic.ops in
    let i = c.loop-i.i in
    let first = c.args.items.now in
    let items = c.loop-i.items in
    let here = c.index-as_slice-i.result in
    let next = c.index-as_slice-i-in-loop-i.result in
    let at_here : here ≡ get_or items (i - 1) here = c.index-as_slice-i.is ∙ ap (λ u. get_or u (i - 1) here) c.as_slice.ensures in
    let at_next : next ≡ get_or items i next = c.index-as_slice-i-in-loop-i.is ∙ ap (λ u. get_or u i next) c.as_slice-in-loop-i.ensures in
    let made : c.plus.result ≡ o.add next (o.neg (o.mul c.args.y here)) = c.plus.ensures ∙ ap (o.add next) (c.negated.ensures ∙ ap o.neg c.times.ensures) in
    let within : i < length first = omega (arith, c.loop-i.invariant.size) in
    record {
      size = ap (λ u. length u) c.set.ensures ∙ length-set items (i - 1) c.plus.result ∙ c.loop-i.invariant.size;
      done = knock_next o c.args.y here next c.plus.result first items c.set.new.self i (omega arith) within c.loop-i.invariant.size c.loop-i.invariant.done c.loop-i.invariant.left at_here at_next made c.set.ensures;
      left = knock_left o c.plus.result first items c.set.new.self i (omega arith) c.loop-i.invariant.left c.set.ensures;
    }

pub loop-i-init : goal.loop-i-init
loop-i-init g c = record { size = refl; done = λ t low. absurd (omega (arith, low)); left = λ t high. refl }

pub returns-clause-size : goal.returns-clause-size
returns-clause-size g c = c.loop-i.invariant.size

pub returns-clause-knocked : goal.returns-clause-knocked
returns-clause-knocked g c = λ t low. c.loop-i.invariant.done t (omega (arith, low))
