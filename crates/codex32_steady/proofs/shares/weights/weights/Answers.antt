use Rattle.std.proofs.Common.{◌<◌, ℕ, length, ap, ◌∙◌, arith}
use Rattle.codex32_steady.proofs.OnePlaceMore.{once_before}
use Rattle.codex32_steady.proofs.Written.{written, length-written, length-multiplied}
use Rattle.codex32_steady.proofs.shares.weights.weights.Goals as goal

pub rescale-requires-clause-apart : goal.rescale-requires-clause-apart
rescale-requires-clause-apart g c =
    let within : c.loop-i.i < length c.args.indices.now = omega arith in
    once_before c.args.indices.now c.loop-i.i c.index-indices-i.result c.requires.once within c.index-indices-i.is

pub loop-i-preserved : goal.loop-i-preserved
loop-i-preserved g c =
    let o = g.F.Arithmetic.ops in
    let xs = c.args.indices.now in
    let i : ℕ = c.loop-i.i in
    let within : i < length xs = omega arith in
    record {
      size = length-written c.rescale.new.weights i c.plus.result ∙ ap (λ u. length u) c.rescale.ensures ∙ length-multiplied o c.loop-i.weights _ ∙ c.loop-i.invariant.size;
      so_far = written g.met.F.Arithmetic.laws c.args.x c.index-indices-i.result xs c.loop-i.weights c.rescale.new.weights i c.plus.result
          c.loop-i.invariant.size within c.requires.once c.index-indices-i.is c.loop-i.invariant.so_far c.rescale.ensures
          (c.plus.ensures ∙ ap (λ u. o.add u c.negated.result) c.one.ensures ∙ ap (o.add o.one) (c.negated.ensures ∙ ap o.neg c.total.ensures));
    }
