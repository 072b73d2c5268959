use Rattle.std.proofs.Common.{rules, ◌∙◌}
use Rattle.std.proofs.lemmas.List.{take_rest}
use Rattle.io_traits.proofs.Known.{Appends-more}
use Rattle.io_traits.proofs.write_all.Goals as goal

pub loop-at-preserved : goal.loop-at-preserved
loop-at-preserved g c = record {
  within = search rules;
  unmarked = search rules;
  written = let h = rw take_rest at c.in_ok-n.ensures.bytes in Appends-more _ _ _ _ _ _ c.loop-at.invariant.written h;
  uncounted = c.write.ensures.uncounted ∙ c.loop-at.invariant.uncounted;
  same = g.met.K.ByteSink.transitive _ _ _ c.loop-at.invariant.same c.write.ensures.same;
}
