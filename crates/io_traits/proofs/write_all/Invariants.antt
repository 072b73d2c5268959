use Rattle.std.proofs.Common.{length, ◌-◌, ◌≡◌, ◌≤◌, false, take}
use Rattle.std.specs.Io.KnownBytes.{Appends}
use Rattle.io_traits.proofs.write_all.Given as goal

abbrev pub invariant-loop-at : goal.invariant-loop-at
invariant-loop-at g l = record {
  within : l.at ≤ length l.bytes;
  unmarked : g.K.ByteSink.has_failed l.sink ≡ false;
  written : Appends (g.K.ByteSink.contents l.initial.sink) (g.K.ByteSink.contents l.sink) (take l.at l.bytes);
  uncounted : g.K.ByteSink.flushes l.sink ≡ g.K.ByteSink.flushes l.initial.sink;
  same : g.K.ByteSink.is_same l.initial.sink l.sink;
}

abbrev pub decreases-loop-at : goal.decreases-loop-at
decreases-loop-at g l = length l.bytes - l.at
