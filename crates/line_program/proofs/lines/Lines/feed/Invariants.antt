use Rattle.std.proofs.Common.{◌≡◌, ◌++◌, ℕ, List, false, take, length}
use Rattle.std.specs.Io.KnownBytes.{Appends}
use Rattle.line_program.specs.Limit.{kept_of_line}
use Rattle.line_program.specs.Lines.{ended_from, rest_from}
use Rattle.line_program.specs.Output.{IsOutput}
use Rattle.line_program.proofs.lines.Lines.feed.Given as goal

abbrev pub invariant-lines : goal.invariant-lines
invariant-lines g l = record {
  unmarked : g.K.ByteSink.has_failed l.sink ≡ false;
  unflushed : g.K.ByteSink.flushes l.sink ≡ g.K.ByteSink.flushes l.initial.sink;
  same : g.K.ByteSink.is_same l.initial.sink l.sink;
  answered : (gone : List ℕ) × (l.bytes ≡ gone ++ l.rest) × ((before : List ℕ) → l.initial.self.line.items ≡ take (kept_of_line g.P.Replies.LINE_LIMIT) before
      → (l.self.line.items ≡ take (kept_of_line g.P.Replies.LINE_LIMIT) (rest_from before gone))
      × (written : List ℕ) × Appends (g.K.ByteSink.contents l.initial.sink) (g.K.ByteSink.contents l.sink) written
      × IsOutput g.P.Replies.is_reply (ended_from before gone) (written ++ l.self.out.items));
}

abbrev pub decreases-lines : goal.decreases-lines
decreases-lines g l = length l.rest
