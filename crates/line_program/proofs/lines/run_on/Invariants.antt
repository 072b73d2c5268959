use Rattle.std.proofs.Common.{◌≡◌, ℕ, List, [], false, take}
use Rattle.std.specs.Io.KnownBytes.{Appends, Consumes}
use Rattle.line_program.specs.Limit.{kept_of_line}
use Rattle.line_program.specs.Lines.{ended_lines, rest_from}
use Rattle.line_program.specs.Output.{IsOutput}
use Rattle.line_program.proofs.lines.run_on.Given as goal

abbrev pub invariant-reads : goal.invariant-reads
invariant-reads g l = record {
  source_unmarked : g.S.ByteSource.has_failed l.source ≡ false;
  sink_unmarked : g.K.ByteSink.has_failed l.sink ≡ false;
  source_same : g.S.ByteSource.is_same l.initial.source l.source;
  sink_same : g.K.ByteSink.is_same l.initial.sink l.sink;
  none_left : l.lines.out.items ≡ [];
  unflushed : g.K.ByteSink.flushes l.sink ≡ g.K.ByteSink.flushes l.initial.sink;
  answered : (read : List ℕ) × Consumes (g.S.ByteSource.remaining l.initial.source) (g.S.ByteSource.remaining l.source) read
      × (l.lines.line.items ≡ take (kept_of_line g.P.Replies.LINE_LIMIT) (rest_from [] read))
      × (written : List ℕ) × Appends (g.K.ByteSink.contents l.initial.sink) (g.K.ByteSink.contents l.sink) written
      × IsOutput g.P.Replies.is_reply (ended_lines read) written;
}

abbrev pub decreases-reads : goal.decreases-reads
decreases-reads g l = g.S.ByteSource.reads_left l.source
