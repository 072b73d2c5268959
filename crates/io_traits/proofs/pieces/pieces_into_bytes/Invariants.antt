use Rattle.std.proofs.Common.{◌≡◌, ◌++◌, List, ℕ, length, false}
use Rattle.std.specs.Io.KnownBytes.{Appends}
use Rattle.io_traits.proofs.pieces.pieces_into_bytes.Given as goal

abbrev pub invariant-pieces : goal.invariant-pieces
invariant-pieces g l = record {
  unmarked : g.K.ByteSink.has_failed l.sink ≡ false;
  written : (gone : List ℕ) × (g.P.Pieces.to_come l.initial.pieces ≡ gone ++ g.P.Pieces.to_come l.pieces)
      × Appends (g.K.ByteSink.contents l.initial.sink) (g.K.ByteSink.contents l.sink) gone;
  uncounted : g.K.ByteSink.flushes l.sink ≡ g.K.ByteSink.flushes l.initial.sink;
  same : g.K.ByteSink.is_same l.initial.sink l.sink;
}

abbrev pub decreases-pieces : goal.decreases-pieces
decreases-pieces g l = length (g.P.Pieces.to_come l.pieces)
