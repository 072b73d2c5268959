use Rattle.std.proofs.Common.{◌≡◌, ◌++◌, List, ℕ, length, false}
use Rattle.std.specs.Fmt.{WritesInCalls}
use Rattle.io_traits.proofs.pieces.pieces_into_fmt.Given as goal

abbrev pub invariant-pieces : goal.invariant-pieces
invariant-pieces g l = record {
  unmarked : g.S.FmtSink.has_failed l.sink ≡ false;
  written : (gone : List ℕ) × (g.P.Pieces.to_come l.initial.pieces ≡ gone ++ g.P.Pieces.to_come l.pieces)
      × WritesInCalls g.S.FmtSink.takes l.initial.sink gone l.sink;
  same : g.S.FmtSink.is_same l.initial.sink l.sink;
}

abbrev pub decreases-pieces : goal.decreases-pieces
decreases-pieces g l = length (g.P.Pieces.to_come l.pieces)
