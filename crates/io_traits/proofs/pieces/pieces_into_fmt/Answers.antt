use Rattle.std.proofs.Common.{rules, ◌++◌, ◌∙◌, List, ℕ, ap, sym}
use Rattle.std.proofs.Output.{writes_in_calls_single, writes_in_calls_append}
use Rattle.std.proofs.lemmas.Str.{IsUtf8-from_ascii}
use Rattle.io_traits.proofs.Gone.{gone_more}
use Rattle.io_traits.proofs.pieces.pieces_into_fmt.Goals as goal

pub from_utf8_unchecked-piece-requires : goal.from_utf8_unchecked-piece-requires
from_utf8_unchecked-piece-requires g c = IsUtf8-from_ascii _ c.put_next-count.ensures.ascii

pub pieces-preserved : goal.pieces-preserved
pieces-preserved g c =
    let takes = g.S.FmtSink.takes in
    let piece = c.from_utf8_unchecked-piece.result.now in
    let rest = g.P.Pieces.to_come c.put_next-count.new.self in
    let (gone, split, went) = c.pieces.invariant.written in
    let took : takes c.pieces.sink piece c.write_str.new.self = search rules in
    let next = c.put_next-count.ensures.piece ∙ ap (λ (l : List ℕ). l ++ rest) (sym c.from_utf8_unchecked-piece.ensures) in
    record {
      unmarked = search rules;
      written = (
        gone ++ piece,
        gone_more _ gone _ piece rest split next,
        writes_in_calls_append takes _ gone _ piece _ went (writes_in_calls_single takes _ piece _ took),
      );
      same = g.met.S.FmtSink.transitive _ _ _ c.pieces.invariant.same c.write_str.ensures.same;
    }
