use Rattle.std.proofs.Common.{rules, ◌++◌, ◌∙◌, take}
use Rattle.std.specs.Io.KnownBytes.{Appends}
use Rattle.io_traits.proofs.Known.{Appends-then}
use Rattle.io_traits.proofs.Gone.{gone_more, beginning_more, on_err-always}
use Rattle.io_traits.proofs.pieces.pieces_into_bytes.Goals as goal

pub pieces-preserved : goal.pieces-preserved
pieces-preserved g c =
    let piece = take c.put_next-count.result c.put_next-count.new.buffer in
    let (gone, split, went) = c.pieces.invariant.written in
    let held = g.K.ByteSink.contents in
    let took : Appends (held c.pieces.sink) (held c.write_all.new.sink) piece = search rules in
    record {
      unmarked = search rules;
      written = (
        gone ++ piece,
        gone_more _ gone _ piece _ split c.put_next-count.ensures.piece,
        Appends-then _ _ _ gone piece went took,
      );
      uncounted = c.write_all.ensures.uncounted ∙ c.pieces.invariant.uncounted;
      same = g.met.K.ByteSink.transitive _ _ _ c.pieces.invariant.same c.write_all.ensures.same;
    }

pub returns-in_err-write_all-clause-beginning : goal.returns-in_err-write_all-clause-beginning
returns-in_err-write_all-clause-beginning g c =
    let (gone, split, went) = c.pieces.invariant.written in
    on_err-always _ (beginning_more _ _ _ _ gone _ _ _ split c.put_next-count.ensures.piece went c.in_err-write_all.ensures.beginning)
