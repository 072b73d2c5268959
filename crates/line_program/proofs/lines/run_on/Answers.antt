use Rattle.std.proofs.Common.{rules, ◌∙◌, ◌++◌, take, inl, inr}
use Rattle.std.proofs.lemmas.Result.{on_ok_weaker}
use Rattle.line_program.specs.Lines.{ended_lines}
use Rattle.line_program.proofs.Ended.{kept-more}
use Rattle.line_program.proofs.Known.{Appends-kept, Appends-then, Consumes-kept, Consumes-nothing, Consumes-then}
use Rattle.line_program.proofs.Outputs.{beginning-more, beginning-whole, output-append, output-more}
use Rattle.line_program.proofs.lines.run_on.Goals as goal

pub returns-in_err-flush-clause-write : goal.returns-in_err-flush-clause-write
returns-in_err-flush-clause-write g c =
    let (read, consumed, kept, written, appended, is) = c.reads.invariant.answered in
    λ _. record {
      read = read;
      written = written;
      consumed = Consumes-kept _ _ _ read consumed c.in_default-read.ensures.bytes;
      appended = Appends-kept _ _ _ written appended c.flush.ensures.bytes;
      beginning = inl (beginning-whole g.P.Replies.is_reply _ written is);
    }

pub reads-preserved : goal.reads-preserved
reads-preserved g c =
    let (read, consumed, kept, written, appended, is) = c.reads.invariant.answered in
    let bytes = take c.in-Ok-read.n c.read.new.buf in
    let (kept', out, more, is') = c.in_ok-feed.ensures.ok _ kept in
    record {
      source_unmarked = search rules;
      sink_unmarked = search rules;
      source_same = g.met.S.ByteSource.transitive _ _ _ c.reads.invariant.source_same c.read.ensures.same;
      sink_same = g.met.K.ByteSink.transitive _ _ _ c.reads.invariant.sink_same c.feed.ensures.same;
      none_left = c.in_ok-feed.ensures.none_left;
      unflushed = c.feed.ensures.unflushed ∙ c.reads.invariant.unflushed;
      answered = (
        read ++ bytes,
        Consumes-then _ _ _ read bytes consumed c.in-Ok-read.ensures.bytes.0,
        kept-more g.P.Replies.LINE_LIMIT read bytes _ kept',
        written ++ out,
        Appends-then _ _ _ written out appended more,
        output-more g.P.Replies.is_reply read bytes written out is is',
      );
    }

pub returns-in_err-feed-clause-write : goal.returns-in_err-feed-clause-write
returns-in_err-feed-clause-write g c =
    let (read, consumed, kept, written, appended, is) = c.reads.invariant.answered in
    let bytes = take c.in-Ok-read.n c.read.new.buf in
    let (out, more, cut) = c.in_err-feed.ensures.err _ kept in
    λ _. record {
      read = read ++ bytes;
      written = written ++ out;
      consumed = Consumes-then _ _ _ read bytes consumed c.in-Ok-read.ensures.bytes.0;
      appended = Appends-then _ _ _ written out appended more;
      beginning = inl (beginning-more g.P.Replies.is_reply read bytes written out is cut);
    }

pub returns-in_err-finish-clause-write : goal.returns-in_err-finish-clause-write
returns-in_err-finish-clause-write g c =
    let (read, consumed, kept, written, appended, is) = c.reads.invariant.answered in
    let (out, more, cut) = c.in_err-finish.ensures.err _ kept in
    let none = rw c.if-n-eq0.true at c.in-Ok-read.ensures.bytes.0 in
    λ _. record {
      read = read;
      written = written ++ out;
      consumed = Consumes-nothing _ _ _ read consumed none;
      appended = Appends-then _ _ _ written out appended more;
      beginning = inr (c.in-Ok-read.ensures.bytes.1 c.if-n-eq0.true (search rules), cut (ended_lines read) written is);
    }

pub returns-clause-ok : goal.returns-clause-ok
returns-clause-ok g c =
    let (read, consumed, kept, written, appended, is) = c.reads.invariant.answered in
    let (out, more, is') = c.in_ok-finish.ensures.ok _ kept in
    let none = rw c.if-n-eq0.true at c.in-Ok-read.ensures.bytes.0 in
    on_ok_weaker c.flush-2.result (λ _. record {
      read = read;
      written = written ++ out;
      consumed = Consumes-nothing _ _ _ read consumed none;
      end = c.in-Ok-read.ensures.bytes.1 c.if-n-eq0.true (search rules);
      appended = Appends-kept _ _ _ (written ++ out) (Appends-then _ _ _ written out appended more) c.flush-2.ensures.bytes;
      output = output-append g.P.Replies.is_reply _ _ written out is is';
    }) c.flush-2.ensures.ok_mark

pub returns-clause-write : goal.returns-clause-write
returns-clause-write g c =
    let (read, consumed, kept, written, appended, is) = c.reads.invariant.answered in
    let (out, more, is') = c.in_ok-finish.ensures.ok _ kept in
    let none = rw c.if-n-eq0.true at c.in-Ok-read.ensures.bytes.0 in
    λ _. record {
      read = read;
      written = written ++ out;
      consumed = Consumes-nothing _ _ _ read consumed none;
      appended = Appends-kept _ _ _ (written ++ out) (Appends-then _ _ _ written out appended more) c.flush-2.ensures.bytes;
      beginning = inr (c.in-Ok-read.ensures.bytes.1 c.if-n-eq0.true (search rules), beginning-whole g.P.Replies.is_reply _ (written ++ out) (output-append g.P.Replies.is_reply _ _ written out is is'));
    }
