use Rattle.std.proofs.Common.{ℕ, List, arith, rules, ◌∙◌, ◌+◌, ◌++◌, ◌∷◌, [], take, drop, Some, ap, sym, subst}
use Rattle.std.proofs.lemmas.List.{take_all, take_rest}
use Rattle.std.proofs.lemmas.Result.{err_from_is_err_and, on_ok_weaker, on_err_weaker}
use Rattle.std.specs.Io.KnownBytes.{Appends}
use Rattle.memchr.specs.Find.{IsFirstByte, is_byte}
use Rattle.line_program.specs.Limit.{kept_of_line}
use Rattle.line_program.specs.Lines.{ended_from, rest_from}
use Rattle.line_program.specs.Output.{IsOutput, IsBeginning}
use Rattle.line_program.proofs.Ended.{HasNoNewline, at_newline, ended-more, front-no_newline, no_newline, rest-more, rest-turn, split-turn}
use Rattle.line_program.proofs.Known.{Appends-then}
use Rattle.line_program.proofs.Outputs.{cut-within, gathered-more, turn}
use Rattle.line_program.proofs.lines.Lines.feed.Goals as goal

pub returns-in_err-reply_to-clause-err : goal.returns-in_err-reply_to-clause-err
returns-in_err-reply_to-clause-err g c =
    let R = g.P.Replies.is_reply in
    let p = err_from_is_err_and c.from_residual.result c.from_residual.ensures.1 in
    rw p.1 (λ before e.
    let (gone, split, so_far) = c.lines.invariant.answered in
    let (kept, written, appended, is) = so_far before e in
    let gathered = c.lines.self.out.items in
    let (n, more) = c.in_err-reply_to.ensures.err in (
      written ++ take n gathered,
      Appends-then _ _ _ written _ appended more,
      subst (λ (bs : List ℕ). IsBeginning R (ended_from before bs) (written ++ take n gathered)) (sym split)
          (cut-within R before gone c.lines.rest.now written gathered n is),
    ))

pub lines-preserved : goal.lines-preserved
lines-preserved g c =
    let R = g.P.Replies.is_reply in
    let (gone, split, so_far) = c.lines.invariant.answered in
    let rest = c.lines.rest.now in
    let piece = take c.in-Some.end rest in
    let found : IsFirstByte (is_byte 10) rest (Some c.in-Some.end) = c.in-Some.ensures in
    record {
      unmarked = search rules;
      unflushed = c.reply_to.ensures.unflushed ∙ c.lines.invariant.unflushed;
      same = g.met.K.ByteSink.transitive _ _ _ c.lines.invariant.same c.reply_to.ensures.same;
      answered = (
        gone ++ (piece ++ 10 ∷ []),
        rw take_rest (split-turn _ gone rest piece (drop (c.in-Some.end + 1) rest) split (at_newline rest c.in-Some.end found)),
        λ before e.
            let (kept, written, appended, is) = so_far before e in
            let (said, reply, out, more, made) = c.in_ok-reply_to.ensures.ok _ kept in
            let gathered = c.lines.self.out.items in (
              c.in_ok-reply_to.ensures.next ∙ sym (take_all (kept_of_line g.P.Replies.LINE_LIMIT) [] (omega arith)) ∙ ap (λ (t : List ℕ). take (kept_of_line g.P.Replies.LINE_LIMIT) t) (sym (rest-turn before gone piece)),
              written ++ out,
              Appends-then _ _ _ written out appended more,
              subst (IsOutput R (ended_from before (gone ++ (piece ++ 10 ∷ [])))) (gathered-more written gathered (said ++ 10 ∷ []) out _ made)
                  (turn R before gone piece (written ++ gathered) said (front-no_newline rest c.in-Some.end found) is reply),
            ),
      );
    }

pub returns-clause-ok : goal.returns-clause-ok
returns-clause-ok g c = on_ok_weaker c.write_out.result
    (λ more before e.
    let R = g.P.Replies.is_reply in
    let (gone, split, so_far) = c.lines.invariant.answered in
    let (kept, written, appended, is) = so_far before e in
    let rest = c.lines.rest.now in
    let none : HasNoNewline rest = no_newline rest c.in_default.ensures in
    let out = written ++ c.lines.self.out.items in
    let more' = subst (λ o. Appends (g.K.ByteSink.contents c.lines.sink) (g.K.ByteSink.contents c.write_out.new.sink) o.items) c.keep.ensures.out more in (
      ap (λ l. l.items) c.write_out.ensures.line ∙ c.keep.ensures.line _ kept
          ∙ ap (λ (t : List ℕ). take (kept_of_line g.P.Replies.LINE_LIMIT) t) (sym (rest-more before gone rest none) ∙ ap (rest_from before) (sym split)),
      out,
      Appends-then _ _ _ written _ appended more',
      subst (λ ls. IsOutput R ls out) (sym (ended-more before gone rest none) ∙ ap (ended_from before) (sym split)) is,
    ))
    c.write_out.ensures.ok

pub returns-clause-err : goal.returns-clause-err
returns-clause-err g c = on_err_weaker c.write_out.result
    (λ h before e.
    let R = g.P.Replies.is_reply in
    let (gone, split, so_far) = c.lines.invariant.answered in
    let (kept, written, appended, is) = so_far before e in
    let gathered = c.lines.self.out.items in
    let (n, more) = h in
    let more' = subst (λ o. Appends (g.K.ByteSink.contents c.lines.sink) (g.K.ByteSink.contents c.write_out.new.sink) (take n o.items)) c.keep.ensures.out more in (
      written ++ take n gathered,
      Appends-then _ _ _ written _ appended more',
      subst (λ (bs : List ℕ). IsBeginning R (ended_from before bs) (written ++ take n gathered)) (sym split)
          (cut-within R before gone c.lines.rest.now written gathered n is),
    ))
    c.write_out.ensures.err
