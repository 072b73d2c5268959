use Rattle.std.proofs.Common.{◌∙◌, arith, ◌++◌, ◌∷◌, [], ap}
use Rattle.line_program.specs.Limit.{kept_of_line}
use Rattle.line_program.proofs.Kept.{reply-kept}
use Rattle.line_program.proofs.lines.Lines.gather.Goals as goal

pub returns-clause-reply : goal.returns-clause-reply
returns-clause-reply g c before e =
    let (said, is, made) = c.reply-2.ensures.reply in
    let line = c.as_slice.ensures.value ∙ c.keep.ensures.line before e in (
      said,
      reply-kept g.P.Replies.is_reply g.P.Replies.LINE_LIMIT (kept_of_line g.P.Replies.LINE_LIMIT) (before ++ c.args.piece.now) _ said g.met.P.Replies.too_long (omega arith) line is,
      made ∙ ap (λ v. v.items ++ (said ++ 10 ∷ [])) c.keep.ensures.out,
    )
