use Rattle.std.proofs.Common.{◌∙◌, ◌++◌, ◌∷◌, [], List, ℕ, ap, sym, append_assoc}
use Rattle.line_program.proofs.lines.Lines.reply_to.Goals as goal

pub returns-clause-ok : goal.returns-clause-ok
returns-clause-ok g c before e =
    let (out, appended, split) = c.in_ok-make_room.ensures.ok in
    let (said, is, made) = c.gather.ensures.reply before (ap (λ l. l.items) c.make_room.ensures.line ∙ e) in (
      said,
      is,
      out,
      appended,
      ap (λ (l : List ℕ). l ++ (said ++ 10 ∷ [])) split ∙ append_assoc out _ (said ++ 10 ∷ []) ∙ ap (λ (l : List ℕ). out ++ l) (sym made),
    )
