use Rattle.std.proofs.Common.{◌++◌, ◌∙◌, ℕ, List, ap, codes}
use Rattle.line_program.proofs.Pieces.{two-pieces}
use Rattle.b32_replies.proofs.long.append_said.Goals as goal

pub returns-clause-items : goal.returns-clause-items
returns-clause-items c =
    two-pieces c.reserve.new.self.items (codes "ok ") c.args.text.now _ _ c.append.ensures.items c.append-2.ensures.items
    ∙ ap (λ (l : List ℕ). l ++ (codes "ok " ++ c.args.text.now)) c.reserve.ensures.items
