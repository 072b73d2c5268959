use Rattle.std.proofs.Common.{◌≡◌, rules, ◌∙◌, ◌-◌, ◌++◌, List, ℕ, length, take, min, ap}
use Rattle.line_program.specs.Limit.{kept_of_line}
use Rattle.line_program.proofs.Kept.{kept-piece, take-least}
use Rattle.line_program.proofs.lines.Lines.keep.Goals as goal

pub returns-clause-line : goal.returns-clause-line
returns-clause-line g c before e =
    let most = kept_of_line g.P.Replies.LINE_LIMIT in
    let kept = c.args.self.now.line.items in
    let piece = c.args.piece.now in
    let added : c.append.new.out.items ≡ kept ++ take (min (length piece) (most - length kept)) piece = search rules in
    added ∙ ap (λ (l : List ℕ). kept ++ l) (take-least (most - length kept) piece) ∙ kept-piece most before kept piece e
