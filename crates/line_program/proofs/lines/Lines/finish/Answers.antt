use Rattle.std.proofs.Common.{◌≡◌, ◌∙◌, ◌++◌, ◌∷◌, [], ◌<◌, List, ℕ, length, subst, sym, ap, take, arith, append-nil}
use Rattle.std.specs.Prelude.{vec_len}
use Rattle.std.proofs.lemmas.Bool.{eqb-false}
use Rattle.std.proofs.lemmas.List.{take_all}
use Rattle.std.proofs.lemmas.Result.{err_from_is_err_and, on_ok_weaker, on_err_weaker}
use Rattle.line_program.specs.Lines.{last_line}
use Rattle.line_program.specs.Output.{IsOutput, IsBeginning}
use Rattle.line_program.proofs.Ended.{last-some}
use Rattle.line_program.proofs.Known.{Appends-then}
use Rattle.line_program.proofs.Outputs.{beginning-longer, beginning-whole, cut-last, output-one}
use Rattle.line_program.proofs.lines.Lines.finish.Goals as goal

pub returns-in_err-reply_to-clause-err : goal.returns-in_err-reply_to-clause-err
returns-in_err-reply_to-clause-err g c =
    let R = g.P.Replies.is_reply in
    let p = err_from_is_err_and c.from_residual.result c.from_residual.ensures.1 in
    rw p.1 (λ before e.
    let (n, more) = c.in_err-reply_to.ensures.err in
    let nothing : take n c.args.self.now.out.items ≡ [] = ap (λ (l : List ℕ). take n l) c.requires.none_left ∙ take_all n [] (omega arith) in (
      take n c.args.self.now.out.items,
      more,
      λ xs a p.
          subst (IsBeginning R (xs ++ last_line before)) (sym (ap (λ (l : List ℕ). a ++ l) nothing ∙ append-nil a))
          (beginning-longer R xs (last_line before) a (beginning-whole R xs a p)),
    ))

-- the reply is what was written before, with what is gathered
whole : (old said out new : List ℕ) → old ≡ [] → old ++ (said ++ 10 ∷ []) ≡ out ++ new → said ++ 10 ∷ [] ≡ out ++ new
whole old said out new none made = sym (ap (λ (l : List ℕ). l ++ (said ++ 10 ∷ [])) none) ∙ made

pub returns-clause-ok : goal.returns-clause-ok
returns-clause-ok g c = on_ok_weaker c.write_out.result
    (λ more before e.
    let R = g.P.Replies.is_reply in
    let (said, is', out, appended, made) = c.in_ok-reply_to.ensures.ok before e in
    let is = subst (λ (l : List ℕ). R l said) (append-nil before) is' in
    let some : 0 < length c.args.self.now.line.items = omega (arith, eqb-false (vec_len c.args.self.now.line) 0 (sym c.if-is_empty.ensures)) in
    let one = last-some g.P.Replies.LINE_LIMIT before _ e some in
    let gathered = c.reply_to.new.self.out.items in (
      out ++ gathered,
      Appends-then _ _ _ out gathered appended more,
      subst (λ (xs : List (List ℕ)). IsOutput R xs (out ++ gathered)) (sym one)
          (subst (IsOutput R (before ∷ [])) (whole _ said out gathered c.requires.none_left made) (output-one R before said is)),
    ))
    c.write_out.ensures.ok

pub returns-clause-err : goal.returns-clause-err
returns-clause-err g c = on_err_weaker c.write_out.result
    (λ h before e.
    let R = g.P.Replies.is_reply in
    let (n, more) = h in
    let (said, is', out, appended, made) = c.in_ok-reply_to.ensures.ok before e in
    let is = subst (λ (l : List ℕ). R l said) (append-nil before) is' in
    let some : 0 < length c.args.self.now.line.items = omega (arith, eqb-false (vec_len c.args.self.now.line) 0 (sym c.if-is_empty.ensures)) in
    let one = last-some g.P.Replies.LINE_LIMIT before _ e some in
    let gathered = c.reply_to.new.self.out.items in (
      out ++ take n gathered,
      Appends-then _ _ _ out (take n gathered) appended more,
      λ xs a p.
          subst (λ (ys : List (List ℕ)). IsBeginning R (xs ++ ys) (a ++ (out ++ take n gathered))) (sym one)
          (cut-last R xs before a said out gathered n p is (whole _ said out gathered c.requires.none_left made)),
    ))
    c.write_out.ensures.err
