use Rattle.std.proofs.Common.{List, ℕ, ◌++◌, codes, ap, sym, ◌∙◌, arith, length, length-append, rules}
use Rattle.line_program.proofs.Digits.{one_digit, two_digits}
use Rattle.line_program.proofs.output.append_refusal.Goals as goal

pub returns-then-number-ge10 : goal.returns-then-number-ge10
returns-then-number-ge10 c = record {
  items = c.append.ensures.items
      ∙ ap (λ (t : List ℕ). c.args.out.now.items ++ (codes "err " ++ t)) (sym (two_digits c.args.number c.if-number-ge10.true c.requires.small));
  size = omega (arith, length-append {A = ℕ}, ap (λ (l : List ℕ). length l) c.append.ensures.items);
  capacity = search rules;
}

pub returns-else-number-ge10 : goal.returns-else-number-ge10
returns-else-number-ge10 c = record {
  items = c.append-else-number-ge10.ensures.items
      ∙ ap (λ (t : List ℕ). c.args.out.now.items ++ (codes "err " ++ t)) (sym (one_digit c.args.number c.if-number-ge10.false));
  size = omega (arith, length-append {A = ℕ}, ap (λ (l : List ℕ). length l) c.append-else-number-ge10.ensures.items);
  capacity = search rules;
}
