use Rattle.std.specs.Prelude.{OnOk}
use Rattle.std.proofs.Common.{sym, ap, ◌∙◌, ◌++◌, List, ℕ, Result, Ok, Err, append-nil}
use Rattle.line_program.proofs.lines.Lines.make_room.Goals as goal

both : {T E : Type 0} (r : Result T E) {P Q R : Type 0} → (P → Q → R) → OnOk r P → OnOk r Q → OnOk r R
both (Ok x) f p q = f p q
both (Err e) f p q = tt

pub returns-clause-ok : goal.returns-clause-ok
returns-clause-ok g c =
    let out = c.args.self.now.out.items in
    both c.write_out.result (λ more none. (out, more, sym (ap (λ (l : List ℕ). out ++ l) none ∙ append-nil out))) c.write_out.ensures.ok c.write_out.ensures.none_left
