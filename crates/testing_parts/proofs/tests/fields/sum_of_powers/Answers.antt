use Rattle.std.proofs.Common.{◌≡◌, ◌+◌, ◌-◌, ◌∙◌, ap, sym, fold, arith, List, [], ◌∷◌}
use Rattle.std.specs.Iterator.{Drains, YieldsFirst}
use Rattle.bech32_gf.specs.Field.{Ops}
use Rattle.bech32_gf.specs.Powers.{powers_of, powers_left}
use Rattle.testing_parts.proofs.tests.fields.sum_of_powers.Goals as goal

-- a whole walk gives what was left
all_given : {S A : Type 0} (rest : S → List A) (xs : List A) (s : S) → Drains (YieldsFirst rest) s xs → xs ≡ rest s
all_given rest [] s h = sym (ap rest h.1.1 ∙ h.1.2.0)
all_given rest (x ∷ xs) s h =
    let next = h.1.1.0 in
    ap (λ ys. x ∷ ys) (all_given rest xs next (h.0, (h.1.0, h.1.1.2, h.1.2))) ∙ sym h.1.1.1

pub returns : goal.returns
returns g c =
    let o : Ops _ = g.F.Arithmetic.ops in
    let law = g.met.F.Field in
    let ran = c.sum.ensures.ran in
    let whole : c.args.n - 0 ≡ c.args.n = omega arith in
    law.sum_law ran.0 _ ran.2
    ∙ ap (fold o.add o.zero)
    (all_given (powers_left o) ran.0 _ (ran.1 (law.sum_complete_law _)) ∙ c.powers_range.ensures
    ∙ ap (λ n. powers_of o c.args.x 0 (n + 1)) whole)
