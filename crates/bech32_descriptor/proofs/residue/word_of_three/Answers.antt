use Rattle.std.proofs.Common.{◌<◌, ◌+◌, ◌^◌, ◌∙◌, arith, subst, sym, ℕ}
use Rattle.bech32_descriptor.proofs.ThreeParts.{parts, three_below}
use Rattle.bech32_descriptor.proofs.residue.word_of_three.Goals as goal

pub returns-clause-value : goal.returns-clause-value
returns-clause-value c =
    let a : c.args.a < 256 = omega arith in
    let b : c.args.b < 256 = omega arith in
    let d : c.args.c < 256 = omega arith in
    (λ i. c.from.ensures i + c.from-2.ensures i + c.from-3.ensures i) ∙ parts c.args.a c.args.b c.args.c a b d

pub returns-clause-below : goal.returns-clause-below
returns-clause-below c =
    let a : c.args.a < 256 = omega arith in
    let b : c.args.b < 256 = omega arith in
    let d : c.args.c < 256 = omega arith in
    subst (λ (n : ℕ). n < 2 ^ 20)
    (sym ((λ i. c.from.ensures i + c.from-2.ensures i + c.from-3.ensures i) ∙ parts c.args.a c.args.b c.args.c a b d)) (three_below c.args.a c.args.b c.args.c a b d)
