use Rattle.std.specs.Prelude.{true, false}
use Rattle.std.proofs.Common.{◌≡◌, length, subst, sym, ap, ◌∙◌, arith}
use Rattle.bech32_gf.specs.Field.{power}
use Rattle.bech32_poly.specs.Polynomial.{coefficient}
use Rattle.bech32_bch.specs.Knock.{gap, knocks}
use Rattle.bech32_bch.specs.Search.{IsExplained}
use Rattle.bech32_bch.proofs.values.value_beside.Goals as goal

pub value_of_left-requires : goal.value_of_left-requires
value_of_left-requires g c =
    omega (arith, ap (λ u. length u) c.as_slice-2.ensures, c.in_ok-left.ensures.knocked.size, ap (λ u. length u) c.as_slice.ensures, c.requires)

pub returns-clause-value : goal.returns-clause-value
returns-clause-value g c = λ v few h.
    let o = g.E.Arithmetic.ops in
    let others = c.args.others.now in
    let left : coefficient o c.as_slice-2.result.now 0 ≡ knocks o others (coefficient o c.args.syndromes.now) 0 =
    ap (λ u. coefficient o u 0) c.as_slice-2.ensures
    ∙ c.in_ok-left.ensures.knocked.items_are 0 (omega (arith, ap (λ u. length u) c.as_slice.ensures, few))
    ∙ ap (λ u. knocks o others (coefficient o u) 0) c.as_slice.ensures in
    c.value_of_left.ensures v (subst (λ u. IsExplained o u (o.mul (power o c.args.here c.args.start) (gap o c.args.here others)) (g.E.Extension.embed v)) (sym left) h)

refused : {P : Type 0} → false ≡ true → P
refused h = absurd (cc h)

pub returns-in_err-left-clause-in_place : goal.returns-in_err-left-clause-in_place
returns-in_err-left-clause-in_place g c = λ fits. refused (c.in_err-left.ensures.in_place (omega (arith, fits, ap (λ u. length u) c.as_slice.ensures)))
