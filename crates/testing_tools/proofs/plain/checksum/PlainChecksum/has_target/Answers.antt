use Rattle.std.proofs.Common.{◌∙◌, List, sym, ap, subst, eq-eqb}
use Rattle.std.proofs.lemmas.Bool.{eqb-true}
use Rattle.bech32_gf.specs.Fe32 as fe32
use Rattle.bech32_gf.specs.laws.Fe32Laws.{is_field}
use Rattle.bech32_gf.specs.declared.gf32.Fe32.{Fe32}
use Rattle.bech32_poly.specs.Remainder.{IsRemainder}
use Rattle.bech32_poly.proofs.Remainder.{remainder_unique}
use lib.Pointwise.{pointwise_decides}
use Rattle.testing_tools.specs.PlainChecksum.{code_of_plain}
use Rattle.testing_tools.proofs.plain.checksum.PlainChecksum.has_target.Goals as goal

pub returns : goal.returns
returns c =
    let low : List Fe32 = (code_of_plain c.args.self).generator in
    let p : List Fe32 = c.args.polynomial.now in
    let rest : List Fe32 = c.in_ok-rest.rest.items in
    let target : List Fe32 = (code_of_plain c.args.self).target in
    let left : IsRemainder fe32.ops low p rest = rw c.generator.ensures at c.in_ok-rest.ensures in
    let test = pointwise_decides (λ (x y : Fe32). (λ h. fe32.path x y (eqb-true x.value y.value h), λ e. eq-eqb x.value y.value (ap (λ (z : Fe32). z.value) e))) c.as_slice.result.now c.as_slice-2.result.now in (
      λ h. subst (IsRemainder fe32.ops low p) (sym c.as_slice.ensures.value ∙ test.0 (sym c.eq.ensures ∙ h) ∙ c.as_slice-2.ensures ∙ c.target-target.ensures) left,
      λ is. c.eq.ensures ∙ test.1 (c.as_slice.ensures.value ∙ remainder_unique is_field low p rest left ∙ sym (remainder_unique is_field low p target is) ∙ sym c.target-target.ensures ∙ sym c.as_slice-2.ensures),
    )
