use Rattle.std.specs.Prelude.{true, false}
use Rattle.std.proofs.Common.{◌≡◌, ap, subst, sym, ◌∙◌}
use Rattle.bech32_gf.specs.Fe32 as fe32
use Rattle.bech32_gf.specs.laws.Fe32Laws.{is_field}
use Rattle.bech32_poly.specs.Polynomial.{coefficient}
use Rattle.bech32_checksum.specs.Packed.{digit_of}
use Rattle.bech32_lookup.specs.Multiple.{IsMultiple}
use Rattle.bech32_lookup.proofs.OneError.{not_zero, not_zero_by_ne, not_zero_there, quotient, zero_by_eq}
use Rattle.bech32_lookup.proofs.single.factor_of.Goals as goal

pub returns-then-ne : goal.returns-then-ne
returns-then-ne g c = λ factor h.
    not_zero_by_ne c.packed_coefficient.result c.ne.result c.ne.ensures c.if-ne.true (c.packed_coefficient.ensures ∙ c.requires.screens factor h)

pub returns-then-eq : goal.returns-then-eq
returns-then-eq g c = λ factor h.
    not_zero_there is_field factor (digit_of (g.R.PackedFe32.number c.args.row.now) c.args.pivot) (coefficient fe32.ops c.args.list.now c.args.pivot)
    c.requires.pivot (h c.args.pivot) (sym c.packed_coefficient-here.ensures ∙ zero_by_eq c.packed_coefficient-here.result c.eq.result c.eq.ensures c.if-eq.true)

pub returns-then-is_multiple : goal.returns-then-is_multiple
returns-then-is_multiple g c =
    let multiple = c.is_multiple.ensures.0 c.if-is_multiple.true in (
      not_zero is_field c.div-factor.result (digit_of (g.R.PackedFe32.number c.args.row.now) c.args.pivot) (coefficient fe32.ops c.args.list.now c.args.pivot)
          c.requires.pivot (multiple c.args.pivot),
      multiple,
    )

pub returns-else-is_multiple : goal.returns-else-is_multiple
returns-else-is_multiple g c = λ factor h.
    let here = digit_of (g.R.PackedFe32.number c.args.row.now) c.args.pivot in
    let there = coefficient fe32.ops c.args.list.now c.args.pivot in
    let same : c.div-factor.result ≡ factor =
    c.div-factor.ensures ∙ ap (λ x. fe32.mul x (fe32.inv c.packed_coefficient-here.result)) c.listed_coefficient.ensures ∙ ap (λ x. fe32.mul there (fe32.inv x)) c.packed_coefficient-here.ensures
    ∙ quotient is_field factor here there (not_zero_there is_field factor here there c.requires.pivot (h c.args.pivot)) (h c.args.pivot) in
    let no : false ≡ true =
    sym c.if-is_multiple.false ∙ c.is_multiple.ensures.1 (subst (IsMultiple (g.R.PackedFe32.number c.args.row.now) c.args.list.now) (sym same) h) in
    absurd (cc no)
