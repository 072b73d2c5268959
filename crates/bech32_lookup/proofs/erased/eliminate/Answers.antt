use Rattle.std.proofs.Common.{◌≡◌, ◌<◌, ℕ, [], length, inl, inr, sym, ap, ◌∙◌, refl, arith}
use Rattle.std.proofs.lemmas.List.{length-set}
use Rattle.bech32_gf.specs.Fe32 as fe32
use Rattle.bech32_gf.specs.declared.gf32.Fe32.{Fe32}
use Rattle.bech32_gf.specs.laws.Fe32Laws.{is_field}
use Rattle.bech32_poly.specs.Polynomial.{coefficient}
use Rattle.bech32_refusals.proofs.Coefficients.{coefficient-replicate}
use Rattle.bech32_bch.proofs.Loops.{get_any}
use Rattle.bech32_lookup.specs.Equations.{entry}
use Rattle.bech32_lookup.specs.declared.erased.Row.{Row}
use Rattle.bech32_lookup.proofs.Elimination.{cleared_by, entry-other, nothing_added, one_more_at, row_more}
use Rattle.bech32_lookup.proofs.erased.eliminate.Goals as goal

pub factor_at-factor-requires-clause-not_zero : goal.factor_at-factor-requires-clause-not_zero
factor_at-factor-requires-clause-not_zero c = c.pivot_below-pivot.ensures.found (omega (arith, c.if-pivot-size.false, c.pivot_below-pivot.ensures.within))

pub with_multiple-requires-clause-cleared : goal.with_multiple-requires-clause-cleared
with_multiple-requires-clause-cleared c =
    let pivot = c.pivot_below-pivot.result in
    let found : c.pivot_below-pivot.result < c.args.size = omega (arith, c.if-pivot-size.false, c.pivot_below-pivot.ensures.within) in
    let here = coefficient fe32.ops c.index-rows-last.result.items pivot in
    let less : c.loop-i.i < length c.loop-i.rows = omega (arith, c.loop-i.invariant.room, c.requires.room) in
    cleared_by is_field (λ x. refl) _ here (fe32.inv here) c.factor_at-factor.result _ (is_field.mul_inv here (c.pivot_below-pivot.ensures.found found))
    (c.factor_at-factor.ensures
    ∙ ap (λ (r : Row). fe32.mul (coefficient fe32.ops r.items pivot) (fe32.inv here)) (get_any c.loop-i.rows c.loop-i.i c.index-rows-i.result c.index-rows-i-in-loop-i.result less))
    refl

pub loop-i-init : goal.loop-i-init
loop-i-init c = record {
  room = refl;
  size = refl;
  added = λ k place h less. absurd (omega arith);
  factor = λ k h. absurd (omega arith);
  rest = λ k place h. refl;
}

pub loop-i-preserved : goal.loop-i-preserved
loop-i-preserved c =
    let i : ℕ = c.loop-i.i in
    let items = λ (r : Row). r.items in
    let none : Row = record { items = [] } in
    let rows = c.loop-i.rows in
    let factors = c.loop-i.factors in
    let before = c.args.rows.now in
    let pivot = c.pivot_below-pivot.result in
    let row : ℕ → Fe32 = coefficient fe32.ops c.index-rows-last.result.items in
    let less : c.loop-i.i < length c.loop-i.rows = omega (arith, c.loop-i.invariant.room, c.requires.room) in
    let room : c.loop-i.i < length c.loop-i.factors = omega (arith, c.loop-i.invariant.size, c.requires.last) in
    record {
      room = length-set _ _ _ ∙ c.loop-i.invariant.room;
      size = length-set _ _ _ ∙ c.loop-i.invariant.size;
      added = row_more is_field items none before rows factors row c.with_multiple.result i c.args.size c.factor_at-factor.result less room c.loop-i.invariant.added c.loop-i.invariant.rest
          (λ place h.
          c.with_multiple.ensures place h
          ∙ ap (λ (r : Row). fe32.add (coefficient fe32.ops r.items place) (fe32.mul c.factor_at-factor.result (row place))) (get_any rows i c.index-rows-i-in-loop-i.result none less));
      factor = one_more_at is_field factors (λ k. fe32.mul (entry before k pivot) (fe32.inv (row pivot))) i c.factor_at-factor.result room
          (c.factor_at-factor.ensures
          ∙ ap (λ (r : Row). fe32.mul (coefficient fe32.ops r.items pivot) (fe32.inv (row pivot))) (get_any rows i c.index-rows-i.result none less)
          ∙ ap (λ x. fe32.mul x (fe32.inv (row pivot))) (c.loop-i.invariant.rest i pivot (omega arith)))
          c.loop-i.invariant.factor;
      rest = λ k place h. entry-other is_field items none rows i k c.with_multiple.result place (λ e. omega (arith, e, h)) ∙ c.loop-i.invariant.rest k place (omega arith);
    }

pub returns-then-pivot-size : goal.returns-then-pivot-size
returns-then-pivot-size c =
    let none : Row = record { items = [] } in
    record {
      added = λ k place h less. nothing_added is_field (entry c.args.rows.now k place) _ (entry c.args.rows.now c.args.last place) (coefficient-replicate 25 k _);
      cleared = inr (λ place less.
          ap (λ (r : Row). coefficient fe32.ops r.items place) (get_any c.args.rows.now c.args.last none c.index-rows-last.result c.requires.room ∙ sym c.index-rows-last.is)
          ∙ c.pivot_below-pivot.ensures.before place (omega (arith, less, c.if-pivot-size.true)));
    }

pub returns : goal.returns
returns c =
    let none : Row = record { items = [] } in
    let before = c.args.rows.now in
    let pivot = c.pivot_below-pivot.result in
    let row : ℕ → Fe32 = coefficient fe32.ops c.index-rows-last.result.items in
    let found : c.pivot_below-pivot.result < c.args.size = omega (arith, c.if-pivot-size.false, c.pivot_below-pivot.ensures.within) in
    let last_is : (place : ℕ) → coefficient fe32.ops c.index-rows-last.result.items place ≡ entry c.args.rows.now c.args.last place =
    λ place. ap (λ (r : Row). coefficient fe32.ops r.items place) (c.index-rows-last.is ∙ get_any before c.args.last c.index-rows-last.result none c.requires.room) in
    record {
      added = λ k place h less.
          c.loop-i.invariant.added k place (omega arith) less
          ∙ ap (λ x. fe32.add (entry before k place) (fe32.mul (coefficient fe32.ops c.loop-i.factors k) x)) (last_is place);
      cleared = inl (record {
        place = pivot;
        within = found;
        not_zero = λ z. c.pivot_below-pivot.ensures.found found (last_is pivot ∙ z);
        cleared = λ k h.
            cleared_by is_field (λ x. refl) (entry before k pivot) (row pivot) (fe32.inv (row pivot)) (coefficient fe32.ops c.loop-i.factors k) (entry c.loop-i.rows k pivot)
            (is_field.mul_inv (row pivot) (c.pivot_below-pivot.ensures.found found)) (c.loop-i.invariant.factor k (omega arith)) (c.loop-i.invariant.added k pivot (omega arith) found);
      });
    }
