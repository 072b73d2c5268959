use Rattle.std.proofs.Common.{◌≡◌, ℕ, [], get_or, sym, ap, ◌∙◌, arith}
use Rattle.bech32_gf.specs.Fe32 as fe32
use Rattle.bech32_gf.specs.laws.Fe32Laws.{is_field}
use Rattle.bech32_poly.specs.Polynomial.{coefficient}
use Rattle.bech32_bch.proofs.Loops.{get_any}
use Rattle.bech32_lookup.specs.Equations.{entry}
use Rattle.bech32_lookup.specs.declared.erased.Row.{Row}
use Rattle.bech32_lookup.proofs.Elimination.{first_row, more_values, no_values, said}
use Rattle.bech32_lookup.proofs.erased.+values_of.Goals as goal

pub returns-then-last-eq0 : goal.returns-then-last-eq0
returns-then-last-eq0 t c =
    let none : Row = record { items = [] } in
    let rows = c.args.rows.now in
    let first : (place : ℕ) → entry c.args.rows.now 0 place ≡ coefficient fe32.ops (get_or c.args.rows.now 0 c.index-rows-0.result).items place =
    λ place. ap (λ (r : Row). coefficient fe32.ops r.items place) (get_any rows 0 none c.index-rows-0.result (omega (arith, c.requires.room))) in
    said c.first_alone.result
    (λ no value one h. no (λ place less. sym (first place) ∙ (first_row is_field (entry rows) c.args.size c.args.last value c.if-last-eq0.true one).0 h place less))
    (λ values h. (h.0, (first_row is_field (entry rows) c.args.size c.args.last (coefficient fe32.ops values) c.if-last-eq0.true h.0).1 (λ place less. first place ∙ h.1 place less)))
    c.first_alone.ensures

pub returns-in_default : goal.returns-in_default
returns-in_default t c =
    no_values is_field (entry c.args.rows.now) (entry c.eliminate-factors.new.rows) c.args.last c.args.size (coefficient fe32.ops c.eliminate-factors.result) c.eliminate-factors.ensures (omega (arith, c.if-last-eq0.false))
    (rw c.in_default.is at c.values_of.ensures)

pub returns : goal.returns
returns t c =
    more_values is_field (entry c.args.rows.now) (entry c.eliminate-factors.new.rows) c.args.last c.args.size c.eliminate-factors.result c.in-Some.values c.weighted_sum.result c.eliminate-factors.ensures
    (omega (arith, c.if-last-eq0.false)) (omega arith) (rw c.in-Some.is at c.values_of.ensures) c.weighted_sum.ensures
