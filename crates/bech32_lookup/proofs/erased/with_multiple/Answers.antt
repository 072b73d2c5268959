use Rattle.std.proofs.Common.{◌<◌, ℕ, length, ap, ◌∙◌, refl, arith}
use Rattle.std.proofs.lemmas.List.{length-set}
use Rattle.bech32_gf.specs.Fe32 as fe32
use Rattle.bech32_gf.specs.laws.Fe32Laws.{is_field}
use Rattle.bech32_poly.specs.Polynomial.{coefficient}
use Rattle.bech32_bch.proofs.Loops.{get_any}
use Rattle.bech32_lookup.proofs.Elimination.{first_places, one_more_at}
use Rattle.bech32_lookup.proofs.erased.with_multiple.Goals as goal

pub loop-place-init : goal.loop-place-init
loop-place-init c = record {
  room = length-set _ _ _ ∙ omega arith;
  read = first_places is_field c.args.list.now.items (coefficient fe32.ops c.args.row.now.items) c.args.factor _ c.args.pivot (omega (arith, c.requires.size, c.requires.pivot)) (fe32.path _ fe32.zero refl) c.requires.before c.requires.cleared;
}

pub loop-place-preserved : goal.loop-place-preserved
loop-place-preserved c =
    let place : ℕ = c.loop-place.place in
    let there : place < length c.loop-place.items = omega (arith, c.loop-place.invariant.room, c.requires.size) in
    record {
      room = length-set _ _ _ ∙ c.loop-place.invariant.room;
      read = one_more_at is_field c.loop-place.items (λ n. fe32.add (coefficient fe32.ops c.args.list.now.items n) (fe32.mul c.args.factor (coefficient fe32.ops c.args.row.now.items n))) place c.add.result there
          (c.add.ensures
          ∙ ap (λ x. fe32.add x c.mul.result) (get_any c.args.list.now.items place c.index-list-place.result fe32.zero (omega (arith, c.requires.size)))
          ∙ ap (fe32.add (coefficient fe32.ops c.args.list.now.items place))
          (c.mul.ensures ∙ ap (fe32.mul c.args.factor) (get_any c.args.row.now.items place c.index-row-place.result fe32.zero (omega (arith, c.requires.size))))) c.loop-place.invariant.read;
    }

pub returns : goal.returns
returns c = λ n h. c.loop-place.invariant.read n (omega arith)
