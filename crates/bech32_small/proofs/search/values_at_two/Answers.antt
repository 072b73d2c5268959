use Rattle.std.proofs.Common.{◌≡◌, ℕ, [], ◌∷◌, refl, subst, sym, ◌∙◌, arith}
use Rattle.std.proofs.Math.Decide.{dec_lt}
use Rattle.bech32_gf.specs.declared.gf32.Fe32.{Fe32}
use Rattle.bech32_small.proofs.Remainders.{LeavesErrors}
use Rattle.bech32_small.proofs.Searched.{found_second, same_element, second_at}
use Rattle.bech32_small.proofs.search.values_at_two.Goals as goal

pub loop-v-init : goal.loop-v-init
loop-v-init c = λ v w less h. absurd (omega (arith, less))

pub returns-then-left-lt32 : goal.returns-then-left-lt32
returns-then-left-lt32 c =
    let row : ℕ = c.args.row in
    let one : ℕ = c.args.one in
    let two : ℕ = c.args.two in
    let value = c.from_low_bits-value.result in
    let rest = c.divided_by_power-row.ensures in (
      refl,
      subst (λ (e : Fe32). LeavesErrors row ((one, value) ∷ (two, e) ∷ [])) (sym c.from_low_bits.ensures)
          (found_second row c.divided_by_power-row.result c.power_of_x.result c.divided_by_power-power.result c.times.result two one value
          c.requires rest.clear rest.after rest.before c.power_of_x.ensures.power c.divided_by_power-power.ensures.after c.times.ensures
          c.if-left-lt32.true),
    )

pub loop-v-preserved : goal.loop-v-preserved
loop-v-preserved c = λ u w less h.
    let row : ℕ = c.args.row in
    let one : ℕ = c.args.one in
    let two : ℕ = c.args.two in
    let value = c.from_low_bits-value.result in
    let rest = c.divided_by_power-row.ensures in
    elim (dec_lt u.value c.loop-v.v) [
      | yes k ↦ c.loop-v.invariant u w k h
      | no k ↦ (
          let same : u ≡ c.from_low_bits-value.result = same_element c.loop-v.v u (omega (arith, less, k)) ∙ sym c.from_low_bits-value.ensures in
          let left = second_at row c.divided_by_power-row.result c.power_of_x.result c.divided_by_power-power.result c.times.result two one value
          c.requires rest.clear rest.after rest.before c.power_of_x.ensures.power c.divided_by_power-power.ensures.after c.times.ensures
          w (subst (λ (e : Fe32). LeavesErrors row ((one, e) ∷ (two, w) ∷ [])) same h) in
          absurd (omega (arith, left, w.in_field, c.if-left-lt32.false))
          )
    ]

pub returns : goal.returns
returns c = λ value h. c.loop-v.invariant (value 0) (value 1) (omega (arith, (value 0).in_field, c.loop-v-test.false)) h
