use Rattle.std.proofs.Common.{◌≡◌, ℕ, List, [], ◌∷◌, get_or, subst, sym, ap, ◌∙◌, bit_xor, arith}
use Rattle.std.proofs.lemmas.Nat.{xor_lt}
use Rattle.std.proofs.Math.Decide.{dec_lt}
use Rattle.bech32_gf.specs.declared.gf32.Fe32.{Fe32}
use Rattle.bech32_bch.specs.Pattern.{locations}
use Rattle.bech32_small.proofs.Errors.{with_first, without_first}
use Rattle.bech32_small.proofs.Remainders.{LeavesErrors}
use Rattle.bech32_small.proofs.Searched.{leaves-at, pick, same_element, two_items}
use Rattle.bech32_small.proofs.search.values_at_three.Goals as goal

pub loop-v-init : goal.loop-v-init
loop-v-init c = λ v w u less h. absurd (omega (arith, less))

pub values_at_two-requires : goal.values_at_two-requires
values_at_two-requires c = xor_lt 30 c.args.row c.times.result c.requires c.times.ensures.clear

pub returns-in-Some : goal.returns-in-Some
returns-in-Some c =
    let row : ℕ = c.args.row in
    let value = c.from_low_bits-value.result in
    let at = leaves-at c.power_of_x-power.result c.times.result c.args.one value c.power_of_x-power.ensures.power c.times.ensures in
    let (listed, leaves) = rw c.in-Some.is at c.values_at_two.ensures in
    let rest : List (ℕ × Fe32) = get_or c.found.inside.items 0 c.index-found-0.result ∷ get_or c.found.inside.items 1 c.index-found-1.result ∷ [] in
    let whole = sym c.found.view_is ∙ two_items c.found.inside.items c.found.inside.count c.index-found-0.result c.index-found-1.result c.args.two c.args.three (ap (λ (l : List (ℕ × Fe32)). locations l) c.found.view_is ∙ listed) in (
      ap (λ (l : List ℕ). c.args.one ∷ l) (ap (λ (l : List (ℕ × Fe32)). locations l) (sym whole) ∙ listed),
      with_first row c.times.result c.args.one value rest c.requires c.times.ensures.clear at (subst (LeavesErrors (bit_xor row c.times.result)) whole leaves),
    )

pub loop-v-preserved : goal.loop-v-preserved
loop-v-preserved c = λ v w u less h.
    let row : ℕ = c.args.row in
    let value = c.from_low_bits-value.result in
    let at = leaves-at c.power_of_x-power.result c.times.result c.args.one value c.power_of_x-power.ensures.power c.times.ensures in
    let none = rw c.in_default.is at c.values_at_two.ensures in
    elim (dec_lt v.value c.loop-v.v) [
      | yes k ↦ c.loop-v.invariant v w u k h
      | no k ↦ (
          let same : v ≡ c.from_low_bits-value.result = same_element c.loop-v.v v (omega (arith, less, k)) ∙ sym c.from_low_bits-value.ensures in
          none (pick w u)
          (without_first row c.times.result c.args.one value ((c.args.two, w) ∷ (c.args.three, u) ∷ []) c.requires c.times.ensures.clear at
          (subst (λ (e : Fe32). LeavesErrors row ((c.args.one, e) ∷ (c.args.two, w) ∷ (c.args.three, u) ∷ [])) same h))
          )
    ]

pub returns : goal.returns
returns c = λ value h. c.loop-v.invariant (value 0) (value 1) (value 2) (omega (arith, (value 0).in_field, c.loop-v-test.false)) h
