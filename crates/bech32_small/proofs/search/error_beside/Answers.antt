use Rattle.std.proofs.Common.{◌≡◌, ◌+◌, ◌<◌, ℕ, [], ◌∷◌, inl, inr, refl, subst, sym, ◌∙◌, bit_xor, arith}
use Rattle.std.proofs.lemmas.Bool.{cases_eq}
use Rattle.std.proofs.lemmas.Nat.{xor_lt}
use Rattle.std.proofs.Math.Decide.{dec_lt}
use Rattle.bech32_gf.specs.Fe32 as fe32
use Rattle.bech32_gf.specs.declared.gf32.Fe32.{Fe32}
use Rattle.bech32_small.proofs.Errors.{with_first, without_first}
use Rattle.bech32_small.proofs.Remainders.{LeavesErrors}
use Rattle.bech32_small.proofs.Searched.{joined, leaves-at, none_left, nothing_leaves, same_element}
use Rattle.bech32_small.proofs.search.error_beside.Goals as goal

pub loop-v-init : goal.loop-v-init
loop-v-init c = record {
  alone = λ v less h. absurd (omega (arith, less));
  beside = λ v i w less below differ h. absurd (omega (arith, less));
}

pub returns-then-left-eq0 : goal.returns-then-left-eq0
returns-then-left-eq0 c =
    let value = c.from_low_bits-value.result in
    let at = leaves-at c.power_of_x-power.result c.times.result c.args.erasure value c.power_of_x-power.ensures.power c.times.ensures in (
      with_first c.args.row c.times.result c.args.erasure value [] c.requires.digits c.times.ensures.clear at
          (subst (λ n. LeavesErrors n []) (sym c.if-left-eq0.true) nothing_leaves),
      (value, inl refl),
    )

pub error_apart-requires-clause-digits : goal.error_apart-requires-clause-digits
error_apart-requires-clause-digits c = xor_lt 30 c.args.row c.times.result c.requires.digits c.times.ensures.clear

pub returns-in-Some : goal.returns-in-Some
returns-in-Some c =
    let value = c.from_low_bits-value.result in
    let error = c.in-Some.error in
    let at = leaves-at c.power_of_x-power.result c.times.result c.args.erasure value c.power_of_x-power.ensures.power c.times.ensures in
    let (below, differ, some, leaves) = rw c.in-Some.is at c.error_apart.ensures in (
      with_first c.args.row c.times.result c.args.erasure value (error ∷ []) c.requires.digits c.times.ensures.clear at leaves,
      (value, inr (error, refl, below, differ, some)),
    )

pub loop-v-preserved : goal.loop-v-preserved
loop-v-preserved c =
    let row : ℕ = c.args.row in
    let t : ℕ = c.times.result in
    let x : ℕ = c.args.erasure in
    let value = c.from_low_bits-value.result in
    let inv = c.loop-v.invariant in
    let at = leaves-at c.power_of_x-power.result c.times.result c.args.erasure value c.power_of_x-power.ensures.power c.times.ensures in
    let none = rw c.in_default.is at c.error_apart.ensures in
    let last : (u : Fe32) → u.value < c.loop-v.v + 1 → (u.value < c.loop-v.v → ⊥) → u ≡ c.from_low_bits-value.result =
    λ u less k. same_element c.loop-v.v u (omega (arith, less, k)) ∙ sym c.from_low_bits-value.ensures in
    record {
      alone = λ u less h. elim (dec_lt u.value c.loop-v.v) [
        | yes k ↦ inv.alone u k h
        | no k ↦ c.if-left-eq0.false (none_left (bit_xor row t) (xor_lt 30 row t c.requires.digits c.times.ensures.clear)
            (without_first row t x value [] c.requires.digits c.times.ensures.clear at
            (subst (λ (e : Fe32). LeavesErrors row ((x, e) ∷ [])) (last u less k) h)))
      ];
      beside = λ u i w less below differ h. elim (dec_lt u.value c.loop-v.v) [
        | yes k ↦ inv.beside u i w k below differ h
        | no k ↦ none i w below differ
            (without_first row t x value ((i, w) ∷ []) c.requires.digits c.times.ensures.clear at
            (subst (λ (e : Fe32). LeavesErrors row ((x, e) ∷ (i, w) ∷ [])) (last u less k) h))
      ];
    }

pub returns : goal.returns
returns c = λ v i w below h.
    let inv = c.loop-v.invariant in
    elim (cases_eq i c.args.erasure) [
      | inl same ↦ inv.alone (fe32.add v w) (omega (arith, (fe32.add v w).in_field, c.loop-v-test.false))
          (joined c.args.row c.args.erasure v w (subst (λ n. LeavesErrors c.args.row ((c.args.erasure, v) ∷ (n, w) ∷ [])) same h))
      | inr differ ↦ inv.beside v i w (omega (arith, v.in_field, c.loop-v-test.false)) below differ h
    ]
