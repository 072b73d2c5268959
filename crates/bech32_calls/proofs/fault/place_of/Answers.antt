use Rattle.std.proofs.Common.{◌≡◌, ◌⊎◌, ℕ, List, Some, inl, inr, sym, ap, subst, ◌∙◌, arith}
use Rattle.std.proofs.lemmas.Bool.{cases_eq}
use Rattle.bech32_calls.specs.Place.{IsFirstWrong, IsUnfit}
use Rattle.bech32_calls.proofs.Parts.{end-of_part, wrong-of_part, part-front}
use Rattle.bech32_calls.proofs.fault.place_of.Goals as goal

pub returns-in-11-clause-place : goal.returns-in-11-clause-place
returns-in-11-clause-place c has p h =
    let n = c.args.number in
    let is : (n ≡ 11) ⊎ (n ≡ 12) = elim (cases_eq n 11) [
      | inl e ↦ inl e
      | inr other ↦ inr (omega (arith, other))
    ] in
    let at = end-of_part c.args.text.now n p h is in
    ap (λ (x : ℕ). Some x) (c.part_length.ensures.value at.hrp at.data_part at.split ∙ sym at.holds)

pub returns-in-13-clause-place : goal.returns-in-13-clause-place
returns-in-13-clause-place c has p h =
    let n = c.args.number in
    let is : (n ≡ 13) ⊎ ((n ≡ 14) ⊎ (n ≡ 15)) = elim (cases_eq n 13) [
      | inl e ↦ inl e
      | inr not_13 ↦ elim (cases_eq n 14) [
        | inl e ↦ inr (inl e)
        | inr not_14 ↦ inr (inr (omega (arith, not_13, not_14)))
      ]
    ] in
    let at = wrong-of_part c.args.text.now n p h is in
    let part = part-front c.args.text.now at.hrp at.data_part c.part_length-in-13.result at.split (c.part_length-in-13.ensures.value at.hrp at.data_part at.split) in
    ap (λ (x : ℕ). Some x) (c.part_place.ensures p (subst (λ (x : List ℕ). IsFirstWrong IsUnfit x p) (sym part) at.holds))
