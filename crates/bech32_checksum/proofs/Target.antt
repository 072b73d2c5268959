-- The elements of the target, the highest first.
use Rattle.std.proofs.Common.{◌≡◌, ◌<◌, ◌≤◌, ◌+◌, ◌-◌, ℕ, List, ◌∷◌, length, reverse, take, get_or, sym, ◌∙◌, ap, arith}
use Rattle.std.proofs.lemmas.List.{get_or-reverse, length-reverse, take_all}
use Rattle.std.proofs.Math.Nat.{mod-eq_of_lt}
use Rattle.bech32_gf.specs.Fe32 as fe32
use Rattle.bech32_gf.specs.declared.gf32.Fe32.{Fe32}
use Rattle.bech32_poly.specs.Polynomial.{appended}
use Rattle.bech32_poly.proofs.Appended.{appended-take_more}
use Rattle.bech32_checksum.specs.Packed.{digit_of, digits}
use Rattle.bech32_checksum.specs.Code.{Code, code_of}
use Rattle.bech32_checksum.proofs.Digits.{length-tabulate, get_or-tabulate}

-- the code of packed words has as many coefficients in its target as the degree
pub length-target : {R : Type 0} (number : R → ℕ) (code : Code) (code_length degree : ℕ) (words : List R) (target : R)
    → code ≡ code_of number code_length degree words target → length code.target ≡ degree
length-target number code code_length degree words target law = ap (λ (c : Code). length c.target) law ∙ length-tabulate degree _

module _ (target : List Fe32) (degree number : ℕ) (is : target ≡ digits degree number) where
  size : length target ≡ degree
  size = ap (λ (xs : List Fe32). length xs) is ∙ length-tabulate degree _

  -- one more element of the target
  pub appended_more : (p : List Fe32) (i v : ℕ) → i < degree → v < 32 → v ≡ (digit_of number (degree - 1 - i)).value
      → appended p (take (i + 1) (reverse target)) ≡ fe32.element v ∷ appended p (take i (reverse target))
  appended_more p i v below small value =
      let within : i < length (reverse target) = omega (arith, length-reverse target, size) in
      let inside : i < length target = omega (arith, size) in
      let place : length target - 1 - i ≡ degree - 1 - i = omega (arith, size) in
      let low : degree - 1 - i < degree = omega arith in
      let element : get_or (reverse target) i fe32.zero ≡ fe32.element v =
      get_or-reverse target i fe32.zero inside
      ∙ ap (λ k. get_or target k fe32.zero) place
      ∙ ap (λ (xs : List Fe32). get_or xs (degree - 1 - i) fe32.zero) is
      ∙ get_or-tabulate degree (digit_of number) (degree - 1 - i) fe32.zero low
      ∙ fe32.path _ _ (sym value ∙ sym (mod-eq_of_lt small)) in
      appended-take_more p (reverse target) i fe32.zero within
      ∙ ap (λ x. x ∷ appended p (take i (reverse target))) element

  -- all of them
  pub appended_all : (p : List Fe32) (i : ℕ) → degree ≤ i → appended p (take i (reverse target)) ≡ appended p (reverse target)
  appended_all p i above = ap (appended p) (take_all i (reverse target) (omega (arith, length-reverse target, size)))
