-- The elements of a packed row, each times an element.
use Rattle.std.proofs.Common.{◌≡◌, ◌<◌, ◌+◌, ◌*◌, ◌-◌, ◌^◌, ◌++◌, ℕ, zero, suc, List, [], ◌∷◌, length, refl, sym, ap, ◌∙◌, subst, arith}
use Rattle.std.specs.List.{All}
use Rattle.bech32_gf.specs.Fe32 as fe32
use Rattle.bech32_gf.specs.declared.gf32.Fe32.{Fe32}
use Rattle.bech32_gf.specs.laws.Fe32Laws.{is_field}
use Rattle.bech32_poly.specs.Polynomial.{scale}
use Rattle.bech32_poly.proofs.Lists.{same_cons}
use Rattle.bech32_checksum.specs.Packed.{IsRowOf, digit_of, digits, number_of_digits, tabulate}
use Rattle.bech32_checksum.proofs.Digits.{get_or-tabulate, length-tabulate}
use Rattle.bech32_checksum.proofs.PackedRows.{digits-number_of_digits, number_of_digits-lt, number_of_digits-more}

tabulate-more : {A : Type 0} → (n : ℕ) (f : ℕ → A) → tabulate (suc n) f ≡ tabulate n f ++ (f n ∷ [])
tabulate-more zero f = refl
tabulate-more {A} (suc n) f = ap (λ (l : List A). f 0 ∷ l) (tabulate-more n (λ i. f (suc i)))

module _ (e : Fe32) (row : ℕ) where
  -- the value of the n-th of these, the highest first
  abbrev pub scaled_value : ℕ → ℕ
  scaled_value n = (fe32.mul (digit_of row (5 - n)) e).value

  -- the first n of them, packed
  abbrev pub scaled_upto : ℕ → ℕ
  scaled_upto n = number_of_digits (tabulate n scaled_value)

  pub scaled-more : (n : ℕ) → scaled_upto (n + 1) ≡ scaled_upto n * 32 + scaled_value n
  scaled-more n =
      let more : n + 1 ≡ suc n = omega arith in
      ap scaled_upto more ∙ ap number_of_digits (tabulate-more n scaled_value) ∙ number_of_digits-more (tabulate n scaled_value) (scaled_value n)

  all_small : (n : ℕ) → All (λ v. v < 32) (tabulate n scaled_value)
  all_small n k d below =
      let size : length (tabulate n scaled_value) ≡ n = length-tabulate n scaled_value in
      let inside : k < n = omega (arith, size, below) in
      subst (λ v. v < 32) (sym (get_or-tabulate n scaled_value k d inside)) (fe32.mul (digit_of row (5 - k)) e).in_field

  pub scaled-lt : (n : ℕ) → scaled_upto n < 2 ^ (5 * n)
  scaled-lt n = subst (λ k. scaled_upto n < 2 ^ (5 * k)) (length-tabulate n scaled_value) (number_of_digits-lt (tabulate n scaled_value) (all_small n))

  back : (n : ℕ) → fe32.element (fe32.mul (digit_of row n) e).value ≡ fe32.mul e (digit_of row n)
  back n =
      fe32.path (fe32.element (fe32.mul (digit_of row n) e).value) (fe32.mul (digit_of row n) e) (omega (arith, (fe32.mul (digit_of row n) e).in_field))
      ∙ is_field.mul_comm (digit_of row n) e

  pub scaled_row : IsRowOf 6 (scale fe32.ops e (digits 6 row)) (scaled_upto 6)
  scaled_row = record {
    elements_are =
        digits-number_of_digits (tabulate 6 scaled_value) (all_small 6)
        ∙ same_cons _ _ _ _ (back 0) (same_cons _ _ _ _ (back 1) (same_cons _ _ _ _ (back 2) (same_cons _ _ _ _ (back 3) (same_cons _ _ _ _ (back 4) (same_cons _ _ _ _ (back 5) refl)))));
    clear = scaled-lt 6;
  }
