-- The bytes of elements that come one at a time.
use Rattle.std.proofs.Common.{◌≡◌, ◌<◌, ◌≤◌, ◌+◌, ◌*◌, ◌-◌, ◌/◌, ◌%◌, ◌^◌, ◌++◌, ◌∙◌, ℕ, suc, List, [], ◌∷◌, length, drop, get_or, ap, sym, arith}
use Rattle.std.proofs.Math.Seq.{drop-cons}
use Rattle.std.proofs.lemmas.List.{drop_all}
use Rattle.bech32_bits.specs.Bits.{bits, cut_in_eights, fe_bits}
use Rattle.bech32_bits.proofs.BitLists.{few-bits, join-five, take-one}
use Rattle.bech32_gf.specs.Fe32.{element_of, elements_of}

module _ (cs : List ℕ) (i : ℕ) (less : i < length cs) where
  -- the value of the character that comes
  abbrev pub value_at : ℕ
  value_at = (element_of (get_or cs i 0)).value

  comes : fe_bits (elements_of (drop i cs)) ≡ bits 5 value_at ++ fe_bits (elements_of (drop (i + 1) cs))
  comes =
      let next : suc i ≡ i + 1 = omega arith in
      ap (λ (l : List ℕ). fe_bits (elements_of l)) (drop-cons cs i 0 less)
      ∙ ap (λ (k : ℕ). bits 5 value_at ++ fe_bits (elements_of (drop k cs))) next

  -- its bits are held
  pub more_held : (c h : ℕ)
      → bits c h ++ fe_bits (elements_of (drop i cs)) ≡ bits (c + 5) (h * 32 + value_at) ++ fe_bits (elements_of (drop (i + 1) cs))
  more_held c h =
      ap (λ (l : List ℕ). bits c h ++ l) comes
      ∙ join-five c h value_at (fe_bits (elements_of (drop (i + 1) cs))) (element_of (get_or cs i 0)).in_field

  -- its first bits complete a byte
  pub one_byte : (c h b : ℕ) → 3 ≤ c → c < 8 → b ≡ (h * 32 + value_at) / 2 ^ (c - 3) % 256
      → cut_in_eights (bits c h ++ fe_bits (elements_of (drop i cs))) ≡ b ∷ cut_in_eights (bits (c - 3) value_at ++ fe_bits (elements_of (drop (i + 1) cs)))
  one_byte c h b some few is =
      ap (λ (l : List ℕ). cut_in_eights (bits c h ++ l)) comes
      ∙ take-one c h value_at b (fe_bits (elements_of (drop (i + 1) cs))) some (omega (arith, few)) (element_of (get_or cs i 0)).in_field is

-- what is left behind the last gives none
pub no_more : (cs : List ℕ) (i c h : ℕ) → length cs ≤ i → c < 8 → cut_in_eights (bits c h ++ fe_bits (elements_of (drop i cs))) ≡ []
no_more cs i c h all few =
    ap (λ (l : List ℕ). cut_in_eights (bits c h ++ fe_bits (elements_of l))) (drop_all i cs all) ∙ few-bits c h few
