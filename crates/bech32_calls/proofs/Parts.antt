-- The place of a fault of a human-readable part.
use Rattle.std.proofs.Common.{◌≡◌, ◌⊎◌, ℕ, List, ◌∷◌, Some, length, take, inl, inr, refl, ap, ◌∙◌}
use Rattle.std.proofs.lemmas.List.{take_at}
use Rattle.bech32_decode.specs.Text.{split_at_last}
use Rattle.bech32_calls.specs.Place.{IsPlace, IsOfPart, IsFirstWrong, IsNotAscii, IsNotGraphic, IsOfOtherCase, IsUnfit}
use Rattle.bech32_calls.proofs.Separators.{separated}
use Rattle.bech32_calls.proofs.Wrong.{wrong-also, unfit-not_ascii, unfit-not_graphic, unfit-other_case}

-- its end
pub end-of_part : (text : List ℕ) (n p : ℕ) → IsPlace text n p → (n ≡ 11) ⊎ (n ≡ 12) → IsOfPart (λ hrp. p ≡ length hrp) text
end-of_part text n p h (inl e) = let at = h.empty e in record { hrp = at.hrp; data_part = at.data_part; split = at.split; holds = at.holds.0 }
end-of_part text n p h (inr e) = let at = h.long e in record { hrp = at.hrp; data_part = at.data_part; split = at.split; holds = at.holds.0 }

module _ (IsWrong : List ℕ → ℕ → Type 0) (unfit : (before : List ℕ) (byte : ℕ) → IsWrong before byte → IsUnfit before byte) where
  unfit-of_part : (text : List ℕ) (p : ℕ) → IsOfPart (λ hrp. IsFirstWrong IsWrong hrp p) text → IsOfPart (λ hrp. IsFirstWrong IsUnfit hrp p) text
  unfit-of_part text p at =
      record { hrp = at.hrp; data_part = at.data_part; split = at.split; holds = wrong-also IsWrong IsUnfit unfit at.hrp p at.holds }

-- its first byte that may not stand there
pub wrong-of_part : (text : List ℕ) (n p : ℕ) → IsPlace text n p → (n ≡ 13) ⊎ ((n ≡ 14) ⊎ (n ≡ 15)) → IsOfPart (λ hrp. IsFirstWrong IsUnfit hrp p) text
wrong-of_part text n p h (inl e) = unfit-of_part IsNotAscii unfit-not_ascii text p (h.not_ascii e)
wrong-of_part text n p h (inr (inl e)) = unfit-of_part IsNotGraphic unfit-not_graphic text p (h.not_graphic e)
wrong-of_part text n p h (inr (inr e)) = unfit-of_part IsOfOtherCase unfit-other_case text p (h.part_case e)

pub part-front : (text hrp data_part : List ℕ) (n : ℕ) → split_at_last text ≡ Some (hrp, data_part) → n ≡ length hrp → take n text ≡ hrp
part-front text hrp data_part n h e =
    ap (λ (k : ℕ). take k text) e ∙ ap (take (length hrp)) (separated text hrp data_part h).0 ∙ take_at hrp (49 ∷ data_part) (length hrp) refl
