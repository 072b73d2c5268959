-- Listings with one error, in the order of the error's location and value as one number.
use Rattle.std.specs.Prelude.{◌≢◌}
use Rattle.std.proofs.Common.{◌≡◌, ℕ, zero, suc, ◌+◌, ◌*◌, ◌<◌, ◌≤◌, List, ◌⊎◌, inl, inr, ap, subst, ◌∙◌, arith}
use Rattle.std.proofs.Math.Decide.{dec_lt}
use Rattle.bech32_gf.specs.Field.{Ops, IsField}
use Rattle.bech32_near.specs.search.Nearest.{IsEarlier}
use Rattle.bech32_near.specs.search.Steps.{AreAdded, HasHighest, HasHighestAt, IsGathered}
use Rattle.bech32_near.proofs.NearestListing.{highest_gathered, lower_earlier, lower_gathered, none_gathered, split, value_earlier}
use Rattle.bech32_near.proofs.NearestLists.{added_both, added_same}

module _ {F : Type 0} {f : Ops F} (fl : IsField f) (rank : F → ℕ) (lowest : (x : F) → x ≢ f.zero → rank f.zero < rank x) (apart : (x y : F) → rank x ≡ rank y → x ≡ y) (small : (x : F) → rank x < 32)
    (g residue : List F) (s : List ℕ) where
  abbrev Earlier : List (ℕ × F) → List (ℕ × F) → Type 0
  Earlier = IsEarlier f rank s

  -- without errors, or with one whose number is below n
  abbrev pub IsCodedBelow : ℕ → List (ℕ × F) → Type 0
  IsCodedBelow n items = IsGathered f g residue s 0 0 items ⊎ ((x : ℕ × F) × (x.0 * 32 + rank x.1 < n) × HasHighest f g residue s x 0 items)

  higher : (n m : ℕ) (items : List (ℕ × F)) → n ≤ m → IsCodedBelow n items → IsCodedBelow m items
  higher n m items le (inl k) = inl k
  higher n m items le (inr (x, low, k)) = inr (x, omega (arith, low, le), k)

  no_number : (items : List (ℕ × F)) → IsCodedBelow 0 items → IsGathered f g residue s 0 0 items
  no_number items (inl k) = k
  no_number items (inr (x, low, k)) = absurd (omega (arith, low))

  pub coded_first : (old new : List (List (ℕ × F))) → AreAdded Earlier (IsGathered f g residue s 0 0) old new → AreAdded Earlier (IsCodedBelow 0) old new
  coded_first old new h = added_same Earlier (IsGathered f g residue s 0 0) (IsCodedBelow 0) old new (λ x k. inl k) no_number h

  lower : (n m : ℕ) (items : List (ℕ × F)) → ((x : ℕ × F) → n ≤ x.0 * 32 + rank x.1 → x.0 * 32 + rank x.1 < m → HasHighest f g residue s x 0 items → ⊥)
      → IsCodedBelow m items → IsCodedBelow n items
  lower n m items none (inl k) = inl k
  lower n m items none (inr (x, low, k)) = elim (dec_lt (x.0 * 32 + rank x.1) n) [
    | yes p ↦ inr (x, p, k)
    | no p ↦ absurd (none x (omega (arith, p)) low k)
  ]

  -- where there are none between
  pub coded_on : (n m : ℕ) (old new : List (List (ℕ × F))) → n ≤ m
      → ((x : ℕ × F) (items : List (ℕ × F)) → n ≤ x.0 * 32 + rank x.1 → x.0 * 32 + rank x.1 < m → HasHighest f g residue s x 0 items → ⊥)
      → AreAdded Earlier (IsCodedBelow n) old new → AreAdded Earlier (IsCodedBelow m) old new
  coded_on n m old new le none h = added_same Earlier (IsCodedBelow n) (IsCodedBelow m) old new (λ items k. higher n m items le k) (λ items k. lower n m items (λ x. none x items) k) h

  same_code : (x y : ℕ × F) → x.0 * 32 + rank x.1 ≡ y.0 * 32 + rank y.1 → x ≡ y
  same_code x y e =
      let places : x.0 ≡ y.0 = omega (arith, e, small x.1, small y.1) in
      let values : x.1 ≡ y.1 = apart x.1 y.1 (omega (arith, e, places)) in
      ap (λ i. (i, x.1)) places ∙ ap (λ v. (y.0, v)) values

  -- and those of the next number
  pub coded_more : (c next : ℕ) (x : ℕ × F) (old between new : List (List (ℕ × F))) → x.0 * 32 + rank x.1 ≡ c → next ≡ suc c
      → AreAdded Earlier (IsCodedBelow c) old between → AreAdded Earlier (HasHighest f g residue s x 0) between new → AreAdded Earlier (IsCodedBelow next) old new
  coded_more c next x old between new is up h k =
      added_both Earlier (IsCodedBelow c) (HasHighest f g residue s x 0) (IsCodedBelow next) old between new
      (λ items j. higher c next items (omega (arith, up)) j)
      (λ items j. inr (x, omega (arith, is, up), j))
      either before h k
    where
      either : (items : List (ℕ × F)) → IsCodedBelow next items → IsCodedBelow c items ⊎ HasHighest f g residue s x 0 items
      either items (inl j) = inl (inl j)
      either items (inr (y, low, j)) = elim (dec_lt (y.0 * 32 + rank y.1) c) [
        | yes p ↦ inl (inr (y, p, j))
        | no p ↦ inr (subst (λ (z : ℕ × F). HasHighest f g residue s z 0 items) (same_code y x (omega (arith, p, low, is, up))) j)
      ]

      at_location : (e e' : List (ℕ × F)) (y : ℕ × F) → y.0 ≡ x.0 → rank y.1 < rank x.1 → HasHighest f g residue s y 0 e → HasHighest f g residue s x 0 e' → Earlier e e'
      at_location e e' y here less j l = value_earlier fl rank lowest g residue s x.0 0 y.1 x.1 e e' less (subst (λ i. HasHighest f g residue s (i, y.1) 0 e) here j) l

      before : (e e' : List (ℕ × F)) → IsCodedBelow c e → HasHighest f g residue s x 0 e' → Earlier e e'
      before e e' (inl j) l = lower_earlier fl rank lowest g residue s x.0 0 0 e e' (lower_gathered fl g residue s 0 x.0 0 0 e (omega arith) (omega arith) j) (x.1, l)
      before e e' (inr (y, low, j)) l = elim (dec_lt y.0 x.0) [
        | yes p ↦ lower_earlier fl rank lowest g residue s x.0 1 0 e e' (lower_gathered fl g residue s (suc y.0) x.0 1 1 e (omega (arith, p)) (omega arith) (highest_gathered fl g residue s y 0 e j)) (x.1, l)
        | no p ↦
            let here : y.0 ≡ x.0 = omega (arith, p, low, is, small x.1, small y.1) in
            at_location e e' y here (omega (arith, here, low, is)) j l
      ]

  of_split : (n : ℕ) (items : List (ℕ × F)) → (IsGathered f g residue s n 1 items → IsCodedBelow (n * 32) items)
      → IsGathered f g residue s n 1 items ⊎ HasHighestAt f g residue s n 0 items → IsCodedBelow (suc n * 32) items
  of_split n items lower (inl h) = higher (n * 32) (suc n * 32) items (omega arith) (lower h)
  of_split n items lower (inr (v, h)) = inr ((n, v), omega (arith, small v), h)

  all_numbers : (limit : ℕ) (items : List (ℕ × F)) → IsGathered f g residue s limit 1 items → IsCodedBelow (limit * 32) items
  all_numbers zero items k = inl (none_gathered fl g residue s 1 items k)
  all_numbers (suc n) items k = of_split n items (all_numbers n items) (split fl g residue s n 0 items k)

  below_limit : (limit : ℕ) (items : List (ℕ × F)) → IsCodedBelow (limit * 32) items → IsGathered f g residue s limit 1 items
  below_limit limit items (inl k) = lower_gathered fl g residue s 0 limit 0 1 items (omega arith) (omega arith) k
  below_limit limit items (inr (x, low, k)) = lower_gathered fl g residue s (suc x.0) limit 1 1 items (omega (arith, low)) (omega arith) (highest_gathered fl g residue s x 0 items k)

  -- those below the limit
  pub coded_all : (limit : ℕ) (old new : List (List (ℕ × F))) → AreAdded Earlier (IsCodedBelow (limit * 32)) old new → AreAdded Earlier (IsGathered f g residue s limit 1) old new
  coded_all limit old new h = added_same Earlier (IsCodedBelow (limit * 32)) (IsGathered f g residue s limit 1) old new (below_limit limit) (all_numbers limit) h
