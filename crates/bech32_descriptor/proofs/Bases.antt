-- What the number of the groups adds depends on the group of the byte alone.
use Rattle.std.specs.Prelude.{◌==◌, nat_lt, set}
use Rattle.std.proofs.Common.{◌≡◌, ◌⊎◌, ◌<◌, ◌≤◌, ◌+◌, ◌-◌, ◌/◌, ℕ, suc, true, bit_xor, List, [], ◌∷◌, get_or, length, inl, inr, sym, ap, ◌∙◌, arith}
use Rattle.std.proofs.lemmas.Bool.{cases_eq, cond-true, cond_both, lt-ltb}
use Rattle.std.proofs.lemmas.List.{get_or-set_other, get_or-set_same, get_or-take, length-set, length-take-le, set-get_or}
use Rattle.bech32_gf.specs.Fe32 as fe32
use Rattle.bech32_gf.specs.declared.gf32.Fe32.{Fe32}
use Rattle.bech32_descriptor.specs.Descriptor.{descriptor_characters, descriptor_payload, group, place_among, place_of}
use Rattle.bech32_descriptor.specs.PairWalks.{AreBases, group_power, symbol_power}
use Rattle.bech32_descriptor.specs.Walks.{behind_group, behind_symbol, change_in, first_at, group_from, group_number, word_in}

among_few : (cs : List ℕ) (b : ℕ) → place_among cs b ≤ length cs
among_few [] b = omega arith
among_few (c ∷ cs) b = cond_both (b == c) 0 (suc (place_among cs b)) (λ n. n ≤ length (c ∷ cs)) (λ e. omega arith) (λ e. omega (arith, among_few cs b))

three_groups : (b : ℕ) → (group b ≡ 0) ⊎ ((group b ≡ 1) ⊎ (group b ≡ 2))
unfolding place_of
three_groups b =
    let few = among_few descriptor_characters b in
    let low : group b < 3 = omega (arith, few) in
    elim (cases_eq (group b) 0) [
      | inl none ↦ inl none
      | inr some ↦ elim (cases_eq (group b) 1) [ inl one ↦ inr (inl one) | inr more ↦ inr (inr (last (group b) low some more)) ]
    ]
  where
    last : (n : ℕ) → n < 3 → (n ≡ 0 → ⊥) → (n ≡ 1 → ⊥) → n ≡ 2
    last n low a b = omega (arith, low, a, b)

module _ (t : List ℕ) (i b d : ℕ) (low : i < length t) (same : group b ≡ group d) where
  same_at : (k : ℕ) → group (get_or (set t i b) k 0) ≡ group (get_or (set t i d) k 0)
  same_at k =
      elim (cases_eq k i) [
        | inl here ↦
            (let one : get_or (set t i b) k 0 ≡ b = ap (λ (m : ℕ). get_or (set t i b) m 0) here ∙ get_or-set_same t i b 0 low in
            let two : get_or (set t i d) k 0 ≡ d = ap (λ (m : ℕ). get_or (set t i d) m 0) here ∙ get_or-set_same t i d 0 low in
            ap group one ∙ same ∙ ap group (sym two))
        | inr apart ↦ ap group (get_or-set_other t i k b 0 apart ∙ sym (get_or-set_other t i k d 0 apart))
      ]

  same_groups : (start : ℕ) → group_from (set t i b) start ≡ group_from (set t i d) start
  same_groups start =
      let size : length (set t i b) ≡ length (set t i d) = length-set t i b ∙ sym (length-set t i d) in
      λ j. group_number (size j - start) (same_at start j) (same_at (start + 1) j) (same_at (start + 2) j)

-- three words serve for all bytes
by_groups : (t rows : List ℕ) (i power start u v w b : ℕ) (old : Fe32) → i < length t
    → u ≡ word_in rows power (fe32.add (fe32.element (group_from (set t i 48) start)) old)
    → v ≡ word_in rows power (fe32.add (fe32.element (group_from (set t i 73) start)) old)
    → w ≡ word_in rows power (fe32.add (fe32.element (group_from (set t i 105) start)) old)
    → get_or (u ∷ v ∷ w ∷ []) (group b) 0 ≡ word_in rows power (fe32.add (fe32.element (group_from (set t i b) start)) old)
unfolding place_of
by_groups t rows i power start u v w b old low hu hv hw =
    let word = λ (n : ℕ). word_in rows power (fe32.add (fe32.element n) old) in
    let list = u ∷ v ∷ w ∷ [] in
    elim (three_groups b) [
      | inl e ↦ ap (λ (k : ℕ). get_or list k 0) e ∙ hu ∙ ap word (sym (same_groups t i b 48 low e start))
      | inr (inl e) ↦ ap (λ (k : ℕ). get_or list k 0) e ∙ hv ∙ ap word (sym (same_groups t i b 73 low e start))
      | inr (inr e) ↦ ap (λ (k : ℕ). get_or list k 0) e ∙ hw ∙ ap word (sym (same_groups t i b 105 low e start))
    ]

module _ (rows text : List ℕ) (i power : ℕ) (long : 9 ≤ length text) (low : i + 9 < length text) where
  first : nat_lt (i + 9) (length text) ≡ true
  first = lt-ltb (i + 9) (length text) low

  sized : length (descriptor_payload text) ≡ length text - 9
  sized = length-take-le (length text - 9) text (omega arith)

  inside : i < length (descriptor_payload text)
  inside = omega (arith, sized)

  -- the words of a byte of each group are the bases
  pub are_bases : (u v w : ℕ) → power ≡ group_power (length text) i
      → u ≡ word_in rows power (fe32.add (fe32.element (group_from (set (descriptor_payload text) i 48) (first_at i)))
      (fe32.element (group_from (set (descriptor_payload text) i (get_or (descriptor_payload text) i 0)) (first_at i))))
      → v ≡ word_in rows power (fe32.add (fe32.element (group_from (set (descriptor_payload text) i 73) (first_at i)))
      (fe32.element (group_from (set (descriptor_payload text) i (get_or (descriptor_payload text) i 0)) (first_at i))))
      → w ≡ word_in rows power (fe32.add (fe32.element (group_from (set (descriptor_payload text) i 105) (first_at i)))
      (fe32.element (group_from (set (descriptor_payload text) i (get_or (descriptor_payload text) i 0)) (first_at i))))
      → AreBases rows text i (u ∷ v ∷ w ∷ [])
  are_bases u v w p hu hv hw =
      let t = descriptor_payload text in
      let start = first_at i in
      let same : set t i (get_or t i 0) ≡ t = set-get_or t i 0 in
      let power_is : power ≡ 8 + behind_group (length text - 9) i = p ∙ cond-true _ _ _ first in
      λ b _.
      by_groups t rows i power start u v w b (fe32.element (group_from (set t i (get_or t i 0)) start)) inside hu hv hw
      ∙ (λ j. word_in rows (power_is j) (fe32.add (fe32.element (group_from (set t i b) start)) (fe32.element (group_from (same j) start))))

  -- what a byte adds, by them
  pub changed_by : (bases : List ℕ) (b new old : ℕ) → AreBases rows text i bases → power ≡ symbol_power (length text) i
      → new ≡ place_of b → old ≡ place_of (get_or text i 0)
      → bit_xor (word_in rows power (fe32.add (fe32.element new) (fe32.element old))) (get_or bases (new / 32) 0) ≡ change_in rows text i b
  changed_by bases b new old are p new_is old_is =
      let t = descriptor_payload text in
      let n = length text - 9 in
      let within : i < n = omega arith in
      let groups = fe32.add (fe32.element (group_from (set t i b) (first_at i))) (fe32.element (group_from t (first_at i))) in
      let power_is : power ≡ 8 + behind_symbol (length t) i = p ∙ cond-true _ _ _ first ∙ ap (λ (m : ℕ). 8 + behind_symbol m i) (sym sized) in
      let byte : old ≡ place_of (get_or t i 0) = old_is ∙ ap place_of (sym (get_or-take n text i 0 within)) in
      let base : get_or bases (new / 32) 0 ≡ word_in rows (8 + behind_group (length t) i) groups =
      ap (λ (m : ℕ). get_or bases (m / 32) 0) new_is ∙ are b low ∙ ap (λ (m : ℕ). word_in rows (8 + behind_group m i) groups) (sym sized) in
      (λ j. bit_xor (word_in rows (power_is j) (fe32.add (fe32.element (new_is j)) (fe32.element (byte j)))) (base j))
      ∙ sym (cond-true _ _ _ first)
