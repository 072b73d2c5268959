-- The endless sequence that a register goes on with.
use Rattle.std.proofs.Common.{◌≡◌, ℕ, zero, suc, ◌+◌, ◌<◌, ◌≤◌, ◌-◌, List, [], ◌∷◌, ◌++◌, length, take, sym, ap, ◌∙◌, refl, arith}
use Rattle.std.proofs.lemmas.List.{length-append, get_or_append_left, get_or-append-add, get_or-take, length-take, append-nil}
use Rattle.std.proofs.Math.Decide.{dec_le, dec_lt}
use Rattle.bech32_gf.specs.Field.{Ops}
use Rattle.bech32_poly.specs.Polynomial.{coefficient}
use Rattle.bech32_poly.specs.Register.{back_sum, Generates, GivesAllOf, continued, item_at, from_place}

module _ {F : Type 0} (o : Ops F) where
  -- only the items before the place count
  pub back_sum-cong : (cs : List F) (s s' : ℕ → F) (n : ℕ) → length cs ≤ n → ((k : ℕ) → k < n → s k ≡ s' k) → back_sum o cs s n ≡ back_sum o cs s' n
  back_sum-cong [] s s' n room h = refl
  back_sum-cong (c ∷ cs) s s' n room h =
      let here : s (n - 1) ≡ s' (n - 1) = h (n - 1) (omega arith) in
      let rest : back_sum o cs s (n - 1) ≡ back_sum o cs s' (n - 1) = back_sum-cong cs s s' (n - 1) (omega arith) (λ k within. h k (omega arith)) in
      cc (here, rest)

  -- one place on
  pub back_sum-later : (cs : List F) (s : ℕ → F) (n : ℕ) → length cs ≤ n → back_sum o cs (λ k. s (suc k)) n ≡ back_sum o cs s (suc n)
  back_sum-later [] s n room = refl
  back_sum-later (c ∷ cs) s n room =
      let first : suc (n - 1) ≡ suc n - 1 = omega arith in
      ap (o.add (o.mul c (s (suc (n - 1))))) (back_sum-later cs s (n - 1) (omega arith))
      ∙ ap (λ k. o.add (o.mul c (s k)) (back_sum o cs s k)) first

  pub length-continued : (cs items : List F) (n : ℕ) → length (continued o cs items n) ≡ length items + n
  length-continued cs items zero = omega arith
  length-continued cs items (suc n) =
      let before : List F = continued o cs items n in
      length-append before (o.neg (back_sum o cs (coefficient o before) (length before)) ∷ []) ∙ ap (λ k. k + 1) (length-continued cs items n) ∙ omega arith

  -- what is there stays
  continued-kept : (cs items : List F) (m n i : ℕ) → m ≤ n → i < length items + m → coefficient o (continued o cs items n) i ≡ coefficient o (continued o cs items m) i
  continued-kept cs items m zero i below within = let none : m ≡ 0 = omega arith in rw none
  continued-kept cs items m (suc n) i below within = elim (dec_le m n) [
    | yes p ↦ get_or_append_left (continued o cs items n) _ o.zero i (omega (arith, length-continued cs items n)) ∙ continued-kept cs items m n i p within
    | no p ↦ let all : suc n ≡ m = omega arith in ap (λ k. coefficient o (continued o cs items k) i) all
  ]

  continued-item : (cs items : List F) (m k : ℕ) → k < length items + m → coefficient o (continued o cs items m) k ≡ item_at o cs items k
  continued-item cs items m k within = elim (dec_le m (suc k)) [
    | yes p ↦ sym (continued-kept cs items m (suc k) k p within)
    | no p ↦ continued-kept cs items (suc k) m k (omega arith) (omega arith)
  ]

  -- the sequence begins with the items
  pub item_at-listed : (cs items : List F) (n : ℕ) → n < length items → item_at o cs items n ≡ coefficient o items n
  item_at-listed cs items n within = sym (continued-item cs items 0 n (omega arith))

  -- and goes on by the register
  pub item_at-follows : (cs items : List F) (n : ℕ) → length cs ≤ n → length items ≤ n → item_at o cs items n ≡ o.neg (back_sum o cs (item_at o cs items) n)
  item_at-follows cs items n room behind =
      let m : ℕ = n - length items in
      let before : List F = continued o cs items m in
      let size : length before ≡ n = length-continued cs items m ∙ omega arith in
      let there : n ≡ length before + 0 = omega (arith, size) in
      sym (continued-item cs items (suc m) n (omega arith))
      ∙ ap (coefficient o (continued o cs items (suc m))) there
      ∙ get_or-append-add before (o.neg (back_sum o cs (coefficient o before) (length before)) ∷ []) 0 o.zero
      ∙ ap (λ k. o.neg (back_sum o cs (coefficient o before) k)) size
      ∙ ap o.neg (back_sum-cong cs (coefficient o before) (item_at o cs items) n room (λ k within. continued-item cs items m k (omega arith)))

  -- no other sequence does
  pub item_at-unique : (cs items : List F) (s : ℕ → F) → length cs ≤ length items
      → ((n : ℕ) → n < length items → s n ≡ coefficient o items n)
      → ((n : ℕ) → length items ≤ n → s n ≡ o.neg (back_sum o cs s n))
      → (n : ℕ) → s n ≡ item_at o cs items n
  item_at-unique cs items s room listed follows n = below (suc n) n (omega arith)
    where
      below : (b n : ℕ) → n < b → s n ≡ item_at o cs items n
      below zero n within = absurd (omega arith)
      below (suc b) n within = elim (dec_lt n (length items)) [
        | yes p ↦ listed n p ∙ sym (item_at-listed cs items n p)
        | no p ↦ follows n (omega arith)
            ∙ ap o.neg (back_sum-cong cs s (item_at o cs items) n (omega arith) (λ k less. below b k (omega arith)))
            ∙ sym (item_at-follows cs items n (omega arith) (omega arith))
      ]

  -- a register goes on from its first items as from all that it generates
  pub item_at-first : (cs items : List F) → Generates o cs items → (n : ℕ) → item_at o cs (take (length cs) items) n ≡ item_at o cs items n
  item_at-first cs items h n = sym (item_at-unique cs (take (length cs) items) (item_at o cs items) (omega (arith, size)) listed follows n)
    where
      size : length (take (length cs) items) ≡ length cs
      size = length-take (length cs) items ∙ omega (arith, h.fits)

      listed : (n : ℕ) → n < length (take (length cs) items) → item_at o cs items n ≡ coefficient o (take (length cs) items) n
      listed n within = item_at-listed cs items n (omega (arith, size, h.fits)) ∙ sym (get_or-take (length cs) items n o.zero (omega (arith, size)))

      follows : (n : ℕ) → length (take (length cs) items) ≤ n → item_at o cs items n ≡ o.neg (back_sum o cs (item_at o cs items) n)
      follows n behind = elim (dec_lt n (length items)) [
        | yes p ↦ item_at-listed cs items n p ∙ h.follows n (omega (arith, size)) p
            ∙ ap o.neg (back_sum-cong cs (coefficient o items) (item_at o cs items) n (omega (arith, size)) (λ k less. sym (item_at-listed cs items k (omega arith))))
        | no p ↦ item_at-follows cs items n (omega (arith, size)) (omega arith)
      ]

  -- a ring that begins at its first place gives all of the items
  pub goes_on : (cs items ring : List F) → Generates o cs items → ring ≡ take (length cs) items → GivesAllOf o items (record { coefficients = cs; coming = from_place 0 ring })
  goes_on cs items ring h is = record {
    begins = λ n within. same n ∙ item_at-listed cs items n within;
    follows = λ n behind.
        same n ∙ item_at-follows cs items n (omega (arith, h.fits)) behind
        ∙ ap o.neg (back_sum-cong cs (item_at o cs items) (item_at o cs (from_place 0 ring)) n (omega (arith, h.fits)) (λ k less. sym (same k)));
  }
    where
      same : (n : ℕ) → item_at o cs (from_place 0 ring) n ≡ item_at o cs items n
      same n = ap (λ u. item_at o cs u n) (append-nil ring ∙ is) ∙ item_at-first cs items h n

  -- without its first item, where the next one by the register comes behind
  pub item_at-moved : (cs rest : List F) (first : F) → length cs ≡ suc (length rest)
      → (n : ℕ) → item_at o cs (rest ++ (o.neg (back_sum o cs (coefficient o (first ∷ rest)) (length cs)) ∷ [])) n ≡ item_at o cs (first ∷ rest) (suc n)
  item_at-moved cs rest first same n = sym (item_at-unique cs moved (λ k. item_at o cs (first ∷ rest) (suc k)) (omega (arith, size)) listed follows n)
    where
      next : F
      next = o.neg (back_sum o cs (coefficient o (first ∷ rest)) (length cs))

      moved : List F
      moved = rest ++ (next ∷ [])

      size : length moved ≡ length cs
      size = length-append rest (next ∷ []) ∙ omega arith

      listed : (n : ℕ) → n < length moved → item_at o cs (first ∷ rest) (suc n) ≡ coefficient o moved n
      listed n within = elim (dec_lt n (length rest)) [
        | yes p ↦ item_at-listed cs (first ∷ rest) (suc n) (omega arith) ∙ sym (get_or_append_left rest (next ∷ []) o.zero n p)
        | no p ↦ last p
      ]
        where
          last : (n < length rest → ⊥) → item_at o cs (first ∷ rest) (suc n) ≡ coefficient o moved n
          last p =
              let there : n ≡ length rest + 0 = omega (arith, size) in
              let at : suc n ≡ length cs = omega arith in
              ap (item_at o cs (first ∷ rest)) at
              ∙ item_at-follows cs (first ∷ rest) (length cs) (omega arith) (omega arith)
              ∙ ap o.neg (back_sum-cong cs (item_at o cs (first ∷ rest)) (coefficient o (first ∷ rest)) (length cs) (omega arith) (λ k less. item_at-listed cs (first ∷ rest) k (omega arith)))
              ∙ sym (get_or-append-add rest (next ∷ []) 0 o.zero)
              ∙ ap (coefficient o moved) (sym there)

      follows : (n : ℕ) → length moved ≤ n → item_at o cs (first ∷ rest) (suc n) ≡ o.neg (back_sum o cs (λ k. item_at o cs (first ∷ rest) (suc k)) n)
      follows n behind =
          item_at-follows cs (first ∷ rest) (suc n) (omega (arith, size)) (omega (arith, size))
          ∙ ap o.neg (sym (back_sum-later cs (item_at o cs (first ∷ rest)) n (omega (arith, size))))
