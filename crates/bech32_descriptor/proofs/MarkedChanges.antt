-- What a byte at a place adds is a sum of two words that are marked, or one word that is.
use Rattle.std.specs.Prelude.{◌==◌, bit_xor, false, nat_lt, slice_set, true}
use Rattle.std.specs.Int.Bits.{xor_self}
use Rattle.std.proofs.Common.{◌≡◌, ◌<◌, ◌≤◌, ◌+◌, ◌-◌, ◌*◌, ◌/◌, ℕ, List, get_or, length, take, drop, min, inl, inr, sym, ap, subst, ◌∙◌, arith}
use Rattle.std.proofs.lemmas.Bool.{cases_Bool, cond-false, cond-true, ltb-false, ltb-true}
use Rattle.std.proofs.lemmas.List.{get_or-drop, get_or-take, length-take-le}
use Rattle.bech32_gf.specs.Fe32 as fe32
use Rattle.bech32_descriptor.specs.Descriptor.{checksum_symbol, descriptor_payload, symbol}
use Rattle.bech32_descriptor.specs.Marks.{IsMarked}
use Rattle.bech32_descriptor.specs.PairWalks.{MarksChanges, group_power, symbol_power}
use Rattle.bech32_descriptor.specs.Walks.{behind_group, behind_symbol, first_at, group_from, payload_change, rows_for, word_in}

module _ (rows cells : List ℕ) (n i p q : ℕ) (long : 9 ≤ n) (p_is : p ≡ symbol_power n i) (q_is : q ≡ group_power n i)
    (sums : (x y : ℕ) → x < 32 → y < 32 → IsMarked cells (bit_xor (get_or rows (32 * p + x) 0) (get_or rows (32 * q + y) 0)))
    (alone : (x : ℕ) → x < 32 → IsMarked cells (get_or rows (32 * p + x) 0)) where
  module _ (text : List ℕ) (b : ℕ) (size : length text ≡ n) where
    before : nat_lt (i + 9) (length text) ≡ true → IsMarked cells (payload_change rows (descriptor_payload text) i b)
    before low =
        let t = descriptor_payload text in
        let sized : n - 9 ≡ length t = sym (length-take-le (length text - 9) text (omega arith) ∙ ap (λ (m : ℕ). m - 9) size) in
        let here : nat_lt (i + 9) n ≡ true = ap (λ (m : ℕ). nat_lt (i + 9) m) (sym size) ∙ low in
        let p_at : p ≡ 8 + behind_symbol (length t) i = p_is ∙ cond-true _ _ _ here ∙ ap (λ (m : ℕ). 8 + behind_symbol m i) sized in
        let q_at : q ≡ 8 + behind_group (length t) i = q_is ∙ cond-true _ _ _ here ∙ ap (λ (m : ℕ). 8 + behind_group m i) sized in
        let x = fe32.add (symbol b) (symbol (get_or t i 0)) in
        let y = fe32.add (fe32.element (group_from (slice_set t i b) (first_at i))) (fe32.element (group_from t (first_at i))) in
        subst (IsMarked cells) (λ j. bit_xor (word_in rows (p_at j) x) (word_in rows (q_at j) y)) (sums x.value y.value x.in_field y.in_field)

    behind_at : nat_lt (i + 9) (length text) ≡ false → (p ≡ n - 1 - i) × (q ≡ n - 1 - i)
    behind_at high =
        let here : nat_lt (i + 9) n ≡ false = ap (λ (m : ℕ). nat_lt (i + 9) m) (sym size) ∙ high in
        (p_is ∙ cond-false _ _ _ here, q_is ∙ cond-false _ _ _ here)

    at_mark : nat_lt (i + 9) (length text) ≡ false → IsMarked cells 0
    at_mark high =
        let (p_at, q_at) = behind_at high in
        let none : 0 < 32 = omega arith in
        let w = get_or rows (32 * p + 0) 0 in
        subst (IsMarked cells) (ap (λ (m : ℕ). bit_xor w (get_or rows (32 * m + 0) 0)) (q_at ∙ sym p_at) ∙ xor_self w) (sums 0 0 none none)

    behind : nat_lt (i + 9) (length text) ≡ false
        → IsMarked cells (word_in rows (length text - 1 - i) (fe32.add (checksum_symbol b) (checksum_symbol (get_or text i 0))))
    behind high =
        let x = fe32.add (checksum_symbol b) (checksum_symbol (get_or text i 0)) in
        subst (IsMarked cells) (ap (λ (m : ℕ). word_in rows m x) ((behind_at high).0 ∙ ap (λ (m : ℕ). m - 1 - i) (sym size))) (alone x.value x.in_field)

  pub marks_changes : MarksChanges cells rows n i
  marks_changes text b size =
      elim (cases_Bool (nat_lt (i + 9) (length text))) [
        | inl first ↦ subst (IsMarked cells) (sym (cond-true _ _ _ first)) (before text b size first)
        | inr later ↦ elim (cases_Bool (i + 9 == length text)) [
          | inl mark ↦ subst (IsMarked cells) (sym (cond-false _ _ _ later ∙ cond-true _ _ _ mark)) (at_mark text b size later)
          | inr other ↦ subst (IsMarked cells) (sym (cond-false _ _ _ later ∙ cond-false _ _ _ other)) (behind text b size later)
        ]
      ]

-- the words of both powers are among the rows
pub powers_fit : (n i : ℕ) → 9 ≤ n → i < n → (32 * symbol_power n i + 32 ≤ rows_for n) × (32 * group_power n i + 32 ≤ rows_for n)
powers_fit n i long low =
    elim (cases_Bool (nat_lt (i + 9) n)) [
      | inl first ↦
          (let before : i + 9 < n = ltb-true _ _ first in
          let m = n - 9 in
          let e = min (3 * (i / 3) + 3) m in
          let above : i ≤ e = omega arith in
          let within : e ≤ m = omega arith in
          let most : m - e + (m - e + 2) / 3 + (e - i) ≤ m + (m + 9) / 3 = omega arith in
          let all : m + 9 ≡ n = omega arith in
          let symbol : 32 * (8 + behind_symbol m i) + 32 ≤ rows_for n = omega arith in
          let group : 32 * (8 + behind_group m i) + 32 ≤ rows_for n = omega arith in
          (subst (λ (q : ℕ). 32 * q + 32 ≤ rows_for n) (sym (cond-true _ _ _ first)) symbol, subst (λ (q : ℕ). 32 * q + 32 ≤ rows_for n) (sym (cond-true _ _ _ first)) group))
      | inr later ↦
          (let behind : n ≤ i + 9 = ltb-false _ _ later in
          let fits : 32 * (n - 1 - i) + 32 ≤ rows_for n = omega arith in
          (subst (λ (q : ℕ). 32 * q + 32 ≤ rows_for n) (sym (cond-false _ _ _ later)) fits, subst (λ (q : ℕ). 32 * q + 32 ≤ rows_for n) (sym (cond-false _ _ _ later)) fits))
    ]

-- the words of one power
pub slice_at : (rows : List ℕ) (k y : ℕ) → y < 32 → get_or (take 32 (drop k rows)) y 0 ≡ get_or rows (k + y) 0
slice_at rows k y low = get_or-take 32 (drop k rows) y 0 low ∙ get_or-drop k rows y 0
