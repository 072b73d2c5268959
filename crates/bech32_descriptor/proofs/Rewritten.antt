-- The word of a text with another byte at one place.
use Rattle.std.specs.Prelude.{◌/◌, ◌%◌, ◌==◌, min, nat_lt, set}
use Rattle.std.specs.Int.Bits.{xor_assoc, xor_zero_r}
use Rattle.std.proofs.Common.{inl, inr, ◌≡◌, ◌<◌, ◌≤◌, ◌+◌, ◌-◌, ◌*◌, ℕ, zero, suc, bit_xor, List, [], ◌∷◌, ◌++◌, length, get_or, take, drop, map, append_assoc, sym, ap, subst, ◌∙◌, arith}
use Rattle.std.proofs.lemmas.Bool.{cases_Bool, cond-true, cond-false, eqb-true, eqb-false, ltb-true, ltb-false}
use Rattle.std.proofs.lemmas.List.{drop-set-add, drop-set-lt, get_or-drop, get_or-map, length-drop, length-map, length-set, length-take-le, map-set, set-append_left, set-get_or, set_split, take-append-drop, take-set-le, take_at}
use Rattle.bech32_gf.specs.Fe32 as fe32
use Rattle.bech32_gf.specs.declared.gf32.Fe32.{Fe32}
use Rattle.bech32_poly.specs.Polynomial.{appended}
use Rattle.bech32_poly.proofs.Appended.{appended-append}
use Rattle.bech32_descriptor.specs.Descriptor.{checksum_in, checksum_symbol, descriptor_payload, polynomial, polynomial_of, symbol, symbols}
use Rattle.bech32_descriptor.specs.Walks.{AreRows, IsReady, behind_group, behind_symbol, change_in, first_at, group_from, payload_change, rows_for, times_power_of_x, word_in}
use Rattle.bech32_descriptor.specs.Words.{IsWordOfSymbols}
use Rattle.bech32_descriptor.proofs.Changes.{changes}
use Rattle.bech32_descriptor.proofs.Sums.{changed_one}
use Rattle.bech32_descriptor.proofs.Words.{word_sum}

-- the parts of a polynomial before and behind one symbol, and before and behind another
regroup : (p front mid behind sums : List Fe32) (x g : Fe32)
    → appended (appended p (front ++ (x ∷ (mid ++ (g ∷ behind))))) sums ≡ appended (x ∷ appended p front) (mid ++ (g ∷ (behind ++ sums)))
regroup p front mid behind sums x g =
    ap (λ (u : List Fe32). appended u sums) (appended-append p front (x ∷ (mid ++ (g ∷ behind))))
    ∙ sym (appended-append (x ∷ appended p front) (mid ++ (g ∷ behind)) sums)
    ∙ ap (appended (x ∷ appended p front)) (append_assoc mid (g ∷ behind) sums)

length-sums : (mid sums : List Fe32) → length sums ≡ 8 → (n : ℕ) → length mid ≡ n → length (mid ++ sums) ≡ 8 + n
length-sums [] sums e n h = omega arith
length-sums (x ∷ mid) sums e zero h = absurd (omega arith)
length-sums (x ∷ mid) sums e (suc n) h = omega (arith, length-sums mid sums e n (omega arith))

module _ (rows : List ℕ) (are : AreRows rows) where
  pub row_word : (power : ℕ) (x : Fe32) → 32 * power + 32 ≤ length rows → IsWordOfSymbols (word_in rows power x) (times_power_of_x power (x ∷ []))
  row_word power x h =
      let k = 32 * power + x.value in
      let value = x.value in
      let small : value < 32 = x.in_field in
      let low : k < length rows = omega arith in
      let q : k / 32 ≡ power = omega arith in
      let r : k % 32 ≡ value = omega arith in
      subst (IsWordOfSymbols (get_or rows k 0)) (λ i. times_power_of_x (q i) (fe32.path (fe32.element k) x r i ∷ [])) (are.each k low)

  -- one coefficient is another
  one_changed : (w power : ℕ) (p behind : List Fe32) (x y : Fe32) → length behind ≡ power → 32 * power + 32 ≤ length rows
      → IsWordOfSymbols w (appended (x ∷ p) behind) → IsWordOfSymbols (bit_xor w (word_in rows power (fe32.add y x))) (appended (y ∷ p) behind)
  one_changed w power p behind x y size fits h =
      let r = word_in rows power (fe32.add y x) in
      subst (IsWordOfSymbols (bit_xor w r)) (changed_one p behind x y)
      (word_sum w r (appended (x ∷ p) behind) (times_power_of_x (length behind) (fe32.add y x ∷ [])) h
      (subst (λ (n : ℕ). IsWordOfSymbols r (times_power_of_x n (fe32.add y x ∷ []))) (sym size) (row_word power (fe32.add y x) fits)))

  fits : (n i : ℕ) → i < n → 32 * (n + 9 + (n + 9) / 3 + 8) ≤ length rows → 32 * (8 + behind_symbol n i) + 32 ≤ length rows
  fits n i h enough =
      let e = min (3 * (i / 3) + 3) n in
      let above : i ≤ e = omega arith in
      let within : e ≤ n = omega arith in
      let most : n - e + (n - e + 2) / 3 + (e - i) ≤ n + (n + 9) / 3 = omega arith in
      omega arith

  payload_word : (w : ℕ) (t sums : List ℕ) (i b : ℕ) → length sums ≡ 8 → i < length t → rows_for (length t + 9) ≤ length rows
      → IsWordOfSymbols w (polynomial t sums) → IsWordOfSymbols (bit_xor w (payload_change rows t i b)) (polynomial (set t i b) sums)
  payload_word w t sums i b eight low enough h =
      let n = length t in
      let ch = changes t i b low in
      let p = fe32.one ∷ [] in
      let cs = map checksum_symbol sums in
      let size : length cs ≡ 8 = length-map sums checksum_symbol ∙ eight in
      let x = symbol (get_or t i 0) in
      let y = symbol b in
      let g = fe32.element (group_from t (first_at i)) in
      let k = fe32.element (group_from (set t i b) (first_at i)) in
      let f = appended p ch.front in
      let behind = ch.behind ++ cs in
      let one = 8 + behind_symbol n i in
      let two = 8 + behind_group n i in
      let one_fits : 32 * one + 32 ≤ length rows = fits n i low enough in
      let two_fits : 32 * two + 32 ≤ length rows = omega arith in
      let one_size : length (ch.mid ++ (g ∷ behind)) ≡ one =
      ap (λ (u : List Fe32). length u) (sym (append_assoc ch.mid (g ∷ ch.behind) cs)) ∙ length-sums (ch.mid ++ (g ∷ ch.behind)) cs size (behind_symbol n i) ch.symbol_is in
      let two_size : length behind ≡ two = length-sums ch.behind cs size (behind_group n i) ch.group_is in
      let from : polynomial t sums ≡ appended (x ∷ f) (ch.mid ++ (g ∷ behind)) =
      ap (λ (u : List Fe32). appended (appended p u) cs) ch.old_is ∙ regroup p ch.front ch.mid ch.behind cs x g in
      let to : polynomial (set t i b) sums ≡ appended (y ∷ f) (ch.mid ++ (k ∷ behind)) =
      ap (λ (u : List Fe32). appended (appended p u) cs) ch.new_is ∙ regroup p ch.front ch.mid ch.behind cs y k in
      let r = word_in rows one (fe32.add y x) in
      let s = word_in rows two (fe32.add k g) in
      let first : IsWordOfSymbols (bit_xor w r) (appended (y ∷ f) (ch.mid ++ (g ∷ behind))) =
      one_changed w one f (ch.mid ++ (g ∷ behind)) x y one_size one_fits (subst (IsWordOfSymbols w) from h) in
      let second : IsWordOfSymbols (bit_xor (bit_xor w r) s) (appended (k ∷ appended (y ∷ f) ch.mid) behind) =
      one_changed (bit_xor w r) two (appended (y ∷ f) ch.mid) behind g k two_size two_fits
      (subst (IsWordOfSymbols (bit_xor w r)) (appended-append (y ∷ f) ch.mid (g ∷ behind)) first) in
      subst (λ (v : ℕ). IsWordOfSymbols v (polynomial (set t i b) sums)) (xor_assoc w r s)
      (subst (IsWordOfSymbols (bit_xor (bit_xor w r) s)) (sym (appended-append (y ∷ f) ch.mid (k ∷ behind)) ∙ sym to) second)

  checksum_word : (w : ℕ) (t sums : List ℕ) (i b : ℕ) → i < length sums → 32 * (length sums - 1 - i) + 32 ≤ length rows
      → IsWordOfSymbols w (polynomial t sums)
      → IsWordOfSymbols (bit_xor w (word_in rows (length sums - 1 - i) (fe32.add (checksum_symbol b) (checksum_symbol (get_or sums i 0))))) (polynomial t (set sums i b))
  checksum_word w t sums i b low room h =
      let p = appended (fe32.one ∷ []) (symbols t) in
      let cs = map checksum_symbol sums in
      let size : length cs ≡ length sums = length-map sums checksum_symbol in
      let inside : i < length cs = omega arith in
      let x = checksum_symbol (get_or sums i 0) in
      let y = checksum_symbol b in
      let behind = drop (suc i) cs in
      let left : length behind ≡ length sums - 1 - i = omega (arith, length-drop (suc i) cs, size) in
      let is_x : get_or cs i fe32.zero ≡ x = get_or-map checksum_symbol sums i 0 fe32.zero low in
      let old : cs ≡ take i cs ++ (x ∷ behind) =
      sym (set-get_or cs i fe32.zero) ∙ set_split cs i (get_or cs i fe32.zero) inside ∙ (λ j. take i cs ++ (is_x j ∷ behind)) in
      let new : map checksum_symbol (set sums i b) ≡ take i cs ++ (y ∷ behind) = map-set checksum_symbol sums i b ∙ set_split cs i y inside in
      let from : appended p cs ≡ appended (x ∷ appended p (take i cs)) behind = ap (appended p) old ∙ appended-append p (take i cs) (x ∷ behind) in
      let to : appended p (map checksum_symbol (set sums i b)) ≡ appended (y ∷ appended p (take i cs)) behind = ap (appended p) new ∙ appended-append p (take i cs) (y ∷ behind) in
      subst (IsWordOfSymbols _) (sym to)
      (one_changed w (length sums - 1 - i) (appended p (take i cs)) behind x y left room (subst (IsWordOfSymbols w) from h))

  -- ---- of a text

  set_front : (n i b : ℕ) (t : List ℕ) → n ≤ length t → i < n → take n (set t i b) ≡ set (take n t) i b
  set_front n i b t within low =
      let size : length (take n t) ≡ n = length-take-le n t within in
      let inside : i < length (take n t) = omega arith in
      ap (λ (u : List ℕ). take n (set u i b)) (sym (take-append-drop n t))
      ∙ ap (take n) (set-append_left (take n t) (drop n t) i b inside)
      ∙ take_at (set (take n t) i b) (drop n t) n (length-set (take n t) i b ∙ size)

  module _ (w : ℕ) (text : List ℕ) (i b : ℕ) (long : 9 ≤ length text) (within : i < length text) (enough : rows_for (length text) ≤ length rows)
      (h : IsWordOfSymbols w (polynomial_of text)) where
    same_length : length (set text i b) ≡ length text
    same_length = length-set text i b

    eight : length (checksum_in text) ≡ 8
    eight = omega (arith, length-drop (length text - 8) text)

    sized : length (descriptor_payload text) ≡ length text - 9
    sized = length-take-le (length text - 9) text (omega arith)

    payload_is : descriptor_payload (set text i b) ≡ take (length text - 9) (set text i b)
    payload_is = ap (λ (n : ℕ). take (n - 9) (set text i b)) same_length

    checksum_is : checksum_in (set text i b) ≡ drop (length text - 8) (set text i b)
    checksum_is = ap (λ (n : ℕ). drop (n - 8) (set text i b)) same_length

    before : i + 9 < length text → IsWordOfSymbols (bit_xor w (payload_change rows (descriptor_payload text) i b)) (polynomial_of (set text i b))
    before low =
        let inside : i < length (descriptor_payload text) = omega (arith, sized) in
        let sum : length (descriptor_payload text) + 9 ≡ length text = omega (arith, sized) in
        let room : rows_for (length (descriptor_payload text) + 9) ≤ length rows = subst (λ (n : ℕ). rows_for n ≤ length rows) (sym sum) enough in
        let to : polynomial (set (descriptor_payload text) i b) (checksum_in text) ≡ polynomial_of (set text i b) =
        (λ j. polynomial (sym (payload_is ∙ set_front (length text - 9) i b text (omega arith) (omega arith)) j) (sym (checksum_is ∙ drop-set-lt (length text - 8) text i b (omega arith)) j)) in
        subst (IsWordOfSymbols _) to (payload_word w (descriptor_payload text) (checksum_in text) i b eight inside room h)

    same_payload : length text ≤ i + 9 → descriptor_payload (set text i b) ≡ descriptor_payload text
    same_payload high = payload_is ∙ take-set-le (length text - 9) text i b (omega arith)

    at_mark : i + 9 ≡ length text → IsWordOfSymbols w (polynomial_of (set text i b))
    at_mark e =
        subst (IsWordOfSymbols w) (λ j. polynomial (sym (same_payload (omega arith)) j) (sym (checksum_is ∙ drop-set-lt (length text - 8) text i b (omega arith)) j)) h

    behind : length text < i + 9 → IsWordOfSymbols (bit_xor w (word_in rows (length text - 1 - i) (fe32.add (checksum_symbol b) (checksum_symbol (get_or text i 0))))) (polynomial_of (set text i b))
    behind high =
        let n = length text - 8 in
        let k = i - n in
        let place : n + k ≡ i = omega arith in
        let inside : k < length (checksum_in text) = omega (arith, eight) in
        let power : length (checksum_in text) - 1 - k ≡ length text - 1 - i = omega (arith, eight) in
        let room : 32 * (length (checksum_in text) - 1 - k) + 32 ≤ length rows = omega (arith, eight) in
        let byte : get_or (checksum_in text) k 0 ≡ get_or text i 0 = get_or-drop n text k 0 ∙ ap (λ (m : ℕ). get_or text m 0) place in
        let new : checksum_in (set text i b) ≡ set (checksum_in text) k b =
        checksum_is ∙ ap (λ (m : ℕ). drop n (set text m b)) (sym place) ∙ drop-set-add n text k b in
        let held = checksum_word w (descriptor_payload text) (checksum_in text) k b inside room h in
        subst (λ (v : ℕ). IsWordOfSymbols v (polynomial_of (set text i b)))
        (λ j. bit_xor w (word_in rows (power j) (fe32.add (checksum_symbol b) (checksum_symbol (byte j)))))
        (subst (IsWordOfSymbols _) (λ j. polynomial (sym (same_payload (omega arith)) j) (sym new j)) held)

    changed_word : IsWordOfSymbols (bit_xor w (change_in rows text i b)) (polynomial_of (set text i b))
    changed_word =
        elim (cases_Bool (nat_lt (i + 9) (length text))) [
          | inl first ↦ subst (λ (v : ℕ). IsWordOfSymbols (bit_xor w v) (polynomial_of (set text i b))) (sym (cond-true _ _ _ first)) (before (ltb-true _ _ first))
          | inr later ↦ elim (cases_Bool (i + 9 == length text)) [
            | inl mark ↦ subst (λ (v : ℕ). IsWordOfSymbols v (polynomial_of (set text i b)))
                (sym (ap (bit_xor w) (cond-false _ _ _ later ∙ cond-true _ _ _ mark) ∙ xor_zero_r w)) (at_mark (eqb-true _ _ mark))
            | inr other ↦ subst (λ (v : ℕ). IsWordOfSymbols (bit_xor w v) (polynomial_of (set text i b))) (sym (cond-false _ _ _ later ∙ cond-false _ _ _ other))
                (let no_less = ltb-false _ _ later in let not_same = eqb-false _ _ other in
                let high : length text < i + 9 = omega (arith, no_less, not_same) in behind high)
          ]
        ]

-- a text with another byte at a place, and its word
pub changed_ready : (rows text : List ℕ) (w i b : ℕ) → IsReady rows text w → i < length text → IsReady rows (set text i b) (bit_xor w (change_in rows text i b))
changed_ready rows text w i b ready low =
    let size : length (set text i b) ≡ length text = length-set text i b in
    record {
      long = omega (arith, size, ready.long);
      few = omega (arith, size, ready.few);
      enough = subst (λ (n : ℕ). rows_for n ≤ length rows) (sym size) ready.enough;
      rows_are = ready.rows_are;
      word_is = changed_word rows ready.rows_are w text i b ready.long low ready.enough ready.word_is;
    }
