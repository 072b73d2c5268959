use Rattle.std.proofs.Common.{◌≡◌, ◌+◌, ◌∙◌, ◌++◌, ◌∷◌, [], ℕ, List, length, map, get_or, true, refl, sym, ap, arith}
use Rattle.bech32_checksum.specs.Encoded.{char_of_element}
use Rattle.bech32_gf.specs.Fe32.{element_of}
use Rattle.bech32_gf.specs.declared.gf32.Fe32.{Fe32}
use Rattle.codex32.specs.Thresholds.{is_threshold_number}
use Rattle.codex32.proofs.Digits.{char-value, digit_of_alphabet, low_same, number-most}
use Rattle.codex32_small.proofs.encode.put_header.Goals as goal

digit : (n : ℕ) → is_threshold_number n ≡ true → 48 + n ≡ char_of_element (element_of (48 + n))
digit n h = sym (char-value (48 + n) (digit_of_alphabet n h) ∙ low_same (48 + n) (omega (arith, number-most n h)))

row : (es : List Fe32) (x p q r s : Fe32) (a b c d : ℕ) → length es ≡ 4 → a ≡ char_of_element (get_or es 0 p) → b ≡ char_of_element (get_or es 1 q)
    → c ≡ char_of_element (get_or es 2 r) → d ≡ char_of_element (get_or es 3 s) → a ∷ b ∷ c ∷ d ∷ char_of_element x ∷ [] ≡ map char_of_element (es ++ (x ∷ []))
row (e ∷ f ∷ g ∷ h ∷ []) x p q r s a b c d size ha hb hc hd = rw (ha, hb, hc, hd) refl
row [] x p q r s a b c d size ha hb hc hd = absurd (omega (arith, size))
row (e ∷ []) x p q r s a b c d size ha hb hc hd = absurd (omega (arith, size))
row (e ∷ f ∷ []) x p q r s a b c d size ha hb hc hd = absurd (omega (arith, size))
row (e ∷ f ∷ g ∷ []) x p q r s a b c d size ha hb hc hd = absurd (omega (arith, size))
row (e ∷ f ∷ g ∷ h ∷ i ∷ es) x p q r s a b c d size ha hb hc hd = absurd (omega (arith, size))

pub returns : goal.returns
returns c =
    let h = c.args.header.now in
    let es : List Fe32 = c.elements.result in
    let n : ℕ = h.threshold.number in
    let a : ℕ = c.character_of.result in
    let b : ℕ = c.character_of-2.result in
    let d : ℕ = c.character_of-3.result in
    let e : ℕ = c.character_of-4.result in
    let are : es ≡ h.identifier.elements = c.elements.ensures ∙ ap (λ i. i.elements) c.identifier.ensures in
    let number : c.number.result ≡ n = c.number.ensures ∙ ap (λ t. t.number) c.threshold.ensures in
    let last : c.character_of-5.result ≡ char_of_element h.share_index = c.character_of-5.ensures ∙ ap char_of_element c.share_index.ensures in
    let size : length es ≡ 4 = ap length are ∙ h.identifier.full in
    let behind = row es h.share_index _ _ _ _ a b d e size c.character_of.ensures c.character_of-2.ensures c.character_of-3.ensures c.character_of-4.ensures in
    c.copy_from_slice.ensures.after
    ∙ ap (λ (k : ℕ). 109 ∷ 115 ∷ 49 ∷ (48 + k) ∷ a ∷ b ∷ d ∷ e ∷ c.character_of-5.result ∷ []) number
    ∙ ap (λ (k : ℕ). 109 ∷ 115 ∷ 49 ∷ k ∷ a ∷ b ∷ d ∷ e ∷ c.character_of-5.result ∷ []) (digit n h.threshold.lawful)
    ∙ ap (λ (y : ℕ). 109 ∷ 115 ∷ 49 ∷ char_of_element (element_of (48 + n)) ∷ a ∷ b ∷ d ∷ e ∷ y ∷ []) last
    ∙ ap (λ (l : List ℕ). 109 ∷ 115 ∷ 49 ∷ char_of_element (element_of (48 + n)) ∷ l) behind
    ∙ ap (λ (l : List Fe32). 109 ∷ 115 ∷ 49 ∷ char_of_element (element_of (48 + n)) ∷ map char_of_element (l ++ (h.share_index ∷ []))) are
