use Rattle.std.proofs.Common.{◌≡◌, ◌+◌, ◌≤◌, ◌∙◌, ◌++◌, ℕ, List, [], ◌∷◌, true, length, map, take, drop, get_or, refl, ap, subst, arith}
use Rattle.std.proofs.lemmas.Bool.{and_parts}
use Rattle.bech32_checksum.specs.Encoded.{char_of_element}
use Rattle.bech32_gf.specs.Alphabet.{is_data, is_of_alphabet}
use Rattle.bech32_gf.specs.Fe32.{element_of, elements_of}
use Rattle.bech32_gf.specs.declared.gf32.Fe32.{Fe32}
use Rattle.codex32.specs.HeaderParts.{header_elements_of}
use Rattle.codex32.specs.Share.{characters_of_share}
use Rattle.codex32.specs.declared.header.Header.{Header as Head}
use Rattle.codex32.specs.declared.share.Share.{Share}
use Rattle.codex32.proofs.Digits.{digit_is}
use Rattle.codex32.proofs.ShareParts.{fits}
use Rattle.codex32_small.proofs.share.told_of.Goals as goal

record AreFirst (given : List ℕ) (h : Head) : Type 0 where
  digit : get_or given 0 0 ≡ 48 + h.threshold.number
  identifier : element_of (get_or given 1 0) ∷ element_of (get_or given 2 0) ∷ element_of (get_or given 3 0) ∷ element_of (get_or given 4 0) ∷ [] ≡ h.identifier.elements
  index : element_of (get_or given 5 0) ≡ h.share_index

four : (es : List Fe32) (a b c d x y : Fe32) → length es ≡ 4 → a ∷ b ∷ c ∷ d ∷ x ∷ [] ≡ es ++ (y ∷ []) → (a ∷ b ∷ c ∷ d ∷ [] ≡ es) × (x ≡ y)
four (e ∷ f ∷ g ∷ h ∷ []) a b c d x y size is = (ap (take 4) is, ap (λ (l : List Fe32). get_or l 4 x) is)
four [] a b c d x y size is = absurd (omega (arith, size))
four (e ∷ []) a b c d x y size is = absurd (omega (arith, size))
four (e ∷ f ∷ []) a b c d x y size is = absurd (omega (arith, size))
four (e ∷ f ∷ g ∷ []) a b c d x y size is = absurd (omega (arith, size))
four (e ∷ f ∷ g ∷ h ∷ i ∷ es) a b c d x y size is = absurd (omega (arith, size))

first : (given : List ℕ) (h : Head) → 6 ≤ length given → is_data given ≡ true → elements_of (take 6 given) ≡ header_elements_of h.threshold h.identifier h.share_index → AreFirst given h
first (t ∷ a ∷ b ∷ c ∷ d ∷ x ∷ rest) h long letters are =
    let behind = four h.identifier.elements (element_of a) (element_of b) (element_of c) (element_of d) (element_of x) h.share_index h.identifier.full
    (ap (λ (l : List Fe32). drop 1 l) are) in
    record {
      digit = digit_is t h.threshold.number (and_parts (is_of_alphabet t) (is_data (a ∷ b ∷ c ∷ d ∷ x ∷ rest)) letters).0 h.threshold.lawful (ap (λ (l : List Fe32). get_or l 0 (element_of t)) are);
      identifier = behind.0;
      index = behind.1;
    }
first [] h long letters are = absurd (omega (arith, long))
first (t ∷ []) h long letters are = absurd (omega (arith, long))
first (t ∷ a ∷ []) h long letters are = absurd (omega (arith, long))
first (t ∷ a ∷ b ∷ []) h long letters are = absurd (omega (arith, long))
first (t ∷ a ∷ b ∷ c ∷ []) h long letters are = absurd (omega (arith, long))
first (t ∷ a ∷ b ∷ c ∷ d ∷ []) h long letters are = absurd (omega (arith, long))

of_share : (given : List ℕ) (s : Share) → characters_of_share s ≡ given → AreFirst given s.header
of_share given s same =
    let long = fits (3 + length s.data_part.now) s.within in
    subst (λ (l : List ℕ). AreFirst l s.header) same
    (first s.data_part.now s.header (omega (arith, long.least)) s.of_alphabet s.header_is)

pub overflow_sub-data_part : goal.overflow_sub-data_part
overflow_sub-data_part c = let is = of_share c.args.data_part.now c.requires.0 c.requires.1 in omega (arith, is.digit)

row : (a b c d w x y z : ℕ) → a ≡ char_of_element (element_of w) → b ≡ char_of_element (element_of x) → c ≡ char_of_element (element_of y) → d ≡ char_of_element (element_of z)
    → a ∷ b ∷ c ∷ d ∷ [] ≡ map char_of_element (element_of w ∷ element_of x ∷ element_of y ∷ element_of z ∷ [])
row a b c d w x y z ha hb hc hd = rw (ha, hb, hc, hd) refl

pub returns-clause-told : goal.returns-clause-told
returns-clause-told c = λ s same.
    let given = c.args.data_part.now in
    let is = of_share given s same in
    record {
      threshold_is = c.from.ensures ∙ omega (arith, is.digit);
      identifier_is =
          row c.in_lower_case.result c.in_lower_case-2.result c.in_lower_case-3.result c.in_lower_case-4.result (get_or given 1 0) (get_or given 2 0) (get_or given 3 0) (get_or given 4 0)
          c.in_lower_case.ensures c.in_lower_case-2.ensures c.in_lower_case-3.ensures c.in_lower_case-4.ensures
          ∙ ap (map char_of_element) is.identifier;
      share_index_is = c.from-2.ensures ∙ c.in_lower_case-5.ensures ∙ ap char_of_element is.index;
    }
