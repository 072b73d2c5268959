-- The checksum accepts the mended text.
use Rattle.std.specs.List.{AllByRecursion}
use Rattle.std.specs.Char.{to_ascii_lowercase}
use Rattle.std.proofs.Common.{◌≡◌, ℕ, ◌+◌, ◌<◌, ◌≤◌, ◌/◌, List, [], ◌∷◌, ◌++◌, map, length, length-append, subst, sym, ap, ◌∙◌, arith}
use Rattle.std.proofs.lemmas.List.{length-map}
use Rattle.bech32_gf.specs.Fe32 as fe32
use Rattle.bech32_gf.specs.Fe32.{elements_of, element_of, ops}
use Rattle.bech32_gf.specs.declared.gf32.Fe32.{Fe32}
use Rattle.bech32_gf.specs.laws.Fe32Laws.{is_field}
use Rattle.bech32_gf.specs.laws.FieldLaws.{zero_add}
use Rattle.bech32_poly.specs.Pattern.{pattern_polynomial}
use Rattle.bech32_poly.specs.Polynomial.{IsSamePolynomial, add, appended, coefficient}
use Rattle.bech32_poly.specs.Remainder.{IsRemainder}
use Rattle.bech32_poly.proofs.Appended.{appended-append}
use Rattle.bech32_poly.proofs.Lists.{coefficient-add}
use Rattle.bech32_hrp.specs.Hrp.{lowered}
use Rattle.bech32_hrp.proofs.Lowered.{lowered-lowered}
use Rattle.bech32_checksum.specs.Code.{Code}
use Rattle.bech32_checksum.specs.Encoded.{char_of_element, spelled}
use Rattle.bech32_checksum.specs.TextPolynomial.{hrp_elements, text_polynomial}
use Rattle.bech32_bch.specs.Pattern.{Mends}
use Rattle.bech32_decode.specs.Acceptance.{IsAccepted}
use Rattle.bech32_decode.specs.Text.{IsText}
use Rattle.bech32_decode.proofs.Spelling.{characters-elements, lower_text, spelled-text}
use Rattle.bech32_correction.specs.Mistyped.{HasResidue}
use Rattle.bech32_correction.specs.MendedElements.{mended}
use Rattle.bech32_correction.proofs.Sums.{IsRemainder-same, appended-mended, length-mended}

-- an element added twice is nothing
twice : (a b : Fe32) → fe32.add a (fe32.add b a) ≡ b
twice a b =
    ap (fe32.add a) (is_field.add_comm b a) ∙ sym (is_field.add_assoc a a b) ∙ ap (λ (x : Fe32). fe32.add x b) (is_field.add_neg a)
    ∙ zero_add is_field b

-- the text's remainder is the target and the residue
residue_back : (target remainder residue : List Fe32) → IsSamePolynomial ops residue (add ops remainder target) → IsSamePolynomial ops remainder (add ops target residue)
residue_back target remainder residue h i =
    sym (coefficient-add is_field target residue i
    ∙ ap (fe32.add (coefficient ops target i)) (h i ∙ coefficient-add is_field remainder target i)
    ∙ twice (coefficient ops target i) (coefficient ops remainder i))

-- a text's polynomial in parts
abbrev pub front : List ℕ → List Fe32
front low = appended (fe32.one ∷ []) (map (λ b. fe32.element (b / 32)) low ++ (fe32.zero ∷ map fe32.element low))

pub in_parts : (hrp : List ℕ) (xs : List Fe32) → text_polynomial hrp xs ≡ appended (front (lowered hrp)) xs
in_parts hrp xs = appended-append (fe32.one ∷ []) (hrp_elements hrp) xs

pub lowered_parts : (hrp : List ℕ) (xs : List Fe32) → text_polynomial (lowered hrp) xs ≡ appended (front (lowered hrp)) xs
lowered_parts hrp xs = in_parts (lowered hrp) xs ∙ ap (λ (low : List ℕ). appended (front low) xs) (lowered-lowered hrp)

-- the lower case has the same length
pub length-lowered_text : (text hrp data_part : List ℕ) → IsText text hrp data_part → length (spelled hrp (elements_of data_part)) ≡ length text
length-lowered_text text hrp data_part is = sym (ap length (lower_text text hrp data_part is)) ∙ length-map text to_ascii_lowercase

length-characters : (listing : List (ℕ × Fe32)) (data_part : List ℕ) → length (map char_of_element (mended ops listing (elements_of data_part))) ≡ length data_part
length-characters listing data_part =
    length-map (mended ops listing (elements_of data_part)) char_of_element ∙ length-mended ops listing (elements_of data_part) ∙ length-map data_part element_of

module _ (code : Code) (text hrp data_part : List ℕ) (residue : List Fe32) (listing : List (ℕ × Fe32)) (is : HasResidue code text hrp data_part residue)
    (inside : AllByRecursion (λ (p : ℕ × Fe32). p.0 < length data_part) listing) (mends : Mends ops code.generator code.target residue listing) where
  inside_elements : AllByRecursion (λ (p : ℕ × Fe32). p.0 < length (elements_of data_part)) listing
  inside_elements = subst (λ (n : ℕ). AllByRecursion (λ (p : ℕ × Fe32). p.0 < n) listing) (sym (length-map data_part element_of)) inside

  -- the mended elements have the target as remainder
  leaves : IsRemainder ops code.generator (appended (front (lowered hrp)) (mended ops listing (elements_of data_part))) code.target
  leaves =
      IsRemainder-same code.generator (add ops (appended (front (lowered hrp)) (elements_of data_part)) (pattern_polynomial ops listing))
      (appended (front (lowered hrp)) (mended ops listing (elements_of data_part))) code.target
      (appended-mended is_field listing (front (lowered hrp)) (elements_of data_part) inside_elements)
      (mends (appended (front (lowered hrp)) (elements_of data_part)) is.remainder
      (subst (λ (p : List Fe32). IsRemainder ops code.generator p is.remainder) (in_parts hrp (elements_of data_part)) is.is_remainder)
      (residue_back code.target is.remainder residue is.residue_is))

  same_length : length (spelled hrp (mended ops listing (elements_of data_part))) ≡ length text
  same_length =
      let whole : length text ≡ length hrp + length (49 ∷ data_part) = ap length is.grammar.split ∙ length-append hrp (49 ∷ data_part) in
      let part : length (lowered hrp) ≡ length hrp = length-map hrp to_ascii_lowercase in
      let characters : length (map char_of_element (mended ops listing (elements_of data_part))) ≡ length data_part = length-characters listing data_part in
      let both : length (spelled hrp (mended ops listing (elements_of data_part))) ≡ length (lowered hrp) + length (49 ∷ map char_of_element (mended ops listing (elements_of data_part))) =
      length-append (lowered hrp) (49 ∷ map char_of_element (mended ops listing (elements_of data_part))) in
      omega arith

  pub mended_accepted : IsAccepted code (spelled hrp (mended ops listing (elements_of data_part))) (lowered hrp) (map char_of_element (mended ops listing (elements_of data_part)))
  mended_accepted =
      let fits : length text ≤ code.code_length = is.text_length in
      let room : length code.generator ≤ length data_part = is.data_length in
      let same : length (spelled hrp (mended ops listing (elements_of data_part))) ≡ length text = same_length in
      let characters : length (map char_of_element (mended ops listing (elements_of data_part))) ≡ length data_part = length-characters listing data_part in
      record {
        grammar = spelled-text hrp (mended ops listing (elements_of data_part)) is.grammar.is_hrp;
        text_length = omega arith;
        data_length = omega arith;
        has_target = subst (λ (p : List Fe32). IsRemainder ops code.generator p code.target)
            (sym (ap (text_polynomial (lowered hrp)) (characters-elements (mended ops listing (elements_of data_part))) ∙ lowered_parts hrp (mended ops listing (elements_of data_part)))) leaves;
      }
