-- A human-readable part and elements have one text.
use Rattle.std.proofs.Common.{◌≡◌, ◌<◌, ◌/◌, ◌+◌, ℕ, true, List, [], ◌∷◌, ◌++◌, ◌∙◌, eqb, length, length-append, map, reverse, refl, sym, ap, subst, append_assoc, arith}
use Rattle.std.proofs.lemmas.Bool.{agree_below_at, eqb-true}
use Rattle.std.proofs.lemmas.List.{map-append, length-map, length-reverse}
use Rattle.std.specs.Char.{to_ascii_lowercase, to_ascii_uppercase}
use Rattle.bech32_gf.specs.Alphabet.{char_of}
use Rattle.bech32_gf.specs.Fe32 as fe32
use Rattle.bech32_gf.specs.laws.Fe32Laws.{is_field}
use Rattle.bech32_gf.specs.declared.gf32.Fe32.{Fe32}
use Rattle.bech32_poly.specs.Polynomial.{appended}
use Rattle.bech32_poly.specs.Remainder.{IsRemainder}
use Rattle.bech32_poly.proofs.Appended.{appended-append, checksum_of_target, checksum_unique}
use Rattle.bech32_poly.proofs.Remainder.{remainder_exists}
use Rattle.bech32_poly.specs.Division.{remainder_of}
use Rattle.bech32_checksum.specs.Code.{Code}
use Rattle.bech32_hrp.specs.Hrp.{lowered}
use Rattle.bech32_checksum.specs.TextPolynomial.{hrp_elements, text_polynomial, IsChecksumOf}
use Rattle.bech32_checksum.specs.Encoded.{char_of_element, spelled, IsEncodedText}
use Rattle.bech32_hrp.proofs.Lowered.{lowered-lowered, lowered-raised}

-- the elements of a human-readable part of these lower-cased bytes
abbrev elements-lowered : List ℕ → List Fe32
elements-lowered low = map (λ b. fe32.element (b / 32)) low ++ (fe32.zero ∷ map fe32.element low)

-- what stands before the checksum
abbrev front : List ℕ → List Fe32 → List Fe32
front low fes = appended (fe32.one ∷ []) (elements-lowered low ++ fes)

polynomial-split : (hrp : List ℕ) (fes checksum : List Fe32) → text_polynomial hrp (fes ++ checksum) ≡ appended (front (lowered hrp) fes) checksum
polynomial-split hrp fes checksum =
    ap (appended (fe32.one ∷ [])) (sym (append_assoc (hrp_elements hrp) fes checksum)) ∙ appended-append (fe32.one ∷ []) (hrp_elements hrp ++ fes) checksum

leaves : (code : Code) (hrp : List ℕ) (fes checksum : List Fe32) → IsChecksumOf code hrp fes checksum
    → IsRemainder fe32.ops code.generator (appended (front (lowered hrp) fes) checksum) code.target
leaves code hrp fes checksum is = subst (λ (p : List Fe32). IsRemainder fe32.ops code.generator p code.target) (polynomial-split hrp fes checksum) is.has_target

-- there is one checksum, in whichever case the human-readable part is
one_checksum : (code : Code) (hrp other : List ℕ) (fes xs ys : List Fe32) → lowered hrp ≡ lowered other → IsChecksumOf code hrp fes xs → IsChecksumOf code other fes ys → xs ≡ ys
one_checksum code hrp other fes xs ys same a b =
    checksum_unique is_field code.generator (front (lowered other) fes) xs ys code.target a.size b.size
    (subst (λ (low : List ℕ). IsRemainder fe32.ops code.generator (appended (front low fes) xs) code.target) same (leaves code hrp fes xs a))
    (leaves code other fes ys b)

-- and one text
pub one_text : (code : Code) (hrp other : List ℕ) (fes : List Fe32) (text again : List ℕ) → lowered hrp ≡ lowered other
    → IsEncodedText code hrp fes text → IsEncodedText code other fes again → text ≡ again
one_text code hrp other fes text again same a b =
    a.spelling
    ∙ ap (λ (xs : List Fe32). spelled hrp (fes ++ xs)) (one_checksum code hrp other fes a.checksum b.checksum same a.is_checksum b.is_checksum)
    ∙ ap (λ (low : List ℕ). low ++ (49 ∷ map char_of_element (fes ++ b.checksum))) same
    ∙ sym b.spelling

-- it is the text of the human-readable part in the other case too
pub in_other_case : (code : Code) (hrp other : List ℕ) (fes : List Fe32) (text : List ℕ) → lowered hrp ≡ lowered other
    → IsEncodedText code hrp fes text → IsEncodedText code other fes text
in_other_case code hrp other fes text same a = record {
  checksum = a.checksum;
  is_checksum = record {
    size = a.is_checksum.size;
    has_target = subst (λ (p : List Fe32). IsRemainder fe32.ops code.generator p code.target)
        (ap (λ (low : List ℕ). appended (front low fes) a.checksum) same ∙ sym (polynomial-split other fes a.checksum)) (leaves code hrp fes a.checksum a.is_checksum);
  };
  spelling = a.spelling ∙ ap (λ (low : List ℕ). low ++ (49 ∷ map char_of_element (fes ++ a.checksum))) same;
}

-- there is a text
pub text_exists : (code : Code) (hrp : List ℕ) (fes : List Fe32) → length code.target ≡ length code.generator → (text : List ℕ) × IsEncodedText code hrp fes text
text_exists code hrp fes size =
    let before : List Fe32 = front (lowered hrp) fes in
    let row : List Fe32 = remainder_of fe32.ops code.generator (appended before (reverse code.target)) in
    let held : IsRemainder fe32.ops code.generator (appended before (reverse code.target)) row = remainder_exists is_field code.generator (appended before (reverse code.target)) in (
      spelled hrp (fes ++ reverse row),
      record {
        checksum = reverse row;
        is_checksum = record {
          size = length-reverse row ∙ held.short;
          has_target = subst (λ (p : List Fe32). IsRemainder fe32.ops code.generator p code.target) (sym (polynomial-split hrp fes (reverse row)))
              (checksum_of_target is_field code.generator before code.target row (λ x. refl) size held);
        };
        spelling = refl;
      },
    )

-- how many characters it has
pub length-encoded : (code : Code) (hrp : List ℕ) (fes : List Fe32) (text : List ℕ) → IsEncodedText code hrp fes text
    → length text ≡ length hrp + 1 + length fes + length code.generator
length-encoded code hrp fes text a =
    let all : List Fe32 = fes ++ a.checksum in
    let both : length text ≡ length (lowered hrp) + length (49 ∷ map char_of_element all) = ap length a.spelling ∙ length-append (lowered hrp) (49 ∷ map char_of_element all) in
    let part : length (lowered hrp) ≡ length hrp = length-map hrp to_ascii_lowercase in
    let characters : length (map char_of_element all) ≡ length all = length-map all char_of_element in
    let elements : length all ≡ length fes + length a.checksum = length-append fes a.checksum in
    let degree : length a.checksum ≡ length code.generator = a.is_checksum.size in
    omega arith

-- ---- it is in lower case

lower_character : (v : ℕ) → v < 32 → to_ascii_lowercase (char_of v) ≡ char_of v
lower_character v l =
    eqb-true (to_ascii_lowercase (char_of v)) (char_of v) (agree_below_at (λ v. eqb (to_ascii_lowercase (char_of v)) (char_of v)) (λ _. true) 32 v refl l)

lower_characters : (fes : List Fe32) → lowered (map char_of_element fes) ≡ map char_of_element fes
lower_characters [] = refl
lower_characters (x ∷ fes) =
    ap (λ (c : ℕ). c ∷ lowered (map char_of_element fes)) (lower_character x.value x.in_field) ∙ ap (λ (l : List ℕ). char_of x.value ∷ l) (lower_characters fes)

lower_spelled : (hrp : List ℕ) (fes : List Fe32) → lowered (spelled hrp fes) ≡ spelled hrp fes
lower_spelled hrp fes =
    map-append to_ascii_lowercase (lowered hrp) (49 ∷ map char_of_element fes)
    ∙ ap (λ (l : List ℕ). l ++ (49 ∷ lowered (map char_of_element fes))) (lowered-lowered hrp)
    ∙ ap (λ (l : List ℕ). lowered hrp ++ (49 ∷ l)) (lower_characters fes)

pub lower_encoded : (code : Code) (hrp : List ℕ) (fes : List Fe32) (text : List ℕ) → IsEncodedText code hrp fes text → lowered text ≡ text
lower_encoded code hrp fes text a = ap lowered a.spelling ∙ lower_spelled hrp (fes ++ a.checksum) ∙ sym a.spelling

-- and so it is from the upper case
pub lower_raised : (text : List ℕ) → lowered text ≡ text → lowered (map to_ascii_uppercase text) ≡ text
lower_raised text same = ap (λ (l : List ℕ). lowered (map to_ascii_uppercase l)) (sym same) ∙ lowered-raised text ∙ same
