-- Shares of data parts, and why texts have none.
use Rattle.std.specs.Prelude.{◌==◌, ◌&&◌, nat_le}
use Rattle.std.proofs.Common.{◌≡◌, ◌≢◌, ◌≤◌, ◌+◌, ◌-◌, ◌∙◌, ◌++◌, ℕ, suc, zero, List, [], ◌∷◌, None, Some, true, length, take, get_or, replicate, inl, inr, refl, sym, ap, subst, arith}
use Rattle.std.proofs.lemmas.Bool.{and_from, and_parts, cases_Bool, cond-false, cond-true, eqb-true, le-leb, leb-true, or_right}
use Rattle.std.proofs.lemmas.List.{length-append, length-replicate}
use Rattle.bech32_checksum.specs.Code.{Code}
use Rattle.bech32_checksum.specs.TextPolynomial.{text_polynomial}
use Rattle.bech32_decode.proofs.Grammar.{none_first}
use Rattle.bech32_decode.specs.Acceptance.{IsAccepted}
use Rattle.bech32_decode.specs.Text.{IsText}
use Rattle.bech32_gf.specs.Fe32 as fe32
use Rattle.bech32_gf.specs.Fe32.{element_of, elements_of}
use Rattle.bech32_gf.specs.declared.gf32.Fe32.{Fe32}
use Rattle.bech32_gf.specs.laws.Fe32Laws.{is_field}
use Rattle.bech32_numbers.specs.Refused.{IsNumberBy}
use Rattle.bech32_poly.specs.Division.{remainder_of}
use Rattle.bech32_poly.specs.Polynomial.{coefficient}
use Rattle.bech32_poly.specs.Remainder.{IsRemainder}
use Rattle.bech32_poly.proofs.Remainder.{length-remainder_of, remainder_exists}
use Rattle.bech32_refusals.specs.ResidueRows.{IsResidueError}
use Rattle.bech32_refusals.specs.declared.error.ChecksumError.TheVariants.{InvalidResidue}
use Rattle.bech32_refusals.specs.declared.error.InvalidResidueError.{InvalidResidueError}
use Rattle.bech32_refusals.specs.declared.residue.Residue.{Residue}
use Rattle.codex32.specs.Code.{code_of_length, codex32, long_codex32}
use Rattle.codex32.specs.Header.{header_elements}
use Rattle.codex32.specs.Share.{IsShareRefusal}
use Rattle.codex32.specs.ShareParts.{ms, payload_in}
use Rattle.codex32.specs.Strings.{frame_refusal_by, header_fault, is_threshold, is_within_either, share_index_fault, threshold_fault}
use Rattle.codex32.specs.Thresholds.{is_threshold_number}
use Rattle.codex32.specs.declared.error.Codex32Error.{Codex32Error}
use Rattle.codex32.specs.declared.error.Codex32Error.TheVariants.{Checksum}
use Rattle.codex32.specs.declared.header.Header.{Header as Head}
use Rattle.codex32.specs.declared.share.Share.{Share}
use Rattle.codex32.proofs.Digits.{or_true, secret-from_s, threshold-least}
use Rattle.codex32.proofs.HeaderFaults.{body_refused}
use Rattle.codex32.proofs.Refused.{IsFramedBy, framed_by-from, lowered_ms, none_share_index, none_threshold}
use Rattle.codex32.proofs.ShareParts.{fits, polynomial_of_ms}
use Rattle.codex32.proofs.ShareStrings.{share_of_text}
use Rattle.codex32.specs.Numbers.{number_of_codex32_error}
use Rattle.codex32_small.specs.Parts.{HasDataPart}

-- ---- the header of characters that were tested

number_of_digit : (c : ℕ) → is_threshold c ≡ true → is_threshold_number (c - 48) ≡ true
number_of_digit c h = elim (or_true (c == 48) (nat_le 50 c && nat_le c 57) h) [
  | inl e ↦ let is = eqb-true c 48 e in ap (λ (k : ℕ). is_threshold_number (k - 48)) is
  | inr e ↦
      let parts = and_parts (nat_le 50 c) (nat_le c 57) e in
      let least : 50 ≤ c = leb-true 50 c parts.0 in
      let most : c ≤ 57 = leb-true c 57 parts.1 in
      or_right (c - 48 == 0) (nat_le 2 (c - 48) && nat_le (c - 48) 9)
      (and_from (nat_le 2 (c - 48)) (nat_le (c - 48) 9) (le-leb 2 (c - 48) (omega (arith, least))) (le-leb (c - 48) 9 (omega (arith, most))))
]

record HasHeader (given : List ℕ) : Type 0 where
  header : Head
  elements_are : elements_of (take 6 given) ≡ header_elements header

header_made : (given : List ℕ) → 6 ≤ length given → header_fault given ≡ None → HasHeader given
header_made (t ∷ a ∷ b ∷ c ∷ d ∷ x ∷ rest) long fine =
    let parts = none_first (threshold_fault t) (share_index_fault t x) fine in
    let digit : is_threshold t ≡ true = none_threshold t parts.0 in
    let least : 48 ≤ t = threshold-least t digit in
    let same : t ≡ 48 + (t - 48) = omega (arith, least) in
    record {
      header = record {
        threshold = record { number = t - 48; lawful = number_of_digit t digit };
        identifier = record { elements = element_of a ∷ element_of b ∷ element_of c ∷ element_of d ∷ []; full = refl };
        share_index = element_of x;
        unshared = λ zero. secret-from_s x (none_share_index t x parts.1 (omega (arith, zero, least)));
      };
      elements_are = ap (λ (k : ℕ). element_of k ∷ element_of a ∷ element_of b ∷ element_of c ∷ element_of d ∷ element_of x ∷ []) same;
    }
header_made [] long fine = absurd (omega (arith, long))
header_made (t ∷ []) long fine = absurd (omega (arith, long))
header_made (t ∷ a ∷ []) long fine = absurd (omega (arith, long))
header_made (t ∷ a ∷ b ∷ []) long fine = absurd (omega (arith, long))
header_made (t ∷ a ∷ b ∷ c ∷ []) long fine = absurd (omega (arith, long))
header_made (t ∷ a ∷ b ∷ c ∷ d ∷ []) long fine = absurd (omega (arith, long))

-- ---- the error of a wrong remainder

pub get_or-zeros : (n i : ℕ) → get_or (replicate n fe32.zero) i fe32.zero ≡ fe32.zero
get_or-zeros zero i = refl
get_or-zeros (suc n) zero = refl
get_or-zeros (suc n) (suc i) = get_or-zeros n i

-- zeros at the high end do not count
coefficient-padded : (row : List Fe32) (n i : ℕ) → coefficient fe32.ops (row ++ replicate n fe32.zero) i ≡ coefficient fe32.ops row i
coefficient-padded [] n i = get_or-zeros n i
coefficient-padded (x ∷ row) n zero = refl
coefficient-padded (x ∷ row) n (suc i) = coefficient-padded row n i

carried : (row : List Fe32) → length row ≤ 25 → Residue
carried row few = record {
  digits = row ++ replicate (25 - length row) fe32.zero;
  full = let zeros = length-replicate (25 - length row) fe32.zero in let both = length-append row (replicate (25 - length row) fe32.zero) in omega (arith, few, zeros, both);
}

error_of : (row target : List Fe32) → length row ≤ 25 → length target ≡ length row → InvalidResidueError
error_of row target few size = record { actual = carried row few; target = carried target (omega (arith, few, size)) }

residue_error : (code : Code) (p row : List Fe32) (few : length row ≤ 25) (size : length code.target ≡ length row) → IsRemainder fe32.ops code.generator p row → row ≢ code.target
    → IsResidueError code p (error_of row code.target few size)
unfolding carried error_of
residue_error code p row few size is differs = record {
  remainder = row;
  is_remainder = is;
  not_target = differs;
  actual = λ i. coefficient-padded row (25 - length row) i;
  target = λ i. coefficient-padded code.target (25 - length code.target) i;
}

-- ---- the share of a data part

length-target : (n : ℕ) → length (code_of_length n).target ≡ length (code_of_length n).generator
length-target n = elim (cases_Bool (nat_le n 93)) [
  | inl h ↦ let e = cond-true (nat_le n 93) codex32 long_codex32 h in ap (λ (k : Code). length k.target) e ∙ sym (ap (λ (k : Code). length k.generator) e)
  | inr h ↦ let e = cond-false (nat_le n 93) codex32 long_codex32 h in ap (λ (k : Code). length k.target) e ∙ sym (ap (λ (k : Code). length k.generator) e)
]

module _ (text given : List ℕ) (framed : frame_refusal_by is_within_either text ≡ None) (is : IsText text (take 2 text) given) where
  abbrev code_of_text : Code
  code_of_text = code_of_length (length text)

  abbrev remainder : List Fe32
  remainder = remainder_of fe32.ops code_of_text.generator (text_polynomial ms (elements_of given))

  whole : IsFramedBy is_within_either text (take 2 text) given
  whole = framed_by-from is_within_either text (take 2 text) given framed is

  same_polynomial : text_polynomial (take 2 text) (elements_of given) ≡ text_polynomial ms (elements_of given)
  same_polynomial = polynomial_of_ms (take 2 text) (elements_of given) (lowered_ms (take 2 text) whole.is_ms)

  leaves : IsRemainder fe32.ops code_of_text.generator (text_polynomial (take 2 text) (elements_of given)) remainder
  leaves =
      subst (λ (p : List Fe32). IsRemainder fe32.ops code_of_text.generator p remainder) (sym same_polynomial)
      (remainder_exists is_field code_of_text.generator (text_polynomial ms (elements_of given)))

  -- the checksum is right
  accepted : remainder ≡ code_of_text.target → IsAccepted code_of_text text (take 2 text) given
  accepted right =
      let sized = fits (length text) whole.within in
      record {
        grammar = is;
        text_length = sized.not_longer;
        data_length = omega (arith, sized.room, whole.size);
        has_target = subst (IsRemainder fe32.ops code_of_text.generator (text_polynomial (take 2 text) (elements_of given))) right leaves;
      }

  pub has_data_part : remainder ≡ code_of_text.target → header_fault given ≡ None → HasDataPart text given
  has_data_part right fine =
      let sized = fits (length text) whole.within in
      let size : length text ≡ 3 + length given = whole.size in
      let made = header_made given (omega (arith, sized.least, size)) fine in
      let share : Share = record {
        header = made.header;
        payload = record { ref_ptr = (0, 0); now = payload_in given };
        data_part = record { ref_ptr = (0, 0); now = given };
        of_alphabet = is.data_bytes;
        within = ap is_within_either (sym size) ∙ whole.within;
        has_target = subst (λ (n : ℕ). remainder_of fe32.ops (code_of_length n).generator (text_polynomial ms (elements_of given)) ≡ (code_of_length n).target) size right;
        header_is = made.elements_are;
        payload_is = refl;
      } in
      record {
        share = share;
        is_share = share_of_text text (take 2 text) share is (accepted right) whole.is_ms size;
        characters = refl;
        fine = fine;
        every = λ s same.
            share_of_text text (take 2 text) s (subst (λ (d : List ℕ). IsText text (take 2 text) d) (sym same) is)
            (subst (λ (d : List ℕ). IsAccepted code_of_text text (take 2 text) d) (sym same) (accepted right)) whole.is_ms
            (size ∙ ap (λ (d : List ℕ). 3 + length d) (sym same));
      }

  -- the first characters are wrong
  pub header_refused : (e : Codex32Error) → remainder ≡ code_of_text.target → header_fault given ≡ Some e → IsShareRefusal text e
  header_refused e right h =
      inr (record { hrp = take 2 text; data_part = given; grammar = is; framed = framed; refusal = body_refused code_of_text text (take 2 text) given e (accepted right) h })

  -- the checksum is wrong
  pub checksum_refused : (remainder ≡ code_of_text.target → ⊥) → IsNumberBy number_of_codex32_error (IsShareRefusal text) 33
  checksum_refused wrong =
      let sized = fits (length text) whole.within in
      let degree : length remainder ≡ length code_of_text.generator = length-remainder_of is_field code_of_text.generator (text_polynomial ms (elements_of given)) in
      let few : length remainder ≤ 25 = omega (arith, degree, sized.degree) in
      let size : length code_of_text.target ≡ length remainder = length-target (length text) ∙ sym degree in
      let e : InvalidResidueError = error_of remainder code_of_text.target few size in
      record {
        refusal = Checksum (InvalidResidue e);
        holds = inr (record {
          hrp = take 2 text;
          data_part = given;
          grammar = is;
          framed = framed;
          refusal = (sized.not_longer, omega (arith, sized.room, whole.size), residue_error code_of_text (text_polynomial (take 2 text) (elements_of given)) remainder few size leaves wrong);
        });
        number = refl;
      }
