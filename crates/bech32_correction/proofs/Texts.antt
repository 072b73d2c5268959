-- A text in lower case, with a listing's values added.
use Rattle.std.specs.List.{AllByRecursion}
use Rattle.std.specs.Prelude.{map}
use Rattle.std.proofs.Common.{◌≡◌, ℕ, ◌<◌, ◌≤◌, List, [], ◌∷◌, ◌++◌, length, append_assoc, subst, sym, ap, ◌∙◌, arith}
use Rattle.std.proofs.lemmas.List.{length-map}
use Rattle.bech32_gf.specs.Fe32.{elements_of, element_of, ops}
use Rattle.bech32_gf.specs.declared.gf32.Fe32.{Fe32}
use Rattle.bech32_gf.specs.laws.Fe32Laws.{is_field}
use Rattle.bech32_poly.specs.Remainder.{IsRemainder}
use Rattle.bech32_hrp.specs.Hrp.{lowered}
use Rattle.bech32_checksum.specs.Code.{Code}
use Rattle.bech32_checksum.specs.Encoded.{char_of_element, spelled}
use Rattle.bech32_checksum.specs.TextPolynomial.{text_polynomial}
use Rattle.bech32_bch.specs.Erasures.{with_erasures}
use Rattle.bech32_decode.specs.Acceptance.{Accepts, IsAccepted}
use Rattle.bech32_decode.specs.Text.{IsText}
use Rattle.bech32_decode.proofs.Spelling.{characters-elements, lower_text, spelled-text}
use Rattle.bech32_correction.specs.MendedElements.{EndsIn, mended}
use Rattle.bech32_correction.specs.Mistyped.{IsListingOf, IsMendedText, question_of}
use Rattle.bech32_correction.proofs.Accepted.{in_parts, length-lowered_text, lowered_parts}
use Rattle.bech32_correction.proofs.Inside.{all-with_erasures, listed_few, listed_inside}
use Rattle.bech32_correction.proofs.Sound.{sound_of}
use Rattle.bech32_correction.proofs.Values.{mended-none}

-- the parts of a text and a listing for it, whose values make a text that the checksum accepts
pub record IsMendable (code : Code) (text : List ℕ) (listing : List (ℕ × Fe32)) : Type 0 where
  pub hrp : List ℕ
  pub data_part : List ℕ
  pub grammar : IsText text hrp data_part
  pub inside : AllByRecursion (λ (p : ℕ × Fe32). p.0 < length (elements_of data_part)) listing
  pub accepts : Accepts code (spelled hrp (mended ops listing (elements_of data_part)))

-- an accepted text is accepted in lower case
lower_accepted : (code : Code) (text hrp data_part : List ℕ) → IsAccepted code text hrp data_part → Accepts code (spelled hrp (elements_of data_part))
lower_accepted code text hrp data_part is =
    let fits : length text ≤ code.code_length = is.text_length in
    let room : length code.generator ≤ length data_part = is.data_length in
    let same : length (spelled hrp (elements_of data_part)) ≡ length text = length-lowered_text text hrp data_part is.grammar in
    let characters : length (map char_of_element (elements_of data_part)) ≡ length data_part = length-map (elements_of data_part) char_of_element ∙ length-map data_part element_of in (
      lowered hrp,
      map char_of_element (elements_of data_part),
      record {
        grammar = spelled-text hrp (elements_of data_part) is.grammar.is_hrp;
        text_length = omega arith;
        data_length = omega arith;
        has_target = subst (λ (p : List Fe32). IsRemainder ops code.generator p code.target)
            (in_parts hrp (elements_of data_part) ∙ sym (ap (text_polynomial (lowered hrp)) (characters-elements (elements_of data_part)) ∙ lowered_parts hrp (elements_of data_part)))
            is.has_target;
      },
    )

pub mendable-from_accepts : (code : Code) (text : List ℕ) → Accepts code text → IsMendable code text []
mendable-from_accepts code text a =
    let (hrp, data_part, is) = a in
    record {
      hrp = hrp;
      data_part = data_part;
      grammar = is.grammar;
      inside = tt;
      accepts = subst (λ (xs : List Fe32). Accepts code (spelled hrp xs)) (sym (mended-none is_field (elements_of data_part))) (lower_accepted code text hrp data_part is);
    }

pub mendable-from_listing : (code : Code) (bound : ℕ) (text given : List ℕ) (listing : List (ℕ × Fe32)) → IsListingOf code bound text given listing → IsMendable code text listing
mendable-from_listing code bound text given listing is = record {
  hrp = is.hrp;
  data_part = is.data_part;
  grammar = is.refused.read.grammar;
  inside = subst (λ (n : ℕ). AllByRecursion (λ (p : ℕ × Fe32). p.0 < n) listing) (sym (length-map is.data_part element_of))
      (listed_inside is_field code.generator is.residue (with_erasures [] given) (length is.data_part) bound listing
      (sound_of code bound (question_of is.data_part is.residue given) listing is.only)
      (all-with_erasures (λ i. i < length is.data_part) [] given tt is.inside));
  accepts = is.mends;
}

pub few-from_listing : (code : Code) (bound : ℕ) (text given : List ℕ) (listing : List (ℕ × Fe32)) → IsListingOf code bound text given listing → length listing ≤ bound
few-from_listing code bound text given listing is =
    listed_few is_field code.generator is.residue (with_erasures [] given) (length is.data_part) bound listing
    (sound_of code bound (question_of is.data_part is.residue given) listing is.only)

-- a text in lower case ends in its elements' characters
pub ends-lowered : (text hrp data_part : List ℕ) → IsText text hrp data_part → EndsIn (lowered text) (lowered hrp ++ (49 ∷ [])) (elements_of data_part)
ends-lowered text hrp data_part is = lower_text text hrp data_part is ∙ sym (append_assoc (lowered hrp) (49 ∷ []) (map char_of_element (elements_of data_part)))

pub spelled-from_ends : (text hrp : List ℕ) (elements : List Fe32) → EndsIn text (lowered hrp ++ (49 ∷ [])) elements → text ≡ spelled hrp elements
spelled-from_ends text hrp elements e = e ∙ append_assoc (lowered hrp) (49 ∷ []) (map char_of_element elements)

-- what `mend` makes of the text in lower case
pub mended_text-from_ends : (code : Code) (text new : List ℕ) (listing : List (ℕ × Fe32)) (m : IsMendable code text listing)
    → EndsIn new (lowered m.hrp ++ (49 ∷ [])) (mended ops listing (elements_of m.data_part)) → IsMendedText listing text new × Accepts code new
mended_text-from_ends code text new listing m e =
    let same : new ≡ spelled m.hrp (mended ops listing (elements_of m.data_part)) = spelled-from_ends new m.hrp (mended ops listing (elements_of m.data_part)) e in
    (record { hrp = m.hrp; data_part = m.data_part; grammar = m.grammar; spelling = same }, subst (Accepts code) (sym same) m.accepts)
