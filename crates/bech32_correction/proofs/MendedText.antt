-- The text in lower case with the listed values added.
use Rattle.std.specs.List.{AllByRecursion}
use Rattle.std.specs.Prelude.{map}
use Rattle.std.specs.Str.{IsUtf8}
use Rattle.std.proofs.Common.{◌≡◌, ℕ, ◌<◌, List, [], ◌∷◌, ◌++◌, length, take, subst, sym, ◌∙◌, arith}
use Rattle.std.proofs.lemmas.List.{length-map, take-append-le, take_all}
use Rattle.std.proofs.lemmas.Str.{IsUtf8-from_ascii}
use Rattle.bech32_gf.specs.Fe32.{element_of, elements_of, ops}
use Rattle.bech32_gf.specs.declared.gf32.Fe32.{Fe32}
use Rattle.bech32_hrp.specs.Hrp.{lowered}
use Rattle.bech32_checksum.specs.Code.{Code}
use Rattle.bech32_checksum.specs.Encoded.{char_of_element, spelled}
use Rattle.bech32_decode.specs.Acceptance.{Accepts}
use Rattle.bech32_decode.specs.Text.{IsText}
use Rattle.bech32_decode.proofs.Grammar.{only-from_IsText}
use Rattle.bech32_decode.proofs.Spelling.{spelled-text}
use Rattle.bech32_correction.specs.MendedElements.{EndsIn, mended}
use Rattle.bech32_correction.specs.Mistyped.{IsListingOf, IsMendedBy, IsPlacedIn}
use Rattle.bech32_correction.proofs.Ascii.{ascii_text}
use Rattle.bech32_correction.proofs.Texts.{ends-lowered, mendable-from_listing, spelled-from_ends}

in_elements : (data_part : List ℕ) (listing : List (ℕ × Fe32)) → AllByRecursion (λ (p : ℕ × Fe32). p.0 < length data_part) listing
    → AllByRecursion (λ (p : ℕ × Fe32). p.0 < length (elements_of data_part)) listing
in_elements data_part listing h = subst (λ (n : ℕ). AllByRecursion (λ (p : ℕ × Fe32). p.0 < n) listing) (sym (length-map data_part element_of)) h

pub mend_may : (text lower : List ℕ) (listing : List (ℕ × Fe32)) → lower ≡ lowered text → IsPlacedIn text listing
    → (front : List ℕ) × ((elements : List Fe32) × EndsIn lower front elements × AllByRecursion (λ (p : ℕ × Fe32). p.0 < length elements) listing)
mend_may text lower listing same (hrp, data_part, is, inside) =
    (lowered hrp ++ (49 ∷ []), (elements_of data_part, same ∙ ends-lowered text hrp data_part is, in_elements data_part listing inside))

-- what `mend` makes of it
module _ (text lower new : List ℕ) (listing : List (ℕ × Fe32)) (same : lower ≡ lowered text) (placed : IsPlacedIn text listing)
    (made : (front : List ℕ) (elements : List Fe32) → EndsIn lower front elements → AllByRecursion (λ (p : ℕ × Fe32). p.0 < length elements) listing
    → EndsIn new front (mended ops listing elements)) where
  pub spelled-from_mend : (hrp data_part : List ℕ) → IsText text hrp data_part → new ≡ spelled hrp (mended ops listing (elements_of data_part))
  spelled-from_mend hrp data_part is =
      let (h, d, known, inside) = placed in
      let (same_hrp, same_data) = only-from_IsText text hrp data_part is h d known.split known.data_bytes in
      spelled-from_ends new hrp (mended ops listing (elements_of data_part))
      (made (lowered hrp ++ (49 ∷ [])) (elements_of data_part) (same ∙ ends-lowered text hrp data_part is)
      (in_elements data_part listing (subst (λ (x : List ℕ). AllByRecursion (λ (p : ℕ × Fe32). p.0 < length x) listing) same_data inside)))

  pub mended-utf8 : IsUtf8 new
  mended-utf8 =
      let (h, d, known, inside) = placed in
      subst IsUtf8 (sym (spelled-from_mend h d known))
      (IsUtf8-from_ascii (spelled h (mended ops listing (elements_of d)))
      (ascii_text (spelled h (mended ops listing (elements_of d))) (lowered h) (map char_of_element (mended ops listing (elements_of d)))
      (spelled-text h (mended ops listing (elements_of d)) known.is_hrp)))

-- this many of the first items are the first list
pub first_items : (n : ℕ) (xs ys : List ℕ) → length xs ≡ n → take n (xs ++ ys) ≡ xs
first_items n xs ys e = take-append-le n xs ys (omega (arith, e)) ∙ take_all n xs (omega (arith, e))

-- what is listed stands in the data part
pub placed-from_listing : (code : Code) (bound : ℕ) (text given : List ℕ) (listing : List (ℕ × Fe32)) → IsListingOf code bound text given listing → IsPlacedIn text listing
placed-from_listing code bound text given listing is =
    let m = mendable-from_listing code bound text given listing is in
    (m.hrp, m.data_part, m.grammar, subst (λ (n : ℕ). AllByRecursion (λ (p : ℕ × Fe32). p.0 < n) listing) (length-map m.data_part element_of) m.inside)

-- the text that is mended by a listing
pub mended_by : (code : Code) (bound : ℕ) (text given new : List ℕ) (listing : List (ℕ × Fe32)) → IsListingOf code bound text given listing
    → ((hrp data_part : List ℕ) → IsText text hrp data_part → new ≡ spelled hrp (mended ops listing (elements_of data_part)))
    → IsMendedBy code bound text given listing new
mended_by code bound text given new listing is spelling =
    let same : new ≡ spelled is.hrp (mended ops listing (elements_of is.data_part)) = spelling is.hrp is.data_part is.refused.read.grammar in
    record {
      listed = is;
      text_is = record { hrp = is.hrp; data_part = is.data_part; grammar = is.refused.read.grammar; spelling = same };
      accepted = subst (Accepts code) (sym same) is.mends;
    }
