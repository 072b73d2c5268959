-- What is known of a text in its parts, of which nothing is wrong but perhaps the checksum.
use Rattle.std.specs.List.{AllByRecursion}
use Rattle.std.specs.Prelude.{nat_le, IfOk, MatchOption}
use Rattle.std.proofs.Common.{◌≡◌, ℕ, ◌+◌, ◌<◌, ◌≤◌, ◌++◌, ◌∷◌, [], Bool, true, List, Option, None, Some, Result, Ok, Err, length, inl, inr, refl, subst, sym, arith}
use Rattle.std.proofs.lemmas.Bool.{and_parts, leb-true}
use Rattle.bech32_gf.specs.Fe32.{elements_of, ops}
use Rattle.bech32_gf.specs.declared.gf32.Fe32.{Fe32}
use Rattle.bech32_poly.specs.Remainder.{IsRemainder}
use Rattle.bech32_checksum.specs.Code.{Code}
use Rattle.bech32_checksum.specs.TextPolynomial.{text_polynomial}
use Rattle.bech32_hrp.specs.Hrp.{lowered}
use Rattle.bech32_correction.specs.Given.{IsAnswerWith}
use Rattle.bech32_correction.specs.Mistyped.{HasNoListing, IsListingOf, IsRefusedFor}
use Rattle.bech32_correction.proofs.MendedText.{placed-from_listing}
use Rattle.bech32_correction.proofs.Outcomes.{answered, corrector_of, refused_text}
use Rattle.bech32_decode.specs.Acceptance.{Accepts}
use Rattle.bech32_decode.proofs.Grammar.{only-from_IsText}
use Rattle.bech32_refusals.specs.ResidueRows.{IsResidueError, error_residue_of}
use Rattle.bech32_refusals.specs.declared.error.InvalidResidueError.{InvalidResidueError}
use Rattle.codex32.specs.Nearest.{AreAdditions, AreFramedParts, IsUnlisted}
use Rattle.codex32.specs.Lengths.{may_have}
use Rattle.codex32.specs.ShareParts.{ms}
use Rattle.codex32.specs.Strings.{is_within, is_within_long}
use Rattle.codex32.specs.declared.lengths.Lengths.{Lengths}
use Rattle.codex32.specs.declared.lengths.Lengths.TheVariants.{Either, Long, Short}
use Rattle.codex32.proofs.Digits.{or_true}
use Rattle.codex32.proofs.Refused.{IsFramedBy, framed_by-from, lowered_ms}

-- ---- how long strings are

short-longest : (n : ℕ) → is_within n ≡ true → n ≤ 127
short-longest n h = let parts = and_parts (nat_le 48 n) (nat_le n 93) h in let most : n ≤ 93 = leb-true n 93 parts.1 in omega (arith, most)

long-longest : (n : ℕ) → is_within_long n ≡ true → n ≤ 127
long-longest n h = let parts = and_parts (nat_le 125 n) (nat_le n 127) h in leb-true n 127 parts.1

longest : (which : Lengths) (n : ℕ) → may_have which n ≡ true → n ≤ 127
longest Short n h = short-longest n h
longest Long n h = long-longest n h
longest Either n h = elim (or_true (is_within n) (is_within_long n) h) [ inl e ↦ short-longest n e | inr e ↦ long-longest n e ]

-- ---- a text of these parts

module _ (may : ℕ → Bool) (hrp data_part : List ℕ) (parts : AreFramedParts may hrp data_part) where
  framed : IsFramedBy may (hrp ++ (49 ∷ data_part)) hrp data_part
  framed = framed_by-from may (hrp ++ (49 ∷ data_part)) hrp data_part parts.0 parts.1

  pub in_lower_case : lowered hrp ≡ ms
  in_lower_case = lowered_ms hrp framed.is_ms

  -- what is listed stands in the data part
  pub placed-from_listed : (code : Code) (given : List ℕ) (listing : List (ℕ × Fe32)) → AreAdditions code (hrp ++ (49 ∷ data_part)) given listing
      → AllByRecursion (λ (p : ℕ × Fe32). p.0 < length data_part) listing
  placed-from_listed code given listing (inl h) = subst (λ (l : List (ℕ × Fe32)). AllByRecursion (λ (p : ℕ × Fe32). p.0 < length data_part) l) (sym h.0) tt
  placed-from_listed code given listing (inr is) =
      let (h, d, text, inside) = placed-from_listing code 8 (hrp ++ (49 ∷ data_part)) given listing is in
      let same = only-from_IsText (hrp ++ (49 ∷ data_part)) hrp data_part parts.1 h d text.split text.data_bytes in
      subst (λ (u : List ℕ). AllByRecursion (λ (p : ℕ × Fe32). p.0 < length u) listing) same.1 inside

  -- where texts of its lengths are not longer than the code and have room for the checksum
  module _ (code : Code) (fits : (n : ℕ) → may n ≡ true → (n ≤ code.code_length) × (length code.generator + 3 ≤ n)) where
    within : length (hrp ++ (49 ∷ data_part)) ≤ code.code_length
    within = (fits (length (hrp ++ (49 ∷ data_part))) framed.within).0

    room : length code.generator ≤ length data_part
    room = let most : length code.generator + 3 ≤ length (hrp ++ (49 ∷ data_part)) = (fits (length (hrp ++ (49 ∷ data_part))) framed.within).1 in omega (arith, most, framed.size)

    pub window_fits : length data_part ≤ code.code_length
    window_fits = omega (arith, within, framed.size)

    pub accepted-from_target : IsRemainder ops code.generator (text_polynomial hrp (elements_of data_part)) code.target → Accepts code (hrp ++ (49 ∷ data_part))
    accepted-from_target h = (hrp, data_part, record { grammar = parts.1; text_length = within; data_length = room; has_target = h })

    refused : (e : InvalidResidueError) → IsResidueError code (text_polynomial hrp (elements_of data_part)) e → IsRefusedFor code (hrp ++ (49 ∷ data_part)) hrp data_part (error_residue_of e)
    refused e is = refused_text code (hrp ++ (49 ∷ data_part)) hrp data_part e parts.1 (within, room, is)

    said : {E : Type 0} (bound : ℕ) (given : List ℕ) (residue : List Fe32) (r : Result (Option (List (ℕ × Fe32))) E) → bound ≡ 8 → IsRefusedFor code (hrp ++ (49 ∷ data_part)) hrp data_part residue
        → IfOk r (λ found. IsAnswerWith code bound (record { residue = residue; window = length data_part; erasures = [] }) given found)
        → IfOk r (λ found. MatchOption found (IsUnlisted code (hrp ++ (49 ∷ data_part)) given) (λ listing. AreAdditions code (hrp ++ (49 ∷ data_part)) given listing))
    said bound given residue (Ok None) eight is h =
        inr (subst (λ (b : ℕ). HasNoListing code b (hrp ++ (49 ∷ data_part)) given) eight
        (answered code bound (hrp ++ (49 ∷ data_part)) given (record { residue = residue; window = length data_part; erasures = [] }) None
        (corrector_of code (hrp ++ (49 ∷ data_part)) hrp data_part residue (length data_part) _ is refl refl) h))
    said bound given residue (Ok (Some listing)) eight is h =
        inr (subst (λ (b : ℕ). IsListingOf code b (hrp ++ (49 ∷ data_part)) given listing) eight
        (answered code bound (hrp ++ (49 ∷ data_part)) given (record { residue = residue; window = length data_part; erasures = [] }) (Some listing)
        (corrector_of code (hrp ++ (49 ∷ data_part)) hrp data_part residue (length data_part) _ is refl refl) h))
    said bound given residue (Err e) eight is h = tt

    -- what the finder says of the residue of a refused text
    pub said_of_residue : {E : Type 0} (bound : ℕ) (given : List ℕ) (e : InvalidResidueError) (residue : List Fe32) (r : Result (Option (List (ℕ × Fe32))) E)
        → bound ≡ 8 → IsResidueError code (text_polynomial hrp (elements_of data_part)) e → residue ≡ error_residue_of e
        → IfOk r (λ found. IsAnswerWith code bound (record { residue = residue; window = length data_part; erasures = [] }) given found)
        → IfOk r (λ found. MatchOption found (IsUnlisted code (hrp ++ (49 ∷ data_part)) given) (λ listing. AreAdditions code (hrp ++ (49 ∷ data_part)) given listing))
    said_of_residue bound given e residue r eight is same h =
        said bound given residue r eight (subst (IsRefusedFor code (hrp ++ (49 ∷ data_part)) hrp data_part) (sym same) (refused e is)) h

-- a data part is no longer than the longest
pub few-elements : (which : Lengths) (hrp data_part : List ℕ) → AreFramedParts (may_have which) hrp data_part → length data_part ≤ 124
few-elements which hrp data_part parts =
    let framed = framed_by-from (may_have which) (hrp ++ (49 ∷ data_part)) hrp data_part parts.0 parts.1 in
    let most : length (hrp ++ (49 ∷ data_part)) ≤ 127 = longest which (length (hrp ++ (49 ∷ data_part))) framed.within in
    omega (arith, most, framed.size)
