-- What is found for the row in which a remainder differs from a target says how the text is mended.
use Rattle.std.specs.List.{AllByRecursion}
use Rattle.std.specs.Prelude.{◌≢◌, slice_index}
use Rattle.std.proofs.Common.{◌≡◌, ◌<◌, ◌≤◌, ◌+◌, ◌*◌, ◌⊎◌, inl, inr, ℕ, List, [], ◌∷◌, length, Option, Some, None, MatchOption, refl, sym, ap, ◌∙◌, subst, arith}
use Rattle.bech32_gf.specs.Field.{power, value_at}
use Rattle.bech32_gf.specs.Fe32 as fe32
use Rattle.bech32_gf.specs.declared.gf32.Fe32.{Fe32}
use Rattle.bech32_gf_ext.specs.Fe1024 as fe1024
use Rattle.bech32_gf_ext.specs.Fe1024.{embed, retract}
use Rattle.bech32_gf_ext.specs.laws.Fe1024Laws.{embed-add, embed-mul, is_field, retract-embed}
use Rattle.bech32_poly.specs.Embedding.{Embeds}
use Rattle.bech32_poly.specs.Polynomial.{IsSamePolynomial}
use Rattle.bech32_poly.specs.Remainder.{monic}
use Rattle.std.specs.Prelude.{map}
use Rattle.bech32_bch.specs.Erasures.{AreErasures, with_erasures}
use Rattle.bech32_bch.specs.Pattern.{HasRemainder, errors_outside}
use Rattle.bech32_bch.specs.Search.{IsCandidate}
use Rattle.bech32_bch.proofs.Candidates.{apart_inside}
use Rattle.bech32_checksum.specs.Code.{Code, bech32m}
use Rattle.bech32_checksum.specs.Packed.{digits}
use Rattle.bech32_checksum.specs.Roots.{AreLawfulRoots}
use Rattle.bech32_checksum.specs.declared.lookups.Lookup.TheVariants.{Absent, Found}
use Rattle.bech32_checksum.specs.laws.RootLaws.{base, bech32_roots}
use Rattle.bech32_lookup.specs.Found.{IsErasedListing, IsErrorBelow}
use Rattle.bech32_lookup.specs.Question.{Explains, IsAnswerTo, IsOnlyListing}
use Rattle.bech32_lookup.proofs.Added.{erasures_more}
use Rattle.bech32_lookup.proofs.Beside.{alone_listed, beside_listed, none_beside}
use Rattle.bech32_lookup.proofs.Lawful.{only_erasures, only_lawful}
use Rattle.bech32_lookup.proofs.OneError.{no_pattern}
use Rattle.bech32_lookup.proofs.Only.{no_erasures, one_listed}
use Rattle.bech32_correction.specs.Mistyped.{AreInside, HasNoListing, IsListingOf, IsRefusedFor, question_of}
use Rattle.bech32_correction.proofs.Outcomes.{listing-from_only}
use Rattle.bech32_correction.proofs.Residues.{residue_not_zero}
use Rattle.bech32_small.specs.Target.{PacksTarget}
use Rattle.bech32_small.proofs.Searched.{no_digits}
use Rattle.bech32_small.proofs.Targets.{target-length}

-- an element at one erasure, and perhaps an error beside it
abbrev pub IsBeside : ℕ → List Fe32 → ℕ → Option (List (ℕ × Fe32)) → Type 0
IsBeside window residue erasure found = MatchOption found
    ((v : Fe32) (i : ℕ) (w : Fe32) → i < window → HasRemainder fe32.ops bech32m.generator residue ((erasure, v) ∷ (i, w) ∷ []) → ⊥)
    (λ listing. HasRemainder fe32.ops bech32m.generator residue listing
    × ((v : Fe32) × ((listing ≡ (erasure, v) ∷ [])
    ⊎ ((error : ℕ × Fe32) × (listing ≡ (erasure, v) ∷ error ∷ []) × (error.0 < window) × (error.0 ≢ erasure) × (error.1 ≢ fe32.zero)))))

-- no location, one, or two
pub none_of : (xs : List ℕ) → length xs < 1 → xs ≡ []
none_of [] few = refl
none_of (x ∷ xs) few = absurd (omega (arith, few))

pub one_of : (xs : List ℕ) → 1 ≤ length xs → length xs < 2 → xs ≡ slice_index xs 0 ∷ []
one_of [] some few = absurd (omega (arith, some))
one_of (x ∷ []) some few = refl
one_of (x ∷ y ∷ xs) some few = absurd (omega (arith, few))

pub two_of : (xs : List ℕ) → 2 ≤ length xs → length xs < 3 → xs ≡ slice_index xs 0 ∷ slice_index xs 1 ∷ []
two_of [] some few = absurd (omega (arith, some))
two_of (x ∷ xs) some few = ap (λ (l : List ℕ). x ∷ l) (one_of xs (omega (arith, some)) (omega (arith, few)))

pub three_of : (xs : List ℕ) → 3 ≤ length xs → length xs ≤ 3 → xs ≡ slice_index xs 0 ∷ slice_index xs 1 ∷ slice_index xs 2 ∷ []
three_of [] some few = absurd (omega (arith, some))
three_of (x ∷ xs) some few = ap (λ (l : List ℕ). x ∷ l) (two_of xs (omega (arith, some)) (omega (arith, few)))

-- the only erasure is in the data part
pub first_below : (window x : ℕ) (given s : List ℕ) → s ≡ with_erasures [] given → s ≡ x ∷ [] → AllByRecursion (λ i. i < window) given → x < window
first_below window x given s is one inside =
    (subst (AreErasures window) (sym is ∙ one) (erasures_more window [] given (no_erasures window) inside)).below.0

module _ (target : ℕ) (code : Code) (has : PacksTarget target code) (most : code.code_length ≡ 1023) where
  -- the roots of Bech32's generator locate errors in texts of that length
  roots_of : AreLawfulRoots fe1024.ops embed code base 24 26
  roots_of =
      let r = bech32_roots (omega arith) in
      let degree : length code.generator ≡ 6 = ap (λ (l : List Fe32). length l) has.generator in
      record {
        not_zero = r.not_zero;
        order = r.order;
        is_order = r.is_order;
        long_enough = subst (λ (n : ℕ). n ≤ r.order) (sym most) r.long_enough;
        ordered = r.ordered;
        few = omega (arith, degree);
        are_roots = λ e low high. subst (λ (g : List Fe32). value_at fe1024.ops (power fe1024.ops base e) (monic fe1024.ops (map embed g)) ≡ fe1024.zero)
            (sym has.generator) (r.are_roots e low high);
      }

  into : Embeds fe32.ops fe1024.ops embed
  into = record { one = refl; add = embed-add; mul = embed-mul }

  apart : (x y : Fe32) → embed x ≡ embed y → x ≡ y
  apart = apart_inside embed retract retract-embed

  module _ (text hrp data_part given : List ℕ) (row : ℕ) (refused : IsRefusedFor code text hrp data_part (digits 6 row)) (within : length data_part ≤ 1023) where
    only_one : (s : List ℕ) (listing : List (ℕ × Fe32)) → AreErasures (length data_part) s → IsCandidate fe32.ops (length data_part) s 3 listing
        → HasRemainder fe32.ops bech32m.generator (digits 6 row) listing
        → IsOnlyListing code 3 (record { residue = digits 6 row; window = length data_part; erasures = s }) listing
    only_one s listing erased candidate leaves =
        only_lawful is_field into apart code base 24 26 3 1023 (length data_part) refl most (target-length target code has) roots_of within
        (digits 6 row) s listing erased candidate
        (subst (λ (g : List Fe32). HasRemainder fe32.ops g (digits 6 row) listing) (sym has.generator) leaves)

    none_said : (AreInside data_part given → (e : List (ℕ × Fe32)) → Explains code 3 (question_of data_part (digits 6 row) given) e → ⊥) → HasNoListing code 3 text given
    none_said none = record { hrp = hrp; data_part = data_part; residue = digits 6 row; refused = refused; none = none }

    -- an answer for the erasures is one for the text
    said : (s : List ℕ) (found : Option (List (ℕ × Fe32))) → AreInside data_part given → s ≡ with_erasures [] given
        → IsAnswerTo code 3 (record { residue = digits 6 row; window = length data_part; erasures = s }) found
        → MatchOption found (HasNoListing code 3 text given) (λ listing. IsListingOf code 3 text given listing)
    said s None inside is h =
        none_said (λ _. subst (λ (s : List ℕ). IsAnswerTo code 3 (record { residue = digits 6 row; window = length data_part; erasures = s }) None) is h)
    said s (Some listing) inside is h =
        listing-from_only code 3 text given hrp data_part (digits 6 row) listing refused inside
        (subst (λ (s : List ℕ). IsOnlyListing code 3 (record { residue = digits 6 row; window = length data_part; erasures = s }) listing) is h)

    -- the row is not zero
    pub not_zero : row ≡ 0 → HasNoListing code 3 text given
    not_zero none =
        absurd (residue_not_zero code text hrp data_part (digits 6 row) (target-length target code has) refused
        (subst (λ (n : ℕ). IsSamePolynomial fe32.ops (digits 6 n) []) (sym none) no_digits))

    -- the given locations are not all in the data part, or too many
    pub unfit : ((AreInside data_part given → ⊥) ⊎ (3 < length (with_erasures [] given))) → HasNoListing code 3 text given
    unfit (inl outside) = none_said (λ inside. absurd (outside inside))
    unfit (inr many) = none_said (λ inside e x.
        let few : 2 * errors_outside (with_erasures [] given) e + length (with_erasures [] given) ≤ 3 = x.few in omega (arith, many, few))

    module _ (s : List ℕ) (is : s ≡ with_erasures [] given) (inside : AreInside data_part given) where
      erased : AreErasures (length data_part) s
      erased = subst (AreErasures (length data_part)) (sym is) (erasures_more (length data_part) [] given (no_erasures (length data_part)) inside)

      -- no erasures
      pub said-below : (found : Option (List (ℕ × Fe32))) → s ≡ [] → (row ≡ 0 → ⊥)
          → MatchOption found (IsErrorBelow bech32m.generator (length data_part) (digits 6 row) None)
          (λ listing. (error : ℕ × Fe32) × (listing ≡ error ∷ []) × IsErrorBelow bech32m.generator (length data_part) (digits 6 row) (Some error))
          → MatchOption found (HasNoListing code 3 text given) (λ listing. IsListingOf code 3 text given listing)
      said-below None none some h =
          said [] None inside (sym none ∙ is)
          (no_pattern code.generator (digits 6 row) (length data_part) 3 (omega arith) (residue_not_zero code text hrp data_part (digits 6 row) (target-length target code has) refused)
          (λ i v below leaves. h i v below (subst (λ (g : List Fe32). HasRemainder fe32.ops g (digits 6 row) ((i, v) ∷ [])) has.generator leaves)))
      said-below (Some listing) none some (error, whole, (below, (value, leaves))) =
          said [] (Some listing) inside (sym none ∙ is)
          (only_one [] listing (no_erasures (length data_part))
          (subst (IsCandidate fe32.ops (length data_part) [] 3) (sym whole) (one_listed (length data_part) 3 error (omega arith) below value))
          (subst (HasRemainder fe32.ops bech32m.generator (digits 6 row)) (sym whole) leaves))

      -- one
      pub said-beside : (found : Option (List (ℕ × Fe32))) (x : ℕ) → s ≡ x ∷ [] → IsBeside (length data_part) (digits 6 row) x found
          → MatchOption found (HasNoListing code 3 text given) (λ listing. IsListingOf code 3 text given listing)
      said-beside None x one h =
          said (x ∷ []) None inside (sym one ∙ is)
          (none_beside code.generator (digits 6 row) (length data_part) 3 x refl (subst (AreErasures (length data_part)) one erased).below.0
          (λ v i w below leaves. h v i w below (subst (λ (g : List Fe32). HasRemainder fe32.ops g (digits 6 row) ((x, v) ∷ (i, w) ∷ [])) has.generator leaves)))
      said-beside (Some listing) x one (leaves, (v, which)) =
          said (x ∷ []) (Some listing) inside (sym one ∙ is)
          (only_one (x ∷ []) listing (subst (AreErasures (length data_part)) one erased) (candidate which) leaves)
        where
          candidate : (listing ≡ (x, v) ∷ []) ⊎ ((error : ℕ × Fe32) × (listing ≡ (x, v) ∷ error ∷ []) × (error.0 < length data_part) × (error.0 ≢ x) × (error.1 ≢ fe32.zero))
              → IsCandidate fe32.ops (length data_part) (x ∷ []) 3 listing
          candidate (inl alone) = subst (IsCandidate fe32.ops (length data_part) (x ∷ []) 3) (sym alone) (alone_listed (length data_part) 3 x v refl)
          candidate (inr (error, two, below, differ, some)) =
              subst (IsCandidate fe32.ops (length data_part) (x ∷ []) 3) (sym two) (beside_listed (length data_part) 3 x v error refl below differ some)

      -- two or three
      pub said-erased : (found : Option (List (ℕ × Fe32))) → 1 < length s → length s ≤ 3 → IsErasedListing bech32m.generator (digits 6 row) s found
          → MatchOption found (HasNoListing code 3 text given) (λ listing. IsListingOf code 3 text given listing)
      said-erased None some few h =
          said s None inside is
          (only_erasures is_field into apart code base 24 26 3 1023 (length data_part) refl most (target-length target code has) roots_of within
          (digits 6 row) s Absent few (omega (arith, some))
          (erased, subst (λ (g : List Fe32). IsErasedListing g (digits 6 row) s None) (sym has.generator) h)).1
      said-erased (Some listing) some few h =
          said s (Some listing) inside is
          (only_erasures is_field into apart code base 24 26 3 1023 (length data_part) refl most (target-length target code has) roots_of within
          (digits 6 row) s (Found listing) few (omega (arith, some))
          (erased, subst (λ (g : List Fe32). IsErasedListing g (digits 6 row) s (Some listing)) (sym has.generator) h)).1
