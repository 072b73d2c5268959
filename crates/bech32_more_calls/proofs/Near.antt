-- Near texts put into a buffer, and why none are.
use Rattle.std.specs.Prelude.{map, flat_map, Result, Ok, Err, IfErr, MatchResult}
use Rattle.std.specs.List.{AllByRecursion}
use Rattle.std.proofs.Common.{◌≡◌, ◌<◌, ◌≤◌, ◌+◌, ◌*◌, ℕ, zero, suc, List, [], ◌∷◌, ◌++◌, None, Some, length, length-append, suc-mul, zero-mul, take, inl, inr, refl, sym, mul-le-mul_right, ap, subst, ◌∙◌, arith}
use Rattle.std.proofs.lemmas.List.{length-map, take_all}
use Rattle.std.proofs.lemmas.List.Folds.{flat_map-map}
use Rattle.bech32_gf.specs.Fe32.{elements_of, ops}
use Rattle.bech32_gf.specs.declared.gf32.Fe32.{Fe32}
use Rattle.bech32_poly.specs.Division.{remainder_of}
use Rattle.bech32_poly.specs.Polynomial.{add}
use Rattle.bech32_checksum.specs.Code.{Code}
use Rattle.bech32_checksum.specs.TextPolynomial.{text_polynomial}
use Rattle.bech32_decode.specs.Refusals.{HasLengths}
use Rattle.bech32_decode.specs.Text.{IsText, text_refusal}
use Rattle.bech32_decode.proofs.Grammar.{text_refusal-none}
use Rattle.bech32_encode.specs.Buffers.{IsPut}
use Rattle.bech32_lookup.specs.Question.{Question}
use Rattle.bech32_near.specs.NearTexts.{AreNearTexts, IsNearText, IsOutOfMemory, IsSearcherOf}
use Rattle.bech32_near.proofs.Found.{near_texts}
use Rattle.bech32_near.proofs.Nearby.{listings-from_outside, residue_left_by}
use Rattle.bech32_correction.specs.Given.{AreWithin}
use Rattle.caller_memory.specs.Memory.{IsKept}
use Rattle.caller_memory.specs.declared.memory.Memory.{Memory as Lent}
use Rattle.bech32_calls.specs.Correct.{IsResidueFault}
use Rattle.bech32_calls.specs.Fitting.{FirstFit, IsMost}
use Rattle.bech32_calls.specs.Listing.{EndsWell, IfAllPut, IfNotAllPut, LacksMemory, ListsTexts}
use Rattle.bech32_calls.specs.Nearest.{IsRead, joined}
use Rattle.bech32_calls.specs.declared.listed.Listed.{Listed}
use Rattle.bech32_calls.specs.declared.refusal.Refusal.{Refusal}
use Rattle.bech32_calls.specs.declared.refusal.Refusal.TheVariants.{BadNumber, Checksum, Memory, NotUtf8, Text}
use Rattle.bech32_calls.proofs.Fitting.{are_all, are_few, joined_first, most_mapped}
use Rattle.bech32_calls.proofs.Letters.{IsUtf8-from_text}
use Rattle.bech32_calls.proofs.Mending.{no_other_refusal}
use Rattle.bech32_calls.proofs.Puts.{put-same}
use Rattle.bech32_more_calls.specs.confidential.Nearest.{IsLiquidAsked, IsLiquidNearFault, IsLiquidNearFaultOrKept, IsLiquidSearched, PutsFirstLiquidNear, PutsLiquidNear, liquid_bound}

module _ (code : Code) (text given : List ℕ) (errors : ℕ) where
  -- ---- why nothing is put

  pub near_unread : (e : Refusal) → IsLiquidAsked given errors → IsResidueFault text code e → IsLiquidNearFault code text given errors e
  near_unread BadNumber few h = absurd h
  near_unread Memory few h = absurd h
  near_unread _ few h = (few, h)

  -- the memory did not come back
  pub kept_of_read : (old new : Lent) (hrp data_part : List ℕ) → IsLiquidAsked given errors → IsText text hrp data_part
      → HasLengths code (length text) (length data_part) → AreWithin (length data_part) liquid_bound given → IsKept old new
      → IsLiquidNearFaultOrKept code text given errors old new Memory
  kept_of_read old new hrp data_part few is lengths within kept =
      let residue : List Fe32 = add ops (remainder_of ops code.generator (text_polynomial hrp (elements_of data_part))) code.target in
      let read : IsRead text code = record { hrp = hrp; data_part = data_part; residue = residue; read = residue_left_by code text hrp data_part residue is lengths (λ i. refl) } in
      inr (refl, kept, few, (hrp, data_part, is, within), read)

  -- where the residue of a text is read, only memory may not suffice
  pub read_memory : (e : Refusal) → IsLiquidAsked given errors → IsRead text code → IsLiquidNearFault code text given errors e → e ≡ Memory
  read_memory BadNumber few is h = absurd (h few)
  read_memory Memory few is h = refl
  read_memory NotUtf8 few is h = absurd (h.1 (IsUtf8-from_text text is.hrp is.data_part is.read.grammar))
  read_memory (Text e) few is h =
      let none : text_refusal text ≡ None = text_refusal-none text h.1.0 (is.hrp, is.data_part, is.read.grammar) in
      let some : text_refusal text ≡ Some e = h.1.1 in
      absurd (cc)
  read_memory (Checksum e) few is h = absurd (no_other_refusal code text is.hrp is.data_part is.residue e is.read h.1.1 h.1.2)
  read_memory _ few is h = absurd h.1

  pub read_memory_or_kept : (old new : Lent) (r : Result Listed Refusal) → IsLiquidAsked given errors → IsRead text code
      → IfErr r (IsLiquidNearFaultOrKept code text given errors old new) → IfErr r (λ e. e ≡ Memory)
  read_memory_or_kept old new (Ok listed) few is h = h
  read_memory_or_kept old new (Err e) few is (inl h) = read_memory e few is h
  read_memory_or_kept old new (Err e) few is (inr h) = h.0

  -- ---- nothing to search

  -- where a given location is not in the data part, or they are more than the bound, no text is near
  none_near : length code.target ≡ length code.generator → 0 < length code.generator → (hrp data_part : List ℕ) → IsText text hrp data_part
      → HasLengths code (length text) (length data_part) → (AreWithin (length data_part) liquid_bound given → ⊥) → AreNearTexts code liquid_bound text given errors []
  none_near size some hrp data_part is lengths outside =
      let residue : List Fe32 = add ops (remainder_of ops code.generator (text_polynomial hrp (elements_of data_part))) code.target in
      let read = residue_left_by code text hrp data_part residue is lengths (λ i. refl) in
      let c : Question = record { residue = residue; window = length data_part; erasures = [] } in
      let searcher : IsSearcherOf code text c = record { hrp = hrp; data_part = data_part; read = read; window = refl; fresh = refl } in
      let none : List (List (ℕ × Fe32) × List ℕ) = [] in
      near_texts code liquid_bound errors text given size (λ (m : List (ℕ × Fe32) × List ℕ). m.0) (λ (m : List (ℕ × Fe32) × List ℕ). m.1) [] none
      (listings-from_outside code liquid_bound errors text given c some searcher [] outside refl) refl tt

  pub puts_none : length code.target ≡ length code.generator → 0 < length code.generator → (hrp data_part old : List ℕ) → IsLiquidAsked given errors → IsText text hrp data_part
      → HasLengths code (length text) (length data_part) → (AreWithin (length data_part) liquid_bound given → ⊥) → PutsLiquidNear code text given errors old old 0
  puts_none size some hrp data_part old few is lengths outside = record {
    asked = few;
    found = [];
    near = none_near size some hrp data_part is lengths outside;
    count_is = refl;
    put = record { fits = omega arith; buffer = refl; count_is = zero-mul (length text) };
  }

  -- ---- what is put

  -- the first of them
  joined_length : (found : List (List (ℕ × Fe32) × List ℕ)) (n : ℕ) → n ≤ length found → AllByRecursion (λ m. IsNearText code liquid_bound text given errors m.1) found
      → length (joined (take n found)) ≡ n * length text
  joined_length found zero few all = sym (zero-mul (length text))
  joined_length [] (suc n) few all = absurd (omega arith)
  joined_length (m ∷ ms) (suc n) few all =
      let here : length m.1 ≡ length text = all.0.same_length in
      let rest : length (joined (take n ms)) ≡ n * length text = joined_length ms n (omega arith) all.1 in
      let both : length (m.1 ++ joined (take n ms)) ≡ length m.1 + length (joined (take n ms)) = length-append m.1 (joined (take n ms)) in
      let sum : length (m.1 ++ joined (take n ms)) ≡ n * length text + length text = omega (arith, here, rest, both) in
      sum ∙ sym (suc-mul n (length text))

  module _ {A : Type 0} (f : A → List (ℕ × Fe32) × List ℕ) (near items : List A) (same : near ≡ items) (found : AreNearTexts code liquid_bound text given errors (map f items)) where
    are : AreNearTexts code liquid_bound text given errors (map f near)
    are = subst (λ (l : List A). AreNearTexts code liquid_bound text given errors (map f l)) (sym same) found

    first_length : (n : ℕ) → n ≤ length near → length (flat_map (λ m. (f m).1) (take n near)) ≡ n * length text
    first_length n few =
        ap length (sym (joined_first f (λ m. m.1) near n)) ∙ joined_length (map f near) n (omega (arith, few, length-map near f)) are.near

    pub puts_near : (old new : List ℕ) (count n : ℕ) → IsLiquidAsked given errors → count ≡ length near → n ≡ length near
        → IsPut (flat_map (λ m. (f m).1) (take n near)) old new (length (flat_map (λ m. (f m).1) (take n near))) → PutsLiquidNear code text given errors old new count
    puts_near old new count n few counted whole put = record {
      asked = few;
      found = map f near;
      near = are;
      count_is = counted ∙ sym (length-map near f);
      put = put-same (flat_map (λ m. (f m).1) (take n near)) (joined (map f near)) old new (length (flat_map (λ m. (f m).1) (take n near))) (count * length text)
          (ap (flat_map (λ m. (f m).1)) (take_all n near (omega (arith, whole))) ∙ sym (flat_map-map (λ m. m.1) f near))
          (first_length n (omega (arith, whole)) ∙ ap (λ (k : ℕ). k * length text) (whole ∙ sym counted)) put;
    }

    pub puts_first_near : (old new : List ℕ) (count n : ℕ) → IsLiquidAsked given errors → count ≡ length near → n < length near
        → IsMost (FirstFit (λ m. (f m).1) near (length old)) (length near) n
        → IsPut (flat_map (λ m. (f m).1) (take n near)) old new (length (flat_map (λ m. (f m).1) (take n near))) → PutsFirstLiquidNear code text given errors old new count
    puts_first_near old new count n few counted less most put = record {
      asked = few;
      found = map f near;
      near = are;
      count_is = counted ∙ sym (length-map near f);
      put_count = n;
      lacks = omega (arith, less, length-map near f);
      most = most_mapped f (λ m. m.1) near (length old) n most;
      put = put-same (flat_map (λ m. (f m).1) (take n near)) (joined (take n (map f near))) old new (length (flat_map (λ m. (f m).1) (take n near))) (n * length text)
          (sym (joined_first f (λ m. m.1) near n)) (first_length n most.within) put;
    }

  -- those that do not fit are longer than the buffer
  long_first : (old new : List ℕ) (count : ℕ) → PutsFirstLiquidNear code text given errors old new count → length old < count * length text
  long_first old new count h =
      let next : length (joined (take (h.put_count + 1) h.found)) ≤ length old → ⊥ = h.most.full h.lacks in
      let size : length (joined (take (h.put_count + 1) h.found)) ≡ (h.put_count + 1) * length text =
      joined_length h.found (h.put_count + 1) (omega (arith, h.lacks)) h.near.near in
      let few : (h.put_count + 1) * length text ≤ count * length text = mul-le-mul_right (length text) (omega (arith, h.lacks, h.count_is)) in
      omega (arith, next, size, few)

  pub long_listed : (old new : List ℕ) (r : Result Listed Refusal) → IfNotAllPut r (PutsFirstLiquidNear code text given errors old new)
      → IfNotAllPut r (λ count. length old < count * length text)
  long_listed old new (Ok listed) h = λ part. long_first old new listed.count (h part)
  long_listed old new (Err e) h = tt

  -- ---- what was found, listed

  module _ (few : IsLiquidAsked given errors) (searched : IsLiquidSearched text given) (old new : List ℕ) (r : Result Listed Refusal) {V A E : Type 0} where
    abbrev Found : Result V E → (V → List A) → (A → List (ℕ × Fe32) × List ℕ) → Type 0
    Found found items f = MatchResult found (λ v. AreNearTexts code liquid_bound text given errors (map f (items v))) (λ _. IsOutOfMemory code liquid_bound text given errors)

    abbrev Lists : Result V E → (V → List A) → (A → List (ℕ × Fe32) × List ℕ) → Type 0
    Lists found items f =
        MatchResult found (λ v. EndsWell r (ListsTexts (λ m. (f m).1) (items v) old new)) (λ _. LacksMemory r × (new ≡ old))

    pub near_all : (found : Result V E) (items : V → List A) (f : A → List (ℕ × Fe32) × List ℕ) → Found found items f → Lists found items f
        → IfAllPut r (PutsLiquidNear code text given errors old new)
    near_all (Ok v) items f are (listed, is, h) =
        subst (λ (t : Result Listed Refusal). IfAllPut t (PutsLiquidNear code text given errors old new)) (sym is)
        (λ all. puts_near f (items v) (items v) refl are old new listed.count h.put_count few h.count_is (are_all h.put_count (length (items v)) (sym h.fit_is ∙ all)) h.put)
    near_all (Err e) items f out h = subst (λ (t : Result Listed Refusal). IfAllPut t (PutsLiquidNear code text given errors old new)) (sym h.0) tt

    pub near_first : (found : Result V E) (items : V → List A) (f : A → List (ℕ × Fe32) × List ℕ) → Found found items f → Lists found items f
        → IfNotAllPut r (PutsFirstLiquidNear code text given errors old new)
    near_first (Ok v) items f are (listed, is, h) =
        subst (λ (t : Result Listed Refusal). IfNotAllPut t (PutsFirstLiquidNear code text given errors old new)) (sym is)
        (λ part. puts_first_near f (items v) (items v) refl are old new listed.count h.put_count few h.count_is
        (are_few h.put_count (length (items v)) h.most.within (sym h.fit_is ∙ part)) h.most h.put)
    near_first (Err e) items f out h = subst (λ (t : Result Listed Refusal). IfNotAllPut t (PutsFirstLiquidNear code text given errors old new)) (sym h.0) tt

    -- only memory may not suffice, and then nothing is put
    pub near_refused : (found : Result V E) (items : V → List A) (f : A → List (ℕ × Fe32) × List ℕ) → Found found items f → Lists found items f
        → IfErr r (λ e. IsLiquidNearFault code text given errors e × (new ≡ old))
    near_refused (Ok v) items f _ (listed, is, h) =
        subst (λ (t : Result Listed Refusal). IfErr t (λ e. IsLiquidNearFault code text given errors e × (new ≡ old))) (sym is) tt
    near_refused (Err e) items f out h =
        subst (λ (t : Result Listed Refusal). IfErr t (λ e. IsLiquidNearFault code text given errors e × (new ≡ old))) (sym h.0) ((few, (searched, out)), h.1)
