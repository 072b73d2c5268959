-- Near texts put into a buffer, and why none are.
use Rattle.std.specs.Prelude.{map, flat_map, None, Some, Result, Ok, Err, IfErr, MatchResult}
use Rattle.std.specs.List.{AllByRecursion}
use Rattle.std.proofs.Common.{◌≡◌, ◌<◌, ◌≤◌, ◌+◌, ◌*◌, ℕ, zero, suc, List, [], ◌∷◌, ◌++◌, length, length-append, suc-mul, zero-mul, take, inr, refl, sym, mul-le-mul_right, ap, subst, ◌∙◌, arith}
use Rattle.std.proofs.lemmas.List.{length-map, take_all}
use Rattle.std.proofs.lemmas.List.Folds.{flat_map-map}
use Rattle.bech32_gf.specs.Fe32.{elements_of, ops}
use Rattle.bech32_gf.specs.declared.gf32.Fe32.{Fe32}
use Rattle.bech32_poly.specs.Division.{remainder_of}
use Rattle.bech32_poly.specs.Polynomial.{add}
use Rattle.bech32_checksum.specs.Code.{Code}
use Rattle.bech32_checksum.specs.TextPolynomial.{text_polynomial}
use Rattle.bech32_decode.specs.Refusals.{HasLengths}
use Rattle.bech32_decode.specs.Text.{IsText, text_refusal}
use Rattle.bech32_decode.proofs.Grammar.{text_refusal-none}
use Rattle.bech32_encode.specs.Buffers.{IsPut}
use Rattle.bech32_near.specs.NearTexts.{AreNearTexts, IsNearText, IsOutOfMemory}
use Rattle.bech32_near.proofs.Nearby.{residue_left_by}
use Rattle.caller_memory.specs.Memory.{IsKept}
use Rattle.caller_memory.specs.declared.memory.Memory.{Memory as Lent}
use Rattle.bech32_calls.specs.Checksums.{ForChecksum, IsFaultBy}
use Rattle.bech32_calls.specs.Correct.{IsResidueFault, bound}
use Rattle.bech32_calls.specs.Fitting.{FirstFit, IsMost}
use Rattle.bech32_calls.specs.Listing.{EndsWell, IfAllPut, IfNotAllPut, LacksMemory, ListsTexts}
use Rattle.bech32_calls.specs.Nearest.{IsNearFault, IsNearFaultOrKept, IsRead, PutsFirstNear, PutsNear, joined}
use Rattle.bech32_calls.specs.declared.listed.Listed.{Listed}
use Rattle.bech32_calls.specs.declared.refusal.Refusal.{Refusal}
use Rattle.bech32_calls.specs.declared.refusal.Refusal.TheVariants.{BadNumber, Checksum, Memory, NotUtf8, Text}
use Rattle.bech32_calls.proofs.ByNumber.{fault_by, from_both, from_checksum, more_for, wrong_by}
use Rattle.bech32_calls.proofs.Fitting.{are_all, are_few, joined_first, most_mapped}
use Rattle.bech32_calls.proofs.Letters.{IsUtf8-from_text}
use Rattle.bech32_calls.proofs.Mending.{no_other_refusal}
use Rattle.bech32_calls.proofs.Puts.{put-same}

-- ---- why nothing is put

near_unread : (text given : List ℕ) (errors : ℕ) (e : Refusal) → errors ≤ 2 → (code : Code) → IsResidueFault text code e → IsNearFault text given errors code e
near_unread text given errors BadNumber few code h = absurd h
near_unread text given errors Memory few code h = absurd h
near_unread text given errors _ few code h = (few, h)

-- the same by the checksum of a number
pub near_unread_by : (n : ℕ) (text given : List ℕ) (errors : ℕ) (e : Refusal) → errors ≤ 2 → IsFaultBy n (IsResidueFault text) e → IsFaultBy n (IsNearFault text given errors) e
near_unread_by n text given errors e few =
    fault_by (IsResidueFault text) (IsNearFault text given errors) e (near_unread text given errors e few) n

-- the memory does not suffice for a text that was read
pub near_memory_by : (n : ℕ) (text given : List ℕ) (errors : ℕ) → errors ≤ 2 → ForChecksum n (λ code. IsOutOfMemory code bound text given errors) → IsFaultBy n (IsNearFault text given errors) Memory
near_memory_by n text given errors few =
    wrong_by (λ code. IsOutOfMemory code bound text given errors) (IsNearFault text given errors) Memory (λ code h. (few, h)) n

-- the residue of a text that was read, and whose lengths a checksum takes, is read
read_there : (text hrp data_part : List ℕ) → IsText text hrp data_part → (code : Code) → HasLengths code (length text) (length data_part) → IsRead text code
read_there text hrp data_part is code lengths =
    let residue : List Fe32 = add ops (remainder_of ops code.generator (text_polynomial hrp (elements_of data_part))) code.target in
    record { hrp = hrp; data_part = data_part; residue = residue; read = residue_left_by code text hrp data_part residue is lengths (λ i. refl) }

-- the memory did not come back
pub kept_of_read : (n : ℕ) (text given : List ℕ) (errors : ℕ) (old new : Lent) (hrp data_part : List ℕ) → errors ≤ 2 → IsText text hrp data_part
    → ForChecksum n (λ code. HasLengths code (length text) (length data_part)) → IsKept old new → IsNearFaultOrKept n text given errors old new Memory
kept_of_read n text given errors old new hrp data_part few is lengths kept =
    inr (refl, kept, few, more_for (λ code. HasLengths code (length text) (length data_part)) (IsRead text) (read_there text hrp data_part is) n lengths)

-- where the residue of a text is read, only memory may not suffice
read_memory : (text given : List ℕ) (errors : ℕ) (e : Refusal) → errors ≤ 2 → (code : Code) → IsRead text code → IsNearFault text given errors code e → e ≡ Memory
read_memory text given errors BadNumber few code is h = absurd (omega (arith, few, h))
read_memory text given errors Memory few code is h = refl
read_memory text given errors NotUtf8 few code is h = absurd (h.1 (IsUtf8-from_text text is.hrp is.data_part is.read.grammar))
read_memory text given errors (Text e) few code is h =
    let none : text_refusal text ≡ None = text_refusal-none text h.1.0 (is.hrp, is.data_part, is.read.grammar) in
    let some : text_refusal text ≡ Some e = h.1.1 in
    absurd (cc)
read_memory text given errors (Checksum e) few code is h = absurd (no_other_refusal code text is.hrp is.data_part is.residue e is.read h.1.1 h.1.2)
read_memory text given errors _ few code is h = absurd h.1

module _ (n : ℕ) (text given : List ℕ) (errors : ℕ) (few : errors ≤ 2) (is : ForChecksum n (IsRead text)) where
  -- the same by the checksum of a number
  pub read_memory_by : (e : Refusal) → IsFaultBy n (IsNearFault text given errors) e → e ≡ Memory
  read_memory_by e = from_both (IsRead text) (IsNearFault text given errors) e (e ≡ Memory) (read_memory text given errors e few) n is

-- ---- what is put

-- the first of them
joined_length : (code : Code) (text given : List ℕ) (errors : ℕ) (found : List (List (ℕ × Fe32) × List ℕ)) (n : ℕ) → n ≤ length found → AllByRecursion (λ m. IsNearText code bound text given errors m.1) found
    → length (joined (take n found)) ≡ n * length text
joined_length code text given errors found zero few all = sym (zero-mul (length text))
joined_length code text given errors [] (suc n) few all = absurd (omega arith)
joined_length code text given errors (m ∷ ms) (suc n) few all =
    let here : length m.1 ≡ length text = all.0.same_length in
    let rest : length (joined (take n ms)) ≡ n * length text = joined_length code text given errors ms n (omega arith) all.1 in
    let both : length (m.1 ++ joined (take n ms)) ≡ length m.1 + length (joined (take n ms)) = length-append m.1 (joined (take n ms)) in
    let sum : length (m.1 ++ joined (take n ms)) ≡ n * length text + length text = omega (arith, here, rest, both) in
    sum ∙ sym (suc-mul n (length text))

module _ {A : Type 0} (f : A → List (ℕ × Fe32) × List ℕ) (text given : List ℕ) (errors : ℕ) (near : List A) (code : Code) (are : AreNearTexts code bound text given errors (map f near)) where
  first_length : (n : ℕ) → n ≤ length near → length (flat_map (λ m. (f m).1) (take n near)) ≡ n * length text
  first_length n few =
      ap length (sym (joined_first f (λ m. m.1) near n)) ∙ joined_length code text given errors (map f near) n (omega (arith, few, length-map near f)) are.near

  pub puts_near : (old new : List ℕ) (count n : ℕ) → errors ≤ 2 → count ≡ length near → n ≡ length near
      → IsPut (flat_map (λ m. (f m).1) (take n near)) old new (length (flat_map (λ m. (f m).1) (take n near))) → PutsNear text given errors old new count code
  puts_near old new count n few counted whole put = record {
    few = few;
    found = map f near;
    near = are;
    count_is = counted ∙ sym (length-map near f);
    put = put-same (flat_map (λ m. (f m).1) (take n near)) (joined (map f near)) old new (length (flat_map (λ m. (f m).1) (take n near))) (count * length text)
        (ap (flat_map (λ m. (f m).1)) (take_all n near (omega (arith, whole))) ∙ sym (flat_map-map (λ m. m.1) f near))
        (first_length n (omega (arith, whole)) ∙ ap (λ (k : ℕ). k * length text) (whole ∙ sym counted)) put;
  }

  pub puts_first_near : (old new : List ℕ) (count n : ℕ) → errors ≤ 2 → count ≡ length near → n < length near → IsMost (FirstFit (λ m. (f m).1) near (length old)) (length near) n
      → IsPut (flat_map (λ m. (f m).1) (take n near)) old new (length (flat_map (λ m. (f m).1) (take n near))) → PutsFirstNear text given errors old new count code
  puts_first_near old new count n few counted less most put = record {
    few = few;
    found = map f near;
    near = are;
    count_is = counted ∙ sym (length-map near f);
    put_count = n;
    lacks = omega (arith, less, length-map near f);
    most = most_mapped f (λ m. m.1) near (length old) n most;
    put = put-same (flat_map (λ m. (f m).1) (take n near)) (joined (take n (map f near))) old new (length (flat_map (λ m. (f m).1) (take n near))) (n * length text)
        (sym (joined_first f (λ m. m.1) near n)) (first_length n most.within) put;
  }

-- those that do not fit are longer than the buffer
long_first : (text given : List ℕ) (errors : ℕ) (old new : List ℕ) (count : ℕ) (code : Code) → PutsFirstNear text given errors old new count code → length old < count * length text
long_first text given errors old new count code h =
    let next : length (joined (take (h.put_count + 1) h.found)) ≤ length old → ⊥ = h.most.full h.lacks in
    let size : length (joined (take (h.put_count + 1) h.found)) ≡ (h.put_count + 1) * length text =
    joined_length code text given errors h.found (h.put_count + 1) (omega (arith, h.lacks)) h.near.near in
    let few : (h.put_count + 1) * length text ≤ count * length text = mul-le-mul_right (length text) (omega (arith, h.lacks, h.count_is)) in
    omega (arith, next, size, few)

pub long_listed : (n : ℕ) (text given : List ℕ) (errors : ℕ) (old new : List ℕ) (r : Result Listed Refusal)
    → IfNotAllPut r (λ count. ForChecksum n (PutsFirstNear text given errors old new count)) → IfNotAllPut r (λ count. length old < count * length text)
long_listed n text given errors old new (Ok listed) h = λ part.
    from_checksum (PutsFirstNear text given errors old new listed.count) (length old < listed.count * length text) (long_first text given errors old new listed.count) n (h part)
long_listed n text given errors old new (Err e) h = tt

-- ---- the same by the checksum of a number, for a copy of the list

module _ {A : Type 0} (f : A → List (ℕ × Fe32) × List ℕ) (n : ℕ) (text given : List ℕ) (errors : ℕ) (near items : List A) (same : near ≡ items)
    (are : ForChecksum n (λ code. AreNearTexts code bound text given errors (map f items))) where
  these : ForChecksum n (λ code. AreNearTexts code bound text given errors (map f near))
  these = subst (λ (l : List A). ForChecksum n (λ code. AreNearTexts code bound text given errors (map f l))) (sym same) are

  pub puts_near_by : (old new : List ℕ) (count k : ℕ) → errors ≤ 2 → count ≡ length near → k ≡ length near
      → IsPut (flat_map (λ m. (f m).1) (take k near)) old new (length (flat_map (λ m. (f m).1) (take k near))) → ForChecksum n (PutsNear text given errors old new count)
  puts_near_by old new count k few counted whole put =
      more_for (λ code. AreNearTexts code bound text given errors (map f near)) (PutsNear text given errors old new count)
      (λ code h. puts_near f text given errors near code h old new count k few counted whole put) n these

  pub puts_first_near_by : (old new : List ℕ) (count k : ℕ) → errors ≤ 2 → count ≡ length near → k < length near → IsMost (FirstFit (λ m. (f m).1) near (length old)) (length near) k
      → IsPut (flat_map (λ m. (f m).1) (take k near)) old new (length (flat_map (λ m. (f m).1) (take k near))) → ForChecksum n (PutsFirstNear text given errors old new count)
  puts_first_near_by old new count k few counted less most put =
      more_for (λ code. AreNearTexts code bound text given errors (map f near)) (PutsFirstNear text given errors old new count)
      (λ code h. puts_first_near f text given errors near code h old new count k few counted less most put) n these

-- ---- what was found, listed by the checksum of a number

module _ (n : ℕ) (text given : List ℕ) (errors : ℕ) (few : errors ≤ 2) (old new : List ℕ) (r : Result Listed Refusal) {V A E : Type 0} where
  abbrev Found : Result V E → (V → List A) → (A → List (ℕ × Fe32) × List ℕ) → Type 0
  Found found items f =
      MatchResult found (λ v. ForChecksum n (λ code. AreNearTexts code bound text given errors (map f (items v)))) (λ _. ForChecksum n (λ code. IsOutOfMemory code bound text given errors))

  abbrev Lists : Result V E → (V → List A) → (A → List (ℕ × Fe32) × List ℕ) → Type 0
  Lists found items f =
      MatchResult found (λ v. EndsWell r (ListsTexts (λ m. (f m).1) (items v) old new)) (λ _. LacksMemory r × (new ≡ old))

  pub near_all : (found : Result V E) (items : V → List A) (f : A → List (ℕ × Fe32) × List ℕ) → Found found items f → Lists found items f
      → IfAllPut r (λ count. ForChecksum n (PutsNear text given errors old new count))
  near_all (Ok v) items f are (listed, is, h) =
      subst (λ (t : Result Listed Refusal). IfAllPut t (λ count. ForChecksum n (PutsNear text given errors old new count))) (sym is)
      (λ all. puts_near_by f n text given errors (items v) (items v) refl are old new listed.count h.put_count few h.count_is (are_all h.put_count (length (items v)) (sym h.fit_is ∙ all)) h.put)
  near_all (Err e) items f out h =
      subst (λ (t : Result Listed Refusal). IfAllPut t (λ count. ForChecksum n (PutsNear text given errors old new count))) (sym h.0) tt

  pub near_first : (found : Result V E) (items : V → List A) (f : A → List (ℕ × Fe32) × List ℕ) → Found found items f → Lists found items f
      → IfNotAllPut r (λ count. ForChecksum n (PutsFirstNear text given errors old new count))
  near_first (Ok v) items f are (listed, is, h) =
      subst (λ (t : Result Listed Refusal). IfNotAllPut t (λ count. ForChecksum n (PutsFirstNear text given errors old new count))) (sym is)
      (λ part. puts_first_near_by f n text given errors (items v) (items v) refl are old new listed.count h.put_count few h.count_is
      (are_few h.put_count (length (items v)) h.most.within (sym h.fit_is ∙ part)) h.most h.put)
  near_first (Err e) items f out h =
      subst (λ (t : Result Listed Refusal). IfNotAllPut t (λ count. ForChecksum n (PutsFirstNear text given errors old new count))) (sym h.0) tt

  -- only memory may not suffice, and then nothing is put
  pub near_refused : (found : Result V E) (items : V → List A) (f : A → List (ℕ × Fe32) × List ℕ) → Found found items f → Lists found items f
      → IfErr r (λ e. IsFaultBy n (IsNearFault text given errors) e × (new ≡ old))
  near_refused (Ok v) items f are (listed, is, h) =
      subst (λ (t : Result Listed Refusal). IfErr t (λ e. IsFaultBy n (IsNearFault text given errors) e × (new ≡ old))) (sym is) tt
  near_refused (Err e) items f out h =
      subst (λ (t : Result Listed Refusal). IfErr t (λ e. IsFaultBy n (IsNearFault text given errors) e × (new ≡ old))) (sym h.0) (near_memory_by n text given errors few out, h.1)
