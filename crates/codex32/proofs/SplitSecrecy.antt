-- Shares of a split, one fewer than the threshold: each secret has one way to deal them.
use Rattle.std.specs.Prelude.{◌||◌}
use Rattle.std.specs.List.{AllByRecursion}
use Rattle.std.proofs.Common.{◌≡◌, ◌≢◌, ℕ, zero, suc, ◌+◌, ◌-◌, ◌*◌, ◌<◌, ◌≤◌, Bool, true, false, cond, List, [], ◌∷◌, ◌++◌, length, map, take, drop, inl, inr, refl, sym, ap, subst, ◌∙◌, arith, add-mul, suc-mul, zero-mul}
use Rattle.std.proofs.lemmas.Bool.{cases_lt}
use Rattle.std.proofs.lemmas.List.{drop_at, length-append, length-map, take_at}
use Rattle.bech32_bits.specs.Bits.{to_fes}
use Rattle.bech32_bits.proofs.RoundTrip.{length-to_fes}
use Rattle.bech32_gf.specs.Fe32.{ops}
use Rattle.bech32_gf.specs.declared.gf32.Fe32.{Fe32}
use Rattle.bech32_gf.specs.laws.Fe32Laws.{is_field}
use Rattle.bech32_poly.specs.Distinct.{IsNotAmong, IsOnce}
use Rattle.bech32_poly.proofs.Lists.{same_cons}
use Rattle.bech32_encode.specs.ExactlyOne.{ExactlyOne}
use Rattle.bech32_checksum.specs.Code.{Code}
use Rattle.bech32_checksum.specs.Encoded.{IsEncodedText, spelled}
use Rattle.bech32_checksum.specs.TextPolynomial.{hrp_elements}
use Rattle.bech32_checksum.proofs.Uniqueness.{one_text, text_exists}
use Rattle.codex32_steady.specs.shares.Shares.{AreDerived, AreShares, IsDerived}
use Rattle.codex32_steady.proofs.Dealt.{one_dealing_of_strings}
use Rattle.codex32_steady.proofs.Strings.{derived_string, shares_of}
use Rattle.codex32_steady.proofs.ShareTexts.{derived_unique}
use Rattle.codex32_steady.proofs.Written.{length-mapped}
use Rattle.codex32.specs.Code.{codex32, long_codex32}
use Rattle.codex32.specs.Derive.{IsDerivedString, IsWholeSet, count_of, indices_of, rows_of, size_of}
use Rattle.codex32.specs.Encode.{code_of_byte_count, code_of_payload_count, is_byte_count, is_long_byte_count}
use Rattle.codex32.specs.Header.{header_elements}
use Rattle.codex32.specs.HeaderParts.{secret_index, threshold_number}
use Rattle.codex32.specs.Secrecy.{AreOneTooFew, DealKnown, HasOneDeal}
use Rattle.codex32.specs.Share.{AreSharesOf, IsEither, index_of_share}
use Rattle.codex32.specs.ShareParts.{ms}
use Rattle.codex32.specs.Split.{IsHeaderOfParts, IsOwnString, IsPayloadString, IsSplit, drawn, drawn_for, first_texts, payload_count, random_size, split_index, string_size, text_at, text_size}
use Rattle.codex32.specs.declared.header.Header.{Header}
use Rattle.codex32.specs.declared.identifier.Identifier.{Identifier}
use Rattle.codex32.specs.declared.share.Share.{Share}
use Rattle.codex32.specs.declared.threshold.Threshold.{Threshold}
use Rattle.codex32.proofs.DealtTexts.{length-drawn}
use Rattle.codex32.proofs.DerivedStrings.{alone, derived-from_given}
use Rattle.codex32.proofs.MadeTexts.{either-from_made, made-own, same_size, sized}
use Rattle.codex32.proofs.OneString.{one}
use Rattle.codex32.proofs.ShareTexts.{shares-exist}
use Rattle.codex32.proofs.SplitBase.{AreMade, base-agree, base-count, base-indices, base-whole, length-base, size-first_text}
use Rattle.codex32.proofs.SplitIndices.{indices-once, indices_from, secret-behind, split-differ, split-not_secret}
use Rattle.codex32.proofs.SplitMade.{are-made, first-made, split-from_others}
use Rattle.codex32.proofs.SplitRefusals.{CanSplit}
use Rattle.codex32.proofs.SplitRows.{AreRows, IsRow, dealt-long, dealt-rows, dealt_payloads, encoded-row, front_of, joined, joined-dealt, joined-same, length-joined, length-row, length-spelled, row-encoded, row-spelled, row_of, row_size, rows-long, share-rows, with_header}
use Rattle.codex32.proofs.TextAt.{first-same, length-text_at, slot-fits, text_at-behind, text_at-front, text_first, text_next}

-- ---- strings and rows

header_at : (t : Threshold) (i : Identifier) (x : Fe32) → (threshold_number t ≡ 0 → ⊥) → (h : Header) × IsHeaderOfParts t i x h
header_at t i x shared = (record { threshold = t; identifier = i; share_index = x; unshared = λ e. absurd (shared e) }, record { threshold_is = refl; identifier_is = refl; share_index_is = refl })

target_size : (b : Bool) → length (cond b codex32 long_codex32).target ≡ length (cond b codex32 long_codex32).generator
target_size true = refl
target_size false = refl

-- a secret has its own string, and no other
own-exists : (t : Threshold) (i : Identifier) (secret : List ℕ) → (threshold_number t ≡ 0 → ⊥) → (text : List ℕ) × IsOwnString t i secret text
own-exists t i secret shared =
    let h = header_at t i secret_index shared in
    let found = text_exists (code_of_byte_count (length secret)) ms (header_elements h.0 ++ to_fes secret) (target_size (is_byte_count (length secret))) in
    (found.0, record { header = h.0; header_is = h.1; is_encoded = found.1 })

own-once : (t : Threshold) (i : Identifier) (secret a b : List ℕ) → IsOwnString t i secret a → IsOwnString t i secret b → a ≡ b
own-once t i secret a b is other =
    let code : Code = code_of_byte_count (length secret) in
    let same : header_elements other.header ++ to_fes secret ≡ header_elements is.header ++ to_fes secret =
    with_header t i (payload_count (length secret)) secret_index other.header (to_fes secret) other.header_is ∙ sym (with_header t i (payload_count (length secret)) secret_index is.header (to_fes secret) is.header_is) in
    one_text code ms ms (header_elements is.header ++ to_fes secret) a b refl is.is_encoded (subst (λ (u : List Fe32). IsEncodedText code ms u b) same other.is_encoded)

module _ (t : Threshold) (i : Identifier) (m : ℕ) where
  own-row : (secret own : List ℕ) → payload_count (length secret) ≡ m → is_byte_count (length secret) || is_long_byte_count (length secret) ≡ true → IsOwnString t i secret own
      → IsRow t i m secret_index (to_fes secret) (row_of own) × (own ≡ spelled ms (row_of own))
  own-row secret own m_is counted is =
      let code : code_of_byte_count (length secret) ≡ code_of_payload_count m = sym (sized (length secret) counted).same_code ∙ ap code_of_payload_count m_is in
      row-encoded t i m secret_index is.header (to_fes secret) own (length-to_fes secret ∙ m_is) is.header_is (subst (λ (c : Code). IsEncodedText c ms (header_elements is.header ++ to_fes secret) own) code is.is_encoded)

  payload-row : (x : Fe32) (p : List Fe32) (text : List ℕ) → length p ≡ m → IsPayloadString t i x p text → IsRow t i m x p (row_of text)
  payload-row x p text size is = (row-encoded t i m x is.header p text size is.header_is (subst (λ (k : ℕ). IsEncodedText (code_of_payload_count k) ms (header_elements is.header ++ p) text) size is.is_encoded)).0

  row-payload : (x : Fe32) (p es : List Fe32) → (threshold_number t ≡ 0 → ⊥) → IsRow t i m x p es → IsPayloadString t i x p (spelled ms es)
  row-payload x p es shared row =
      let h = header_at t i x shared in
      record {
        header = h.0;
        header_is = h.1;
        is_encoded = subst (λ (k : ℕ). IsEncodedText (code_of_payload_count k) ms (header_elements h.0 ++ p) (spelled ms es)) (sym row.size) (encoded-row t i m x h.0 p es h.1 row);
      }

-- ---- indices

length-indices : (from k : ℕ) → length (indices_from from k) ≡ k
length-indices from zero = refl
length-indices from (suc k) = ap suc (length-indices (suc from) k)

other-index : (j k : ℕ) → j < 31 → k < 31 → j ≢ k → split_index j ≢ split_index k
other-index j k a b apart = elim (cases_lt j k) [
  | inl less ↦ split-differ j k less b
  | inr past ↦ elim (cases_lt k j) [
    | inl less ↦ λ e. split-differ k j less a (sym e)
    | inr over ↦ absurd (apart (omega (arith, past, over)))
  ]
]

module _ (count : ℕ) (few : count ≤ 31) where
  not-among : (j : ℕ) (js : List ℕ) → j < count → AllByRecursion (λ (k : ℕ). k < count) js → IsNotAmong j js → IsNotAmong (split_index j) (map split_index js)
  not-among j [] less within apart = tt
  not-among j (k ∷ ks) less within apart = (other-index j k (omega (arith, less, few)) (let below = within.0 in omega (arith, below, few)) apart.0, not-among j ks less within.1 apart.1)

  indices-differ : (js : List ℕ) → AllByRecursion (λ (k : ℕ). k < count) js → IsOnce js → IsOnce (map split_index js)
  indices-differ [] within once = tt
  indices-differ (j ∷ js) within once = (not-among j js within.0 within.1 once.0, indices-differ js within.1 once.1)

  no-secret : (js : List ℕ) → AllByRecursion (λ (k : ℕ). k < count) js → IsNotAmong secret_index (map split_index js)
  no-secret [] within = tt
  no-secret (j ∷ js) within = (split-not_secret j (let below = within.0 in omega (arith, below, few)), no-secret js within.1)

-- ---- what a split gives

module _ (t : Threshold) (i : Identifier) (m : ℕ) (secret random : List ℕ) (count n room : ℕ) (texts : List ℕ) (m_is : payload_count (length secret) ≡ m) (can : CanSplit t (length secret) count random room) (split : IsSplit t i secret random count n texts) where
  abbrev k : ℕ
  k = threshold_number t - 1

  abbrev xs : List Fe32
  xs = secret_index ∷ indices_from 0 k

  abbrev rows : List (List Fe32)
  rows = row_of split.own ∷ map row_of (first_texts n texts k)

  abbrev payloads : List (List Fe32)
  payloads = to_fes secret ∷ dealt_payloads m random k

  made : AreMade t i n split.own texts k
  made = are-made t i secret random split.own count room can split.is_own n k texts split.n_is refl split.are_drawn

  own_row : IsRow t i m secret_index (to_fes secret) (row_of split.own) × (split.own ≡ spelled ms (row_of split.own))
  own_row = own-row t i m secret split.own m_is can.counted split.is_own

  drawn_row : (j : ℕ) → j < k → IsRow t i m (split_index j) (drawn_for m random j) (row_of (text_at n texts j))
  drawn_row j less =
      let all : k * m ≤ length random = let e = can.random_is ∙ ap (λ (l : ℕ). k * l) m_is in omega (arith, e) in
      let size : length (drawn_for m random j) ≡ m = length-drawn (text_at m random j) ∙ length-text_at k m random j all less in
      payload-row t i m (split_index j) (drawn_for m random j) (text_at n texts j) size
      (subst (λ (l : ℕ). IsPayloadString t i (split_index j) (drawn_for l random j) (text_at n texts j)) m_is (split.are_drawn j less))

  dealt_are : AreRows t i m (indices_from 0 k) (dealt_payloads m random k) (map row_of (first_texts n texts k))
  dealt_are =
      dealt-rows t i m n 0 random texts k (λ j less.
      let e : j ≡ 0 + j = omega arith in
      subst (λ (y : ℕ). IsRow t i m (split_index y) (drawn_for m random j) (row_of (text_at n texts j))) e (drawn_row j less))

  rows_are : AreRows t i m xs payloads rows
  rows_are = (own_row.0, dealt_are)

  once : IsOnce xs
  once = let few : 0 + k ≤ 31 = let a = can.enough in let b = can.few in omega (arith, a, b) in (secret-behind 0 k few, indices-once 0 k few)

  -- each of its texts
  gives : (x : Fe32) (text : List ℕ) → IsDerivedString split.base x text → IsDerived ops xs rows (row_size t i m) x (row_of text) × (text ≡ spelled ms (row_of text))
  gives x text is =
      let base = split.base in
      let indices : indices_of base ≡ xs = base-indices t i n split.own texts k made base split.are_base in
      let same : rows_of base ≡ rows = share-rows (split.own ∷ first_texts n texts k) base split.are_base in
      let row : row_of text ≡ is.elements = row-spelled text is.elements is.spelling in
      let enough : count_of base ≤ length (indices_of base) =
      let a = base-count t i n split.own texts k made base split.are_base in
      let b = length-base t i n split.own texts k made base split.are_base in
      let c = length-mapped (λ (s : Share). index_of_share s) base in
      omega (arith, a, b, c) in
      let size : size_of base ≡ row_size t i m =
      let a = size-first_text split.own (first_texts n texts k) base split.are_base in
      let b = ap (λ (u : List ℕ). length u) own_row.1 ∙ length-spelled (row_of split.own) in
      let c = length-row t i m secret_index (to_fes secret) (row_of split.own) own_row.0 in
      omega (arith, a, b) ∙ c in
      let derived : IsDerived ops (indices_of base) (rows_of base) (size_of base) x is.elements = derived-from_given (count_of base) (indices_of base) (rows_of base) (size_of base) x is.elements enough is.given in (
        subst (λ (es : List Fe32). IsDerived ops xs rows (row_size t i m) x es) (sym row)
            (subst (λ (l : ℕ). IsDerived ops xs rows l x is.elements) size
            (subst (λ (rs : List (List Fe32)). IsDerived ops xs rs (size_of base) x is.elements) same (subst (λ (ys : List Fe32). IsDerived ops ys (rows_of base) (size_of base) x is.elements) indices derived))),
        is.spelling ∙ ap (spelled ms) (sym row),
      )

  gives_at : (j : ℕ) → j < count → IsDerived ops xs rows (row_size t i m) (split_index j) (row_of (text_at n texts j)) × (text_at n texts j ≡ spelled ms (row_of (text_at n texts j)))
  gives_at j less = gives (split_index j) (text_at n texts j) (split.are_derived j less)

  -- those of some numbers
  gives-all : (js : List ℕ) → AllByRecursion (λ (j : ℕ). j < count) js → AreDerived ops xs rows (row_size t i m) (map split_index js) (map (λ (j : ℕ). row_of (text_at n texts j)) js)
  gives-all [] within = tt
  gives-all (j ∷ js) within = ((gives_at j within.0).0, gives-all js within.1)

  known-rows : (js : List ℕ) → 1 ≤ k → AllByRecursion (λ (j : ℕ). j < count) js → (ps : List (List Fe32)) × AreRows t i m (map split_index js) ps (map (λ (j : ℕ). row_of (text_at n texts j)) js)
  known-rows [] some within = ([], tt)
  known-rows (j ∷ js) some within =
      let code : Code = code_of_payload_count m in
      let rest = known-rows js some within.1 in
      let two : 2 ≤ length xs = let e = length-indices 0 k in omega (arith, e, some) in
      let h = derived_string is_field (hrp_elements ms) code.generator code.target (front_of t i) m xs payloads rows (split_index j) (row_of (text_at n texts j)) once two rows_are (gives_at j within.0).0 in
      (h.0 ∷ rest.0, (h.1, rest.1))

-- ---- two rows of texts of which some are the same

module _ (xs : List Fe32) (rows : List (List Fe32)) (l n : ℕ) (texts others : List ℕ) where
  moved : (js : List ℕ) → AllByRecursion (λ (j : ℕ). text_at n others j ≡ text_at n texts j) js → AreDerived ops xs rows l (map split_index js) (map (λ (j : ℕ). row_of (text_at n others j)) js)
      → AreDerived ops xs rows l (map split_index js) (map (λ (j : ℕ). row_of (text_at n texts j)) js)
  moved [] same are = tt
  moved (j ∷ js) same are = (subst (λ (u : List ℕ). IsDerived ops xs rows l (split_index j) (row_of u)) same.0 are.0, moved js same.1 are.1)

-- ---- texts of rows

abbrev row_texts : List (List Fe32) → List ℕ
row_texts [] = []
row_texts (e ∷ es) = spelled ms e ++ row_texts es

module _ (n : ℕ) where
  abbrev AreLong : List (List Fe32) → Type 0
  AreLong rows = AllByRecursion (λ (e : List Fe32). 3 + length e ≡ n) rows

  long_text : (e : List Fe32) → 3 + length e ≡ n → length (spelled ms e) ≡ n
  long_text e size = length-spelled e ∙ size

  length-row_texts : (es : List (List Fe32)) → AreLong es → length (row_texts es) ≡ length es * n
  length-row_texts [] all = sym (zero-mul n)
  length-row_texts (e ∷ es) all =
      let rest = length-row_texts es all.1 in
      let first = long_text e all.0 in
      omega (arith, length-append (spelled ms e) (row_texts es), rest, first, suc-mul (length es) n)

  first-row_texts : (es : List (List Fe32)) → AreLong es → map row_of (first_texts n (row_texts es) (length es)) ≡ es
  first-row_texts [] all = refl
  first-row_texts (e ∷ es) all =
      let front : take n (spelled ms e ++ row_texts es) ≡ spelled ms e = take_at (spelled ms e) (row_texts es) n (long_text e all.0) in
      let behind : drop n (spelled ms e ++ row_texts es) ≡ row_texts es = drop_at (spelled ms e) (row_texts es) n (long_text e all.0) in
      ap (λ (u : List ℕ). row_of u ∷ map row_of (first_texts n (drop n (spelled ms e ++ row_texts es)) (length es))) front
      ∙ ap (λ (es' : List Fe32). es' ∷ map row_of (first_texts n (drop n (spelled ms e ++ row_texts es)) (length es))) (row-spelled (spelled ms e) e refl)
      ∙ ap (λ (u : List ℕ). e ∷ map row_of (first_texts n u (length es))) behind
      ∙ ap (λ (rs : List (List Fe32)). e ∷ rs) (first-row_texts es all.1)

  payloads-row_texts : (t : Threshold) (i : Identifier) (m from : ℕ) (random : List ℕ) (l : ℕ) (es : List (List Fe32)) → (threshold_number t ≡ 0 → ⊥) → AreLong es
      → AreRows t i m (indices_from from l) (dealt_payloads m random l) es → (j : ℕ) → j < l → IsPayloadString t i (split_index (from + j)) (drawn_for m random j) (text_at n (row_texts es) j)
  payloads-row_texts t i m from random zero es shared all are j less = absurd (omega (arith, less))
  payloads-row_texts t i m from random (suc l) [] shared all are j less = absurd are
  payloads-row_texts t i m from random (suc l) (e ∷ es) shared all are zero less =
      let front : spelled ms e ≡ text_at n (row_texts (e ∷ es)) 0 = sym (text_first n (row_texts (e ∷ es)) ∙ take_at (spelled ms e) (row_texts es) n (long_text e all.0)) in
      let here : from ≡ from + 0 = omega arith in
      subst (λ (y : ℕ). IsPayloadString t i (split_index y) (drawn_for m random 0) (text_at n (row_texts (e ∷ es)) 0)) here
      (subst (λ (r : List ℕ). IsPayloadString t i (split_index from) (drawn r) (text_at n (row_texts (e ∷ es)) 0)) (sym (text_first m random))
      (subst (λ (u : List ℕ). IsPayloadString t i (split_index from) (drawn (take m random)) u) front (row-payload t i m (split_index from) (drawn (take m random)) e shared are.0)))
  payloads-row_texts t i m from random (suc l) (e ∷ es) shared all are (suc j) less =
      let behind : drop n (row_texts (e ∷ es)) ≡ row_texts es = drop_at (spelled ms e) (row_texts es) n (long_text e all.0) in
      let next : text_at n (row_texts es) j ≡ text_at n (row_texts (e ∷ es)) (suc j) = ap (λ (u : List ℕ). text_at n u j) (sym behind) ∙ sym (text_next n (row_texts (e ∷ es)) j) in
      let here : suc from + j ≡ from + suc j = omega arith in
      subst (λ (y : ℕ). IsPayloadString t i (split_index y) (drawn_for m random (suc j)) (text_at n (row_texts (e ∷ es)) (suc j))) here
      (subst (λ (r : List ℕ). IsPayloadString t i (split_index (suc from + j)) (drawn r) (text_at n (row_texts (e ∷ es)) (suc j))) (sym (text_next m random j))
      (subst (λ (u : List ℕ). IsPayloadString t i (split_index (suc from + j)) (drawn_for m (drop m random) j) u) next
      (payloads-row_texts t i m (suc from) (drop m random) l es shared all.1 are.1 j (omega (arith, less)))))

  -- texts that are found one by one stand one behind another
  gathered : (P : ℕ → List ℕ → Type 0) (l : ℕ) → ((j : ℕ) → j < l → (u : List ℕ) × (length u ≡ n) × P j u) → (texts : List ℕ) × (length texts ≡ l * n) × ((j : ℕ) → j < l → P j (text_at n texts j))
  gathered P zero each = ([], sym (zero-mul n), λ j less. absurd (omega (arith, less)))
  gathered P (suc l) each =
      let rest = gathered P l (λ j less. each j (omega (arith, less))) in
      let last = each l (omega arith) in
      let here : text_at n (rest.0 ++ last.0) (l + 0) ≡ last.0 =
      text_at-behind l n rest.0 last.0 0 rest.1 ∙ text_first n last.0 ∙ ap (λ (l : ℕ). take l last.0) (sym last.1) ∙ take-all last.0 in (
        rest.0 ++ last.0,
        (let a = rest.1 in let b = last.1 in omega (arith, length-append rest.0 last.0, a, b, suc-mul l n)),
        λ j less.
            elim (cases_lt j l) [
              | inl below ↦ subst (P j) (sym (text_at-front n rest.0 last.0 j (let a = rest.1 in omega (arith, slot-fits j l n below, a)))) (rest.2 j below)
              | inr past ↦
                  let e : l ≡ j = omega (arith, less, past) in
                  let z : l + 0 ≡ l = omega arith in
                  subst (λ (y : ℕ). P y (text_at n (rest.0 ++ last.0) y)) e (subst (P l) (sym (ap (λ (y : ℕ). text_at n (rest.0 ++ last.0) y) (sym z) ∙ here)) last.2)
            ],
      )
    where
      take-all : (us : List ℕ) → take (length us) us ≡ us
      take-all [] = refl
      take-all (u ∷ us) = ap (λ (vs : List ℕ). u ∷ vs) (take-all us)

rows-sized : (t : Threshold) (i : Identifier) (m n : ℕ) (ys : List Fe32) (ps es : List (List Fe32)) → 3 + row_size t i m ≡ n → AreRows t i m ys ps es → AllByRecursion (λ (e : List Fe32). 3 + length e ≡ n) es
rows-sized t i m n [] [] [] e are = tt
rows-sized t i m n [] [] (r ∷ rs) e are = absurd are
rows-sized t i m n [] (p ∷ ps) es e are = absurd are
rows-sized t i m n (x ∷ ys) [] es e are = absurd are
rows-sized t i m n (x ∷ ys) (p ∷ ps) [] e are = absurd are
rows-sized t i m n (x ∷ ys) (p ∷ ps) (r ∷ rs) e are = (ap (λ (l : ℕ). 3 + l) (length-row t i m x p r are.0) ∙ e, rows-sized t i m n ys ps rs e are.1)

-- ---- a split that goes on from the first texts

either_first : (n : ℕ) (texts : List ℕ) (k : ℕ) → ((j : ℕ) → j < k → IsEither (text_at n texts j)) → AllByRecursion IsEither (first_texts n texts k)
either_first n texts zero each = tt
either_first n texts (suc k) each = (
  subst IsEither (text_first n texts) (each 0 (omega arith)),
  either_first n (drop n texts) k (λ j less. subst IsEither (text_next n texts j) (each (suc j) (omega (arith, less)))),
)

pub split-exists : (t : Threshold) (i : Identifier) (secret random own : List ℕ) (count room : ℕ) → CanSplit t (length secret) count random room → IsOwnString t i secret own → (texts : List ℕ)
    → length texts ≡ (threshold_number t - 1) * text_size (length secret)
    → ((j : ℕ) → j < threshold_number t - 1 → IsPayloadString t i (split_index j) (drawn_for (payload_count (length secret)) random j) (text_at (text_size (length secret)) texts j))
    → (new : List ℕ) × IsSplit t i secret random count (text_size (length secret)) new × ((j : ℕ) → j < threshold_number t - 1 → text_at (text_size (length secret)) new j ≡ text_at (text_size (length secret)) texts j)
split-exists t i secret random own count room can is_own texts size are =
    let k : ℕ = threshold_number t - 1 in
    let m : ℕ = payload_count (length secret) in
    let n : ℕ = length own in
    let own_made = made-own t i secret own can.counted is_own in
    let long : n ≡ text_size (length secret) = own_made.size in
    let strings : (j : ℕ) → j < k → IsPayloadString t i (split_index j) (drawn_for m random j) (text_at (string_size m) texts j) =
    λ j less. subst (λ (l : ℕ). IsPayloadString t i (split_index j) (drawn_for m random j) (text_at l texts j)) (sym (same_size (length secret) can.counted)) (are j less) in
    let made : AreMade t i n own texts k = first-made t i secret random own count room can is_own k texts refl strings in
    let either : AllByRecursion IsEither (own ∷ first_texts n texts k) =
    (either-from_made _ _ _ _ _ _ own_made, either_first n texts k (λ j less. let h = made.texts_are j less in either-from_made t i (split_index j) h.0 n (text_at n texts j) h.1)) in
    let base = shares-exist (own ∷ first_texts n texts k) either in
    let whole : (x : Fe32) → IsWholeSet base.0 x = λ x. base-whole t i n own texts k made base.0 x base.1 in
    let others =
    gathered n (λ (j : ℕ) (u : List ℕ). IsDerivedString base.0 (split_index (k + j)) u) (count - k) (λ j less.
    let found = one base.0 (split_index (k + j)) (whole (split_index (k + j))) (base-agree t i n own texts k made base.0 base.1) in
    let sizes : length found.0 ≡ n =
    ap (λ (u : List ℕ). length u) found.1.spelling ∙ length-spelled found.1.elements ∙ ap (λ (l : ℕ). 3 + l) found.1.given.size ∙ size-first_text own (first_texts n texts k) base.0 base.1 in
    (found.0, sizes, found.1)) in
    let front : length texts ≡ k * n = size ∙ ap (λ (l : ℕ). k * l) (sym long) in
    let new : List ℕ = texts ++ others.0 in
    let within : k ≤ count = let a = can.enough in omega (arith, a) in
    let all : k + (count - k) ≡ count = omega (arith, within) in
    let new_size : length new ≡ count * n = length-append texts others.0 ∙ ap (λ (l : ℕ). l + length others.0) front ∙ ap (λ (l : ℕ). k * n + l) others.1 ∙ sym (add-mul k (count - k) n) ∙ ap (λ (l : ℕ). l * n) all in
    let kept : (j : ℕ) → j < k → text_at n new j ≡ text_at n texts j = λ j less. text_at-front n texts others.0 j (omega (arith, slot-fits j k n less, front)) in
    let shares : AreSharesOf (own ∷ first_texts n new k) base.0 = subst (λ (us : List (List ℕ)). AreSharesOf (own ∷ us) base.0) (sym (first-same n new texts k kept)) base.1 in
    let behind : (j : ℕ) → k ≤ j → j < count → IsDerivedString base.0 (split_index j) (text_at n new j) =
    λ j least less.
    let e : k + (j - k) ≡ j = omega (arith, least) in
    subst (λ (y : ℕ). IsDerivedString base.0 (split_index y) (text_at n new y)) e
    (subst (λ (u : List ℕ). IsDerivedString base.0 (split_index (k + (j - k))) u) (sym (text_at-behind k n texts others.0 (j - k) front)) (others.2 (j - k) (omega (arith, least, less)))) in (
      new,
      split-from_others t i secret random own count room can is_own k texts refl strings new base.0 (new_size ∙ ap (λ (l : ℕ). count * l) long) kept shares behind,
      λ j less. subst (λ (l : ℕ). text_at l new j ≡ text_at l texts j) long (kept j less),
    )

-- ---- the known ones are the same

module _ (xs : List Fe32) (rows : List (List Fe32)) (l n count : ℕ) (texts new : List ℕ) (shares : AreShares xs rows l)
    (here : (j : ℕ) → j < count → IsDerived ops xs rows l (split_index j) (row_of (text_at n new j)) × (text_at n new j ≡ spelled ms (row_of (text_at n new j))))
    (there : (j : ℕ) → j < count → text_at n texts j ≡ spelled ms (row_of (text_at n texts j))) where
  known-same : (js : List ℕ) → AllByRecursion (λ (j : ℕ). j < count) js → AreDerived ops xs rows l (map split_index js) (map (λ (j : ℕ). row_of (text_at n texts j)) js)
      → AllByRecursion (λ (j : ℕ). text_at n new j ≡ text_at n texts j) js
  known-same [] within are = tt
  known-same (j ∷ js) within are =
      let mine = here j within.0 in
      let rows_same : row_of (text_at n new j) ≡ row_of (text_at n texts j) = derived_unique is_field xs rows l (split_index j) (row_of (text_at n new j)) (row_of (text_at n texts j)) shares mine.0 are.0 in
      (mine.1 ∙ ap (spelled ms) rows_same ∙ sym (there j within.0), known-same js within.1 are.1)

-- ---- one way to deal them

module _ (t : Threshold) (i : Identifier) (secret other random : List ℕ) (count n room : ℕ) (texts numbers : List ℕ) (can : CanSplit t (length secret) count random room) (split : IsSplit t i secret random count n texts) (few : AreOneTooFew t count numbers)
    (size : length other ≡ length secret) where
  abbrev d : ℕ
  d = threshold_number t - 1

  abbrev p : ℕ
  p = payload_count (length other)

  abbrev whole_size : ℕ
  whole_size = text_size (length other)

  abbrev dealt : List Fe32
  dealt = indices_from 0 d

  abbrev known : List (List Fe32)
  known = map (λ (j : ℕ). row_of (text_at n texts j)) numbers

  p_is : payload_count (length secret) ≡ p
  p_is = ap payload_count (sym size)

  some : 1 ≤ d
  some = elim (cases_lt (threshold_number t) 2) [
    | inl low ↦ absurd (can.shared (alone t.number t.lawful (omega (arith, low))))
    | inr past ↦ omega (arith, past)
  ]

  counted : is_byte_count (length other) || is_long_byte_count (length other) ≡ true
  counted = ap (λ (l : ℕ). is_byte_count l || is_long_byte_count l) size ∙ can.counted

  own : (text : List ℕ) × IsOwnString t i other text
  own = own-exists t i other can.shared

  other_row : IsRow t i p secret_index (to_fes other) (row_of own.0) × (own.0 ≡ spelled ms (row_of own.0))
  other_row = own-row t i p other own.0 refl counted own.1

  all_once : IsOnce (secret_index ∷ dealt)
  all_once = once t i p secret random count n room texts p_is can split

  known_are : (ps : List (List Fe32)) × AreRows t i p (map split_index numbers) ps known
  known_are = known-rows t i p secret random count n room texts p_is can split numbers some few.within

  as_many : length dealt ≡ length (map split_index numbers)
  as_many = let a = few.one_fewer in omega (arith, length-indices 0 d, length-map numbers split_index, a)

  dealing : ExactlyOne (λ (a : List (List Fe32) × List (List Fe32)). AreRows t i p dealt a.0 a.1 × AreDerived ops (secret_index ∷ dealt) (row_of own.0 ∷ a.1) (row_size t i p) (map split_index numbers) known)
  dealing =
      let code : Code = code_of_payload_count p in
      one_dealing_of_strings is_field (hrp_elements ms) code.generator code.target (front_of t i) p secret_index (to_fes other) (row_of own.0) dealt (map split_index numbers) known_are.0 known all_once
      (no-secret count can.few numbers few.within, indices-differ count can.few numbers few.within few.once) as_many (omega (arith, as_many, length-indices 0 d, some)) other_row.0 known_are.1

  abbrev chosen : List (List Fe32)
  chosen = dealing.0.0

  chosen_long : (length chosen ≡ length dealt) × (length dealing.0.1 ≡ length dealt) × AllByRecursion (λ (q : List Fe32). length q ≡ p) chosen
  chosen_long = rows-long t i p dealt chosen dealing.0.1 dealing.1.0

  chosen_count : length chosen ≡ d
  chosen_count = chosen_long.0 ∙ length-indices 0 d

  can_other : (bytes : List ℕ) → length bytes ≡ random_size t (length other) → CanSplit t (length other) count bytes (count * whole_size)
  can_other bytes e = record { shared = can.shared; counted = counted; enough = can.enough; few = can.few; random_is = e; fits = omega arith }

  only : (bytes : List ℕ) → length bytes ≡ random_size t (length other) → DealKnown t i other bytes count n numbers texts → drawn bytes ≡ joined chosen
  only bytes e deal =
      let fine = can_other bytes e in
      let given = deal.is_split in
      let firsts : List (List Fe32) = map row_of (first_texts n deal.texts d) in
      let are : AreRows t i p dealt (dealt_payloads p bytes d) firsts = dealt_are t i p other bytes count n (count * whole_size) deal.texts refl fine given in
      let derived : AreDerived ops (secret_index ∷ dealt) (row_of given.own ∷ firsts) (row_size t i p) (map split_index numbers) known =
      moved (secret_index ∷ dealt) (row_of given.own ∷ firsts) (row_size t i p) n texts deal.texts numbers deal.are_known (gives-all t i p other bytes count n (count * whole_size) deal.texts refl fine given numbers few.within) in
      let same = dealing.2 (dealt_payloads p bytes d, firsts) (
        are,
        subst (λ (u : List ℕ). AreDerived ops (secret_index ∷ dealt) (row_of u ∷ firsts) (row_size t i p) (map split_index numbers) known) (own-once t i other given.own own.0 given.is_own own.1) derived,
      ) in
      sym (joined-dealt p bytes d e) ∙ ap (λ (c : List (List Fe32) × List (List Fe32)). joined c.0) same

  deals : (bytes : List ℕ) → length bytes ≡ random_size t (length other) → drawn bytes ≡ joined chosen → DealKnown t i other bytes count n numbers texts
  deals bytes e drawn_is =
      let fine = can_other bytes e in
      let code : Code = code_of_payload_count p in
      let long = dealt-long p bytes d (omega (arith, e)) in
      let payloads_are : dealt_payloads p bytes d ≡ chosen = joined-same p (dealt_payloads p bytes d) chosen long.1 chosen_long.2 (long.0 ∙ sym chosen_count) (joined-dealt p bytes d e ∙ drawn_is) in
      let are : AreRows t i p dealt (dealt_payloads p bytes d) dealing.0.1 = subst (λ (ps : List (List Fe32)). AreRows t i p dealt ps dealing.0.1) (sym payloads_are) dealing.1.0 in
      let wide : 3 + row_size t i p ≡ whole_size =
      ap (λ (l : ℕ). 3 + l) (sym (length-row t i p secret_index (to_fes other) (row_of own.0) other_row.0))
      ∙ sym (ap (λ (u : List ℕ). length u) other_row.1 ∙ length-spelled (row_of own.0)) ∙ (made-own t i other own.0 counted own.1).size in
      let sizes = rows-sized t i p whole_size dealt (dealt_payloads p bytes d) dealing.0.1 wide are in
      let front : List ℕ = row_texts dealing.0.1 in
      let row_count : length dealing.0.1 ≡ d = chosen_long.1 ∙ length-indices 0 d in
      let strings : (j : ℕ) → j < d → IsPayloadString t i (split_index j) (drawn_for p bytes j) (text_at whole_size front j) =
      λ j less.
      let e : 0 + j ≡ j = omega arith in
      subst (λ (y : ℕ). IsPayloadString t i (split_index y) (drawn_for p bytes j) (text_at whole_size front j)) e (payloads-row_texts whole_size t i p 0 bytes d dealing.0.1 can.shared sizes are j less) in
      let new = split-exists t i other bytes own.0 count (count * whole_size) fine own.1 front (length-row_texts whole_size dealing.0.1 sizes ∙ ap (λ (l : ℕ). l * whole_size) row_count) strings in
      let n_is : whole_size ≡ n = ap text_size size ∙ sym split.n_is in
      let made : IsSplit t i other bytes count n new.0 = subst (λ (l : ℕ). IsSplit t i other bytes count l new.0) n_is new.1 in
      let firsts : map row_of (first_texts whole_size new.0 d) ≡ dealing.0.1 =
      ap (λ (us : List (List ℕ)). map row_of us) (first-same whole_size new.0 front d new.2)
      ∙ ap (λ (l : ℕ). map row_of (first_texts whole_size front l)) (sym row_count) ∙ first-row_texts whole_size dealing.0.1 sizes in
      let rows_are_chosen : row_of made.own ∷ map row_of (first_texts n new.0 d) ≡ row_of own.0 ∷ dealing.0.1 =
      same_cons _ _ _ _ (ap row_of (own-once t i other made.own own.0 made.is_own own.1)) (subst (λ (l : ℕ). map row_of (first_texts l new.0 d) ≡ dealing.0.1) n_is firsts) in
      let shares : AreShares (secret_index ∷ dealt) (row_of own.0 ∷ dealing.0.1) (row_size t i p) =
      shares_of is_field (hrp_elements ms) code.generator code.target (front_of t i) p (secret_index ∷ dealt) (to_fes other ∷ chosen) (row_of own.0 ∷ dealing.0.1) all_once (other_row.0, dealing.1.0) in
      record {
        texts = new.0;
        is_split = made;
        are_known = known-same (secret_index ∷ dealt) (row_of own.0 ∷ dealing.0.1) (row_size t i p) n count texts new.0 shares
            (λ j less.
            let h = gives_at t i p other bytes count n (count * whole_size) new.0 refl fine made j less in
            (subst (λ (rs : List (List Fe32)). IsDerived ops (secret_index ∷ dealt) rs (row_size t i p) (split_index j) (row_of (text_at n new.0 j))) rows_are_chosen h.0, h.1))
            (λ j less. (gives_at t i p secret random count n room texts p_is can split j less).1) numbers few.within dealing.1.1;
      }

  pub one-deal : HasOneDeal t i other count n numbers texts
  one-deal = (
    joined chosen,
    length-joined p chosen chosen_long.2 ∙ ap (λ (l : ℕ). l * p) chosen_count,
    λ bytes e. (deals bytes e, only bytes e),
  )
