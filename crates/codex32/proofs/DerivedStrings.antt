-- What shares of one set give is a string of that set.
use Rattle.std.specs.Prelude.{IfOk, MatchResult}
use Rattle.std.specs.List.{AllByRecursion}
use Rattle.std.proofs.Common.{◌≡◌, ℕ, zero, suc, ◌+◌, ◌-◌, ◌<◌, ◌≤◌, List, [], ◌∷◌, ◌++◌, Result, Ok, Err, length, map, take, drop, true, refl, sym, ap, subst, ◌∙◌, arith}
use Rattle.std.proofs.lemmas.Bool.{ltb-false}
use Rattle.std.proofs.lemmas.List.{length-append, length-drop, length-map, take-append-drop}
use Rattle.bech32_gf.specs.Fe32.{element_of, elements_of, ops}
use Rattle.bech32_gf.specs.declared.gf32.Fe32.{Fe32}
use Rattle.bech32_gf.specs.laws.Fe32Laws.{is_field}
use Rattle.bech32_poly.specs.Division.{remainder_of}
use Rattle.bech32_poly.specs.Polynomial.{coefficient}
use Rattle.bech32_poly.specs.Remainder.{IsRemainder}
use Rattle.bech32_poly.proofs.Lists.{same_cons}
use Rattle.bech32_poly.proofs.Remainder.{remainder_exists}
use Rattle.bech32_checksum.specs.Code.{Code}
use Rattle.bech32_checksum.specs.Encoded.{char_of_element, spelled}
use Rattle.bech32_checksum.specs.TextPolynomial.{hrp_elements, text_polynomial}
use Rattle.codex32_steady.specs.shares.Shares.{AreShares, IsDerived, IsGiven, column}
use Rattle.codex32_steady.proofs.Checksums.{same_remainder}
use Rattle.codex32_steady.proofs.ShareTexts.{common_kept, index_moved}
use Rattle.codex32_steady.proofs.Written.{length-mapped}
use Rattle.codex32.specs.Code.{code_of_length}
use Rattle.codex32.specs.Derive.{IsDeriveRefusal, IsDerivedString, IsOfSet, IsStringOfSet, IsWholeSet, count_of, indices_of, rows_of, size_of}
use Rattle.codex32.specs.HeaderParts.{header_elements_of, points_of, secret_index, threshold_number}
use Rattle.codex32.specs.Share.{IsShareString, identifier_of_share, index_of_share, threshold_of_share}
use Rattle.codex32.specs.ShareParts.{ms}
use Rattle.codex32.specs.Strings.{is_within_either}
use Rattle.codex32.specs.Thresholds.{is_threshold_number}
use Rattle.codex32.specs.declared.error.DeriveError.{DeriveError}
use Rattle.codex32.specs.declared.identifier.Identifier.{Identifier}
use Rattle.codex32.specs.declared.share.Share.{Share}
use Rattle.codex32.specs.declared.threshold.Threshold.{Threshold}
use Rattle.codex32.proofs.Derived.{shares-from_set}
use Rattle.codex32.proofs.ShareParts.{fits}
use Rattle.codex32.proofs.ShareStrings.{string_of_elements}

-- what all shares give, they are taken to give together
pub derived-from_given : (k : ℕ) (xs : List Fe32) (ts : List (List Fe32)) (n : ℕ) (x : Fe32) (es : List Fe32) → k ≤ length xs → IsGiven ops k xs ts n x es → IsDerived ops xs ts n x es
derived-from_given k xs ts n x es enough given = record {
  size = given.size;
  elements = λ i within.
      let h = given.elements i within in
      record { polynomial = h.0; through = record { short = omega (arith, h.1, enough); values = h.2 }; value = h.3 };
}

-- ---- what the shares have in common

first_six : (es front : List Fe32) (j : ℕ) → take 6 es ≡ front → j < 6 → coefficient ops es j ≡ coefficient ops front j
first_six es front j e less = before es 6 j less ∙ ap (λ (u : List Fe32). coefficient ops u j) e
  where
    before : (es : List Fe32) (m j : ℕ) → j < m → coefficient ops es j ≡ coefficient ops (take m es) j
    before es zero j less = absurd (omega (arith, less))
    before [] (suc m) j less = refl
    before (e ∷ es) (suc m) zero less = refl
    before (e ∷ es) (suc m) (suc j) less = before es m j (omega (arith, less))

pub taken : (given : List ℕ) (m : ℕ) → elements_of (take m given) ≡ take m (elements_of given)
taken given zero = refl
taken [] (suc m) = refl
taken (c ∷ cs) (suc m) = ap (λ (u : List Fe32). element_of c ∷ u) (taken cs m)

share_element : (s : Share) (j : ℕ) → j < 6 → coefficient ops (elements_of s.data_part.now) j ≡ coefficient ops (header_elements_of (threshold_of_share s) (identifier_of_share s) (index_of_share s)) j
share_element s j less = first_six (elements_of s.data_part.now) _ j (sym (taken s.data_part.now 6) ∙ s.header_is) less

-- the elements of a header before the share index
before_index : (t : Threshold) (i : Identifier) (x y : Fe32) (j : ℕ) → j < 5 → coefficient ops (header_elements_of t i x) j ≡ coefficient ops (header_elements_of t i y) j
before_index t i x y j less = go i.elements (element_of (48 + t.number)) i.full j less
  where
    go : (es : List Fe32) (d : Fe32) → length es ≡ 4 → (j : ℕ) → j < 5 → coefficient ops (d ∷ (es ++ (x ∷ []))) j ≡ coefficient ops (d ∷ (es ++ (y ∷ []))) j
    go (a ∷ b ∷ c ∷ e ∷ []) d size zero less = refl
    go (a ∷ b ∷ c ∷ e ∷ []) d size (suc zero) less = refl
    go (a ∷ b ∷ c ∷ e ∷ []) d size (suc (suc zero)) less = refl
    go (a ∷ b ∷ c ∷ e ∷ []) d size (suc (suc (suc zero))) less = refl
    go (a ∷ b ∷ c ∷ e ∷ []) d size (suc (suc (suc (suc zero)))) less = refl
    go (a ∷ b ∷ c ∷ e ∷ []) d size (suc (suc (suc (suc (suc j))))) less = absurd (omega (arith, less))
    go [] d size j less = absurd (omega (arith, size))
    go (a ∷ []) d size j less = absurd (omega (arith, size))
    go (a ∷ b ∷ []) d size j less = absurd (omega (arith, size))
    go (a ∷ b ∷ c ∷ []) d size j less = absurd (omega (arith, size))
    go (a ∷ b ∷ c ∷ e ∷ f ∷ es) d size j less = absurd (omega (arith, size))

-- the share index
at_index : (t : Threshold) (i : Identifier) (x : Fe32) → coefficient ops (header_elements_of t i x) 5 ≡ x
at_index t i x = go i.elements i.full
  where
    go : (es : List Fe32) → length es ≡ 4 → coefficient ops (es ++ (x ∷ [])) 4 ≡ x
    go (a ∷ b ∷ c ∷ e ∷ []) size = refl
    go [] size = absurd (omega (arith, size))
    go (a ∷ []) size = absurd (omega (arith, size))
    go (a ∷ b ∷ []) size = absurd (omega (arith, size))
    go (a ∷ b ∷ c ∷ []) size = absurd (omega (arith, size))
    go (a ∷ b ∷ c ∷ e ∷ f ∷ es) size = absurd (omega (arith, size))

-- lists of six elements
same_six : (es hs : List Fe32) → length hs ≡ 6 → 6 ≤ length es → ((j : ℕ) → j < 6 → coefficient ops es j ≡ coefficient ops hs j) → take 6 es ≡ hs
same_six es hs six long h = go 6 es hs six long h
  where
    go : (m : ℕ) (es hs : List Fe32) → length hs ≡ m → m ≤ length es → ((j : ℕ) → j < m → coefficient ops es j ≡ coefficient ops hs j) → take m es ≡ hs
    go zero es [] e l h = refl
    go zero es (y ∷ hs) e l h = absurd (omega (arith, e))
    go (suc m) es [] e l h = absurd (omega (arith, e))
    go (suc m) [] (y ∷ hs) e l h = absurd (omega (arith, l))
    go (suc m) (x ∷ es) (y ∷ hs) e l h = same_cons _ _ _ _ (h 0 (omega arith)) (go m es hs (omega (arith, e)) (omega (arith, l)) (λ j less. h (suc j) (omega (arith, less))))

-- ---- each row of a set

rows_have : (s : Share) (j : ℕ) (x : Fe32) (ss : List Share) → j < 5 → AllByRecursion (IsOfSet s) ss
    → AllByRecursion (λ (t : List Fe32). coefficient ops t j ≡ coefficient ops (header_elements_of (threshold_of_share s) (identifier_of_share s) x) j) (rows_of ss)
rows_have s j x [] less h = tt
rows_have s j x (u ∷ us) less h = (
  share_element u j (omega (arith, less))
      ∙ before_index (threshold_of_share u) (identifier_of_share u) (index_of_share u) x j less
      ∙ ap (λ (t : Threshold). coefficient ops (header_elements_of t (identifier_of_share u) x) j) h.0.threshold
      ∙ ap (λ (i : Identifier). coefficient ops (header_elements_of (threshold_of_share s) i x) j) h.0.identifier,
  rows_have s j x us less h.1,
)

own_indices : (ss : List Share) → column ops (rows_of ss) 5 ≡ indices_of ss
own_indices [] = refl
own_indices (s ∷ ss) =
    same_cons _ _ _ _ (share_element s 5 (omega arith) ∙ at_index (threshold_of_share s) (identifier_of_share s) (index_of_share s)) (own_indices ss)

rows_leave : (s : Share) (ss : List Share) → AllByRecursion (IsOfSet s) ss
    → AllByRecursion (λ (t : List Fe32). IsRemainder ops (code_of_length (3 + length s.data_part.now)).generator (text_polynomial ms t) (code_of_length (3 + length s.data_part.now)).target) (rows_of ss)
rows_leave s [] h = tt
rows_leave s (u ∷ us) h = (row (3 + length u.data_part.now) (ap (λ (n : ℕ). 3 + n) h.0.size) u.has_target, rows_leave s us h.1)
  where
    row : (n : ℕ) → n ≡ 3 + length s.data_part.now → remainder_of ops (code_of_length n).generator (text_polynomial ms (elements_of u.data_part.now)) ≡ (code_of_length n).target
        → IsRemainder ops (code_of_length (3 + length s.data_part.now)).generator (text_polynomial ms (elements_of u.data_part.now)) (code_of_length (3 + length s.data_part.now)).target
    row n e target =
        subst (λ (m : ℕ). IsRemainder ops (code_of_length m).generator (text_polynomial ms (elements_of u.data_part.now)) (code_of_length m).target) e
        (subst (IsRemainder ops (code_of_length n).generator (text_polynomial ms (elements_of u.data_part.now))) target
        (remainder_exists is_field (code_of_length n).generator (text_polynomial ms (elements_of u.data_part.now))))

-- ---- the index asked for

unshared : (s : Share) (ss : List Share) (x : Fe32) → IsWholeSet (s ∷ ss) x → threshold_number (threshold_of_share s) ≡ 0 → x ≡ secret_index
unshared s ss x whole zero_is = elim (is_field.same_or_not x secret_index) [
  | yes e ↦ e
  | no n ↦ absurd (whole.shared (zero_is, n))
]

pub alone : (n : ℕ) → is_threshold_number n ≡ true → n ≤ 1 → n ≡ 0
alone zero h l = refl
alone (suc zero) h l = absurd cc
alone (suc (suc n)) h l = absurd (omega (arith, l))

module _ (s : Share) (ss : List Share) (x : Fe32) (es : List Fe32) (whole : IsWholeSet (s ∷ ss) x) (given : IsGiven ops (count_of (s ∷ ss)) (indices_of (s ∷ ss)) (rows_of (s ∷ ss)) (size_of (s ∷ ss)) x es) where
  enough : points_of (threshold_of_share s) ≤ length (s ∷ ss)
  enough = ltb-false (length (s ∷ ss)) (points_of (threshold_of_share s)) whole.enough

  shares : AreShares (indices_of (s ∷ ss)) (rows_of (s ∷ ss)) (length s.data_part.now)
  shares = shares-from_set (s ∷ ss) x whole

  derived : IsDerived ops (indices_of (s ∷ ss)) (rows_of (s ∷ ss)) (length s.data_part.now) x es
  derived = derived-from_given (points_of (threshold_of_share s)) (indices_of (s ∷ ss)) (rows_of (s ∷ ss)) (length s.data_part.now) x es (omega (arith, enough, length-mapped (λ (u : Share). index_of_share u) ss)) given

  long : 45 ≤ length s.data_part.now
  long = let least = (fits (3 + length s.data_part.now) s.within).least in omega (arith, least)

  front : (j : ℕ) → j < 5 → coefficient ops es j ≡ coefficient ops (header_elements_of (threshold_of_share s) (identifier_of_share s) x) j
  front j less =
      common_kept is_field (indices_of (s ∷ ss)) (rows_of (s ∷ ss)) (length s.data_part.now) x es j (coefficient ops (header_elements_of (threshold_of_share s) (identifier_of_share s) x) j) shares (omega arith) derived
      (omega (arith, less, long)) (rows_have s j x (s ∷ ss) less whole.set)

  index : (us : List Share) → ss ≡ us → coefficient ops es 5 ≡ x
  index (u ∷ us) e =
      let count = ap length e in
      index_moved is_field (indices_of (s ∷ ss)) (rows_of (s ∷ ss)) (length s.data_part.now) x es 5 shares (omega (arith, count, length-mapped (λ (u : Share). index_of_share u) ss)) derived (omega (arith, long)) (own_indices (s ∷ ss))
  index [] e =
      let count = ap length e in
      let zero_is : threshold_number (threshold_of_share s) ≡ 0 = alone s.header.threshold.number s.header.threshold.lawful (omega (arith, enough, count)) in
      common_kept is_field (indices_of (s ∷ ss)) (rows_of (s ∷ ss)) (length s.data_part.now) x es 5 (index_of_share s) shares (omega arith) derived (omega (arith, long)) (one ss e)
      ∙ s.header.unshared zero_is ∙ sym (unshared s ss x whole zero_is)
    where
      one : (vs : List Share) → vs ≡ [] → AllByRecursion (λ (u : List Fe32). coefficient ops u 5 ≡ index_of_share s) (rows_of (s ∷ vs))
      one [] f = (share_element s 5 (omega arith) ∙ at_index (threshold_of_share s) (identifier_of_share s) (index_of_share s), tt)
      one (v ∷ vs) f = absurd cc

  six : length (header_elements_of (threshold_of_share s) (identifier_of_share s) x) ≡ 6
  six = let full = s.header.identifier.full in let both = length-append s.header.identifier.elements (x ∷ []) in omega (arith, full, both)

  pub header : take 6 es ≡ header_elements_of (threshold_of_share s) (identifier_of_share s) x
  header = same_six es (header_elements_of (threshold_of_share s) (identifier_of_share s) x) six (omega (arith, long, given.size)) at
    where
      at : (j : ℕ) → j < 6 → coefficient ops es j ≡ coefficient ops (header_elements_of (threshold_of_share s) (identifier_of_share s) x) j
      at zero less = front 0 (omega arith)
      at (suc zero) less = front 1 (omega arith)
      at (suc (suc zero)) less = front 2 (omega arith)
      at (suc (suc (suc zero))) less = front 3 (omega arith)
      at (suc (suc (suc (suc zero)))) less = front 4 (omega arith)
      at (suc (suc (suc (suc (suc zero))))) less = index ss refl ∙ sym (at_index (threshold_of_share s) (identifier_of_share s) x)
      at (suc (suc (suc (suc (suc (suc j)))))) less = absurd (omega (arith, less))

  target : IsRemainder ops (code_of_length (3 + length s.data_part.now)).generator (text_polynomial ms es) (code_of_length (3 + length s.data_part.now)).target
  target =
      same_remainder is_field (indices_of (s ∷ ss)) (rows_of (s ∷ ss)) (length s.data_part.now) x es (code_of_length (3 + length s.data_part.now)).generator (hrp_elements ms) (code_of_length (3 + length s.data_part.now)).target shares
      (omega arith) derived (rows_leave s (s ∷ ss) whole.set)

  pub set_string : (text : List ℕ) → text ≡ spelled ms es → (payload : List ℕ) × IsShareString text (threshold_of_share s) (identifier_of_share s) x payload
  set_string text spelling =
      let code : Code = code_of_length (3 + length s.data_part.now) in
      let m : ℕ = length s.data_part.now - (6 + length code.generator) in
      let payload : List Fe32 = take m (drop 6 es) in
      let checksum : List Fe32 = drop m (drop 6 es) in
      let parts : header_elements_of (threshold_of_share s) (identifier_of_share s) x ++ (payload ++ checksum) ≡ es =
      ap (λ (u : List Fe32). u ++ (payload ++ checksum)) (sym header) ∙ ap (λ (u : List Fe32). take 6 es ++ u) (take-append-drop m (drop 6 es)) ∙ take-append-drop 6 es in
      let size : length es ≡ length s.data_part.now = given.size in
      let count : 3 + length s.data_part.now ≡ length text = let k = ap length spelling in omega (arith, k, length-map es char_of_element, size) in
      let room = (fits (3 + length s.data_part.now) s.within).room in
      let rest : length checksum ≡ length code.generator = omega (arith, room, size, length-drop 6 es, length-drop m (drop 6 es)) in (
        map char_of_element payload,
        string_of_elements text (threshold_of_share s) (identifier_of_share s) x payload checksum (spelling ∙ ap (spelled ms) (sym parts)) (ap is_within_either (sym count) ∙ s.within)
            (rest ∙ ap (λ (k : ℕ). length (code_of_length k).generator) count)
            (subst (λ (k : ℕ). IsRemainder ops (code_of_length k).generator (text_polynomial ms (header_elements_of (threshold_of_share s) (identifier_of_share s) x ++ (payload ++ checksum))) (code_of_length k).target) count
            (subst (λ (u : List Fe32). IsRemainder ops code.generator (text_polynomial ms u) code.target) (sym parts) target))
            (unshared s ss x whole),
      )

derived_string : (ss : List Share) (x : Fe32) (text : List ℕ) → IsWholeSet ss x → IsDerivedString ss x text → IsStringOfSet ss x text
derived_string [] x text whole is = absurd (let k = whole.enough in cc)
derived_string (s ∷ ss) x text whole is = set_string s ss x is.elements whole is.given text is.spelling

-- what the outcome says of the string
pub string-from_outcome : {S : Type 0} (bytes : S → List ℕ) (ss : List Share) (x : Fe32) (r : Result S DeriveError)
    → MatchResult r (λ s. IsWholeSet ss x × IsDerivedString ss x (bytes s)) (λ e. IsDeriveRefusal ss x e) → IfOk r (λ s. IsStringOfSet ss x (bytes s))
string-from_outcome bytes ss x (Ok s) h = derived_string ss x (bytes s) h.0 h.1
string-from_outcome bytes ss x (Err e) h = tt

-- the same of a string that is put into a buffer
pub string-from_put : (Q : DeriveError → Type 0) (bytes : ℕ → List ℕ) (ss : List Share) (x : Fe32) (r : Result ℕ DeriveError) → MatchResult r (λ n. IsWholeSet ss x × IsDerivedString ss x (bytes n)) Q
    → IfOk r (λ n. IsStringOfSet ss x (bytes n))
string-from_put Q bytes ss x (Ok n) h = derived_string ss x (bytes n) h.0 h.1
string-from_put Q bytes ss x (Err e) h = tt
