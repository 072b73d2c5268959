-- The texts of a split as rows of elements: what they give each other.
use Rattle.std.specs.List.{AllByRecursion}
use Rattle.std.proofs.Common.{◌≡◌, ℕ, zero, suc, ◌+◌, ◌-◌, ◌*◌, ◌<◌, ◌≤◌, List, [], ◌∷◌, ◌++◌, length, map, take, drop, refl, sym, ap, subst, ◌∙◌, arith, append_assoc, suc-mul}
use Rattle.std.proofs.lemmas.List.{length-append, length-drop, length-map, length-take-le, map-append, take-append-drop}
use Rattle.bech32_gf.specs.Fe32.{element, element_of, elements_of, ops}
use Rattle.bech32_gf.specs.declared.gf32.Fe32.{Fe32}
use Rattle.bech32_gf.specs.laws.Fe32Laws.{is_field}
use Rattle.bech32_poly.specs.Remainder.{IsRemainder}
use Rattle.bech32_poly.proofs.Lists.{same_cons}
use Rattle.bech32_checksum.specs.Code.{Code}
use Rattle.bech32_checksum.specs.Encoded.{IsEncodedText, char_of_element, spelled}
use Rattle.bech32_checksum.specs.TextPolynomial.{hrp_elements, text_polynomial}
use Rattle.bech32_decode.proofs.Spelling.{characters-elements}
use Rattle.codex32_steady.specs.shares.Shares.{AreShareTexts, IsShareText}
use Rattle.codex32_steady.proofs.Strings.{Ends, size_of, text_size}
use Rattle.codex32.specs.Encode.{code_of_payload_count}
use Rattle.codex32.specs.Header.{header_elements}
use Rattle.codex32.specs.HeaderParts.{header_elements_of}
use Rattle.codex32.specs.Share.{AreSharesOf, IsShareOf, characters_of_share}
use Rattle.codex32.specs.ShareParts.{ms}
use Rattle.codex32.specs.Derive.{rows_of}
use Rattle.codex32.specs.Split.{IsHeaderOfParts, drawn, drawn_for, first_texts, split_index, text_at}
use Rattle.codex32.specs.declared.header.Header.{Header}
use Rattle.codex32.specs.declared.identifier.Identifier.{Identifier}
use Rattle.codex32.specs.declared.share.Share.{Share}
use Rattle.codex32.specs.declared.threshold.Threshold.{Threshold}
use Rattle.codex32.proofs.OneString.{parted}
use Rattle.codex32.proofs.SplitBase.{length-text_of}
use Rattle.codex32.proofs.SplitIndices.{indices_from}
use Rattle.codex32.proofs.TextAt.{text_first, text_next}

-- ---- rows

-- the elements behind the separator
abbrev pub row_of : List ℕ → List Fe32
row_of text = elements_of (drop 3 text)

pub row-spelled : (text : List ℕ) (es : List Fe32) → text ≡ spelled ms es → row_of text ≡ es
row-spelled text es e = ap row_of e ∙ characters-elements es

pub length-spelled : (es : List Fe32) → length (spelled ms es) ≡ 3 + length es
length-spelled es = let k = length-map es char_of_element in omega (arith, k)

-- those of a share
behind_two : (hrp given : List ℕ) → length hrp ≡ 2 → drop 3 (hrp ++ (49 ∷ given)) ≡ given
behind_two (a ∷ b ∷ []) given two = refl
behind_two [] given two = absurd (omega (arith, two))
behind_two (a ∷ []) given two = absurd (omega (arith, two))
behind_two (a ∷ b ∷ c ∷ hrp) given two = absurd (omega (arith, two))

share-row : (text : List ℕ) (s : Share) → IsShareOf text s → elements_of (characters_of_share s) ≡ row_of text
share-row text s of =
    let given : List ℕ = characters_of_share s in
    let whole : length text ≡ length of.hrp + length (49 ∷ given) = ap (λ (l : List ℕ). length l) of.is_text.split ∙ length-append of.hrp (49 ∷ given) in
    let two : length of.hrp ≡ 2 = omega (arith, whole, length-text_of text s of) in
    ap elements_of (sym (ap (λ (u : List ℕ). drop 3 u) of.is_text.split ∙ behind_two of.hrp given two))

pub share-rows : (ts : List (List ℕ)) (ss : List Share) → AreSharesOf ts ss → rows_of ss ≡ map row_of ts
share-rows [] [] are = refl
share-rows [] (s ∷ ss) are = absurd are
share-rows (t ∷ ts) [] are = absurd are
share-rows (t ∷ ts) (s ∷ ss) are = same_cons _ _ _ _ (share-row t s are.0) (share-rows ts ss are.1)

-- ---- the header

-- the elements before the share index
abbrev pub front_of : Threshold → Identifier → List Fe32
front_of t i = element_of (48 + t.number) ∷ i.elements

module _ (t : Threshold) (i : Identifier) (m : ℕ) where
  abbrev pub code : Code
  code = code_of_payload_count m

  -- a row at an index, with a payload of m elements
  abbrev pub IsRow : Fe32 → List Fe32 → List Fe32 → Type 0
  IsRow x p es = IsShareText (Ends ops (hrp_elements ms) code.generator code.target) (front_of t i) m x p es

  abbrev pub AreRows : List Fe32 → List (List Fe32) → List (List Fe32) → Type 0
  AreRows xs ps rows = AreShareTexts (Ends ops (hrp_elements ms) code.generator code.target) (front_of t i) m xs ps rows

  -- how many elements it has
  abbrev pub row_size : ℕ
  row_size = size_of is_field (hrp_elements ms) code.generator code.target (front_of t i) m

  pub length-row : (x : Fe32) (p es : List Fe32) → IsRow x p es → length es ≡ row_size
  length-row x p es row = text_size is_field (hrp_elements ms) code.generator code.target (front_of t i) m x p es row

  -- of rows, how many payloads there are, and how many elements each has
  pub rows-long : (xs : List Fe32) (ps rows : List (List Fe32)) → AreRows xs ps rows → (length ps ≡ length xs) × (length rows ≡ length xs) × AllByRecursion (λ (p : List Fe32). length p ≡ m) ps
  rows-long [] [] [] are = (refl, refl, tt)
  rows-long [] [] (r ∷ rs) are = absurd are
  rows-long [] (p ∷ ps) rows are = absurd are
  rows-long (x ∷ xs) [] rows are = absurd are
  rows-long (x ∷ xs) (p ∷ ps) [] are = absurd are
  rows-long (x ∷ xs) (p ∷ ps) (r ∷ rs) are = let rest = rows-long xs ps rs are.1 in (ap suc rest.0, ap suc rest.1, (are.0.size, rest.2))

  pub with_header : (x : Fe32) (h : Header) (p : List Fe32) → IsHeaderOfParts t i x h → header_elements h ++ p ≡ front_of t i ++ (x ∷ p)
  with_header x h p is =
      ap (λ (u : Threshold). header_elements_of u h.identifier h.share_index ++ p) is.threshold_is
      ∙ ap (λ (j : Identifier). header_elements_of t j h.share_index ++ p) is.identifier_is
      ∙ ap (λ (y : Fe32). header_elements_of t i y ++ p) is.share_index_is
      ∙ ap (λ (u : List Fe32). element_of (48 + t.number) ∷ u) (append_assoc i.elements (x ∷ []) p)

  -- what is encoded is a row, and is spelled
  pub row-encoded : (x : Fe32) (h : Header) (p : List Fe32) (text : List ℕ) → length p ≡ m → IsHeaderOfParts t i x h → IsEncodedText code ms (header_elements h ++ p) text
      → IsRow x p (row_of text) × (text ≡ spelled ms (row_of text))
  row-encoded x h p text size is encoded =
      let whole : header_elements h ++ p ≡ front_of t i ++ (x ∷ p) = with_header x h p is in
      let spelling : text ≡ spelled ms ((front_of t i ++ (x ∷ p)) ++ encoded.checksum) = encoded.spelling ∙ ap (λ (u : List Fe32). spelled ms (u ++ encoded.checksum)) whole in
      let row : row_of text ≡ (front_of t i ++ (x ∷ p)) ++ encoded.checksum = row-spelled text _ spelling in (
        record {
          size = size;
          ends = record {
            checksum = encoded.checksum;
            size = encoded.is_checksum.size;
            remains = subst (λ (u : List Fe32). IsRemainder ops code.generator (text_polynomial ms (u ++ encoded.checksum)) code.target) whole encoded.is_checksum.has_target;
            given_is = row;
          };
        },
        spelling ∙ ap (spelled ms) (sym row),
      )

  -- and a row is the elements of what is encoded
  pub encoded-row : (x : Fe32) (h : Header) (p es : List Fe32) → IsHeaderOfParts t i x h → IsRow x p es → IsEncodedText code ms (header_elements h ++ p) (spelled ms es)
  encoded-row x h p es is row =
      let whole : front_of t i ++ (x ∷ p) ≡ header_elements h ++ p = sym (with_header x h p is) in
      record {
        checksum = row.ends.checksum;
        is_checksum = record {
          size = row.ends.size;
          has_target = subst (λ (u : List Fe32). IsRemainder ops code.generator (text_polynomial ms (u ++ row.ends.checksum)) code.target) whole row.ends.remains;
        };
        spelling = ap (spelled ms) (row.ends.given_is ∙ ap (λ (u : List Fe32). u ++ row.ends.checksum) whole);
      }

-- ---- payloads that are drawn

-- those of the first shares, as many as the last number says
abbrev pub dealt_payloads : ℕ → List ℕ → ℕ → List (List Fe32)
dealt_payloads m random zero = []
dealt_payloads m random (suc k) = drawn (take m random) ∷ dealt_payloads m (drop m random) k

-- one behind another
abbrev pub joined : List (List Fe32) → List Fe32
joined [] = []
joined (p ∷ ps) = p ++ joined ps

none_of : (random : List ℕ) → length random ≡ 0 → [] ≡ drawn random
none_of [] e = refl
none_of (b ∷ bs) e = absurd (omega (arith, e))

pub joined-dealt : (m : ℕ) (random : List ℕ) (k : ℕ) → length random ≡ k * m → joined (dealt_payloads m random k) ≡ drawn random
joined-dealt m random zero e = none_of random (omega (arith, e))
joined-dealt m random (suc k) e =
    let rest : length (drop m random) ≡ k * m = omega (arith, length-drop m random, suc-mul k m, e) in
    ap (λ (u : List Fe32). drawn (take m random) ++ u) (joined-dealt m (drop m random) k rest)
    ∙ sym (map-append element (take m random) (drop m random))
    ∙ ap drawn (take-append-drop m random)

-- rows of m elements each are known by all of them
pub joined-same : (m : ℕ) (ps qs : List (List Fe32)) → AllByRecursion (λ (p : List Fe32). length p ≡ m) ps → AllByRecursion (λ (p : List Fe32). length p ≡ m) qs → length ps ≡ length qs → joined ps ≡ joined qs → ps ≡ qs
joined-same m [] [] left right count e = refl
joined-same m [] (q ∷ qs) left right count e = absurd (omega (arith, count))
joined-same m (p ∷ ps) [] left right count e = absurd (omega (arith, count))
joined-same m (p ∷ ps) (q ∷ qs) left right count e =
    let parts = parted p q (joined ps) (joined qs) (left.0 ∙ sym right.0) e in
    same_cons _ _ _ _ parts.0 (joined-same m ps qs left.1 right.1 (omega (arith, count)) parts.1)

pub length-joined : (m : ℕ) (ps : List (List Fe32)) → AllByRecursion (λ (p : List Fe32). length p ≡ m) ps → length (joined ps) ≡ length ps * m
length-joined m [] all = omega arith
length-joined m (p ∷ ps) all =
    let rest = length-joined m ps all.1 in
    let size = all.0 in
    omega (arith, length-append p (joined ps), rest, size, suc-mul (length ps) m)

pub dealt-long : (m : ℕ) (random : List ℕ) (k : ℕ) → k * m ≤ length random → (length (dealt_payloads m random k) ≡ k) × AllByRecursion (λ (p : List Fe32). length p ≡ m) (dealt_payloads m random k)
dealt-long m random zero room = (refl, tt)
dealt-long m random (suc k) room =
    let rest = dealt-long m (drop m random) k (omega (arith, length-drop m random, suc-mul k m, room)) in
    let first : length (drawn (take m random)) ≡ m = length-map (take m random) element ∙ length-take-le m random (omega (arith, suc-mul k m, room)) in
    (ap suc rest.0, (first, rest.1))

-- ---- the rows of a split

module _ (t : Threshold) (i : Identifier) (m : ℕ) where
  -- those whose payloads are drawn, from number `from` on
  pub dealt-rows : (n from : ℕ) (random texts : List ℕ) (k : ℕ)
      → ((j : ℕ) → j < k → IsRow t i m (split_index (from + j)) (drawn_for m random j) (row_of (text_at n texts j)))
      → AreRows t i m (indices_from from k) (dealt_payloads m random k) (map row_of (first_texts n texts k))
  dealt-rows n from random texts zero rows = tt
  dealt-rows n from random texts (suc k) rows = (
    subst (λ (u : List ℕ). IsRow t i m (split_index from) (drawn (take m random)) (row_of u)) (text_first n texts)
        (subst (λ (r : List ℕ). IsRow t i m (split_index from) (drawn r) (row_of (text_at n texts 0))) (text_first m random)
        (let e : from + 0 ≡ from = omega arith in subst (λ (y : ℕ). IsRow t i m (split_index y) (drawn_for m random 0) (row_of (text_at n texts 0))) e (rows 0 (omega arith)))),
    dealt-rows n (suc from) (drop m random) (drop n texts) k (λ j less.
        let e : from + suc j ≡ suc from + j = omega arith in
        subst (λ (y : ℕ). IsRow t i m (split_index y) (drawn_for m (drop m random) j) (row_of (text_at n (drop n texts) j))) e
        (subst (λ (r : List ℕ). IsRow t i m (split_index (from + suc j)) (drawn r) (row_of (text_at n (drop n texts) j))) (text_next m random j)
        (subst (λ (u : List ℕ). IsRow t i m (split_index (from + suc j)) (drawn_for m random (suc j)) (row_of u)) (text_next n texts j) (rows (suc j) (omega (arith, less)))))),
  )
