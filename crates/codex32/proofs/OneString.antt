-- A set gives one string at each index, and what it gives, gives the same.
use Rattle.std.specs.List.{AllByRecursion}
use Rattle.std.proofs.Common.{◌≡◌, ℕ, ◌+◌, ◌<◌, ◌≤◌, List, [], ◌∷◌, ◌++◌, length, map, take, inl, inr, refl, sym, ap, subst, ◌∙◌, arith}
use Rattle.std.proofs.lemmas.Bool.{ltb-false}
use Rattle.std.proofs.lemmas.List.{length-append, length-map}
use Rattle.bech32_gf.specs.Fe32.{element_of, elements_of, ops}
use Rattle.bech32_gf.specs.Field.{Ops, IsField, value_at}
use Rattle.bech32_gf.specs.declared.gf32.Fe32.{Fe32}
use Rattle.bech32_gf.specs.laws.Fe32Laws.{is_field}
use Rattle.bech32_hrp.specs.Hrp.{lowered}
use Rattle.bech32_poly.specs.Distinct.{IsAmong}
use Rattle.bech32_poly.specs.Polynomial.{coefficient}
use Rattle.bech32_poly.proofs.Lists.{same_cons}
use Rattle.bech32_encode.specs.ExactlyOne.{ExactlyOne}
use Rattle.bech32_checksum.specs.Encoded.{char_of_element, spelled}
use Rattle.bech32_decode.proofs.Grammar.{only-from_IsText}
use Rattle.bech32_decode.proofs.Spelling.{characters-elements, lower_text, spelled-text}
use Rattle.codex32_steady.specs.shares.Points.{values_at}
use Rattle.codex32_steady.specs.shares.Shares.{AreShares, DoAgree, IsDerived, IsGiven, column}
use Rattle.codex32_steady.proofs.Given.{agreeing, front_shares, given, giving}
use Rattle.codex32_steady.proofs.ShareTexts.{derived_exists, derived_unique}
use Rattle.codex32_steady.proofs.Through.{through_unique}
use Rattle.codex32_steady.proofs.Written.{length-mapped}
use Rattle.codex32.specs.Derive.{DoContradict, IsDerivedString, IsOfSet, IsWholeSet, count_of, indices_of, rows_of, size_of}
use Rattle.codex32.specs.HeaderParts.{header_elements_of, points_of}
use Rattle.codex32.specs.Sets.{IsGivenShare}
use Rattle.codex32.specs.Share.{IsShareOf, IsShareString, characters_of_share, identifier_of_share, index_of_share, threshold_of_share}
use Rattle.codex32.specs.ShareParts.{ms}
use Rattle.codex32.specs.declared.identifier.Identifier.{Identifier}
use Rattle.codex32.specs.declared.share.Share.{Share}
use Rattle.codex32.specs.declared.threshold.Threshold.{Threshold}
use Rattle.codex32.proofs.Derived.{agree-from_given, shares-from_set}
use Rattle.codex32.proofs.DerivedStrings.{header, taken}
use Rattle.codex32.proofs.Digits.{digit_is, digit_of_alphabet}
use Rattle.codex32.proofs.Same.{identifier-path, threshold-path}
use Rattle.codex32.proofs.ShareStrings.{hrp_of_strings}
use Rattle.codex32.proofs.Refused.{lowered_ms}

first_same : {A : Type 0} (a b : A) (p q : List A) → a ∷ p ≡ b ∷ q → a ≡ b
first_same a b p q e = cc

rest_same : {A : Type 0} (a b : A) (p q : List A) → a ∷ p ≡ b ∷ q → p ≡ q
rest_same a b p q e = cc

-- ---- shares that do not contradict each other agree

module _ {F : Type 0} {o : Ops F} (l : IsField o) where
  -- lists that cannot differ are the same
  stable : (xs ys : List F) → ((xs ≡ ys → ⊥) → ⊥) → xs ≡ ys
  stable [] [] h = refl
  stable [] (y ∷ ys) h = absurd (h (λ e. absurd cc))
  stable (x ∷ xs) [] h = absurd (h (λ e. absurd cc))
  stable (x ∷ xs) (y ∷ ys) h = elim (l.same_or_not x y) [
    | yes e ↦ same_cons _ _ _ _ e (stable xs ys (λ n. h (λ k. n (rest_same x y xs ys k))))
    | no n ↦ absurd (h (λ k. n (first_same x y xs ys k)))
  ]

  module _ {B : Type 0} (f : B → F) (e : B → List F) (shares : List B) (k n : ℕ) (fits : k ≤ length shares) (are : AreShares (map f shares) (map e shares) n) where
    pub agreed : ((DoAgree o k (map f shares) (map e shares) n → ⊥) → ⊥) → DoAgree o k (map f shares) (map e shares) n
    agreed h = agreeing l f e shares k n fits are (λ m t past within read.
        let d : (d : List F) × IsDerived o (map f (take k shares)) (map e (take k shares)) n (f t) d = derived_exists l (map f (take k shares)) (map e (take k shares)) n (f t) (front_shares l f e shares k n are) in
        subst (λ u. IsDerived o (map f (take k shares)) (map e (take k shares)) n (f t) u)
        (sym (stable (e t) d.0 (λ differ. h (λ agree. differ
        (derived_unique l (map f (take k shares)) (map e (take k shares)) n (f t) (e t) d.0 (front_shares l f e shares k n are) (giving l f e shares k n fits are agree m t past within read) d.1)))))
        d.1)

    -- the text at x
    pub given_exists : (x : F) → DoAgree o k (map f shares) (map e shares) n → (text : List F) × IsGiven o k (map f shares) (map e shares) n x text
    given_exists x agree =
        let d : (d : List F) × IsDerived o (map f (take k shares)) (map e (take k shares)) n x d = derived_exists l (map f (take k shares)) (map e (take k shares)) n x (front_shares l f e shares k n are) in
        (d.0, given l f e shares k n fits are x d.0 agree d.1)

  pub given_unique : (k : ℕ) (xs : List F) (ts : List (List F)) (n : ℕ) (x : F) (a b : List F) → AreShares xs ts n → k ≤ length xs → IsGiven o k xs ts n x a → IsGiven o k xs ts n x b → a ≡ b
  given_unique k xs ts n x a b shares enough ga gb = derived_unique l xs ts n x a b shares (whole a ga) (whole b gb)
    where
      whole : (c : List F) → IsGiven o k xs ts n x c → IsDerived o xs ts n x c
      whole c g = record {
        size = g.size;
        elements = λ i within. let h = g.elements i within in record { polynomial = h.0; through = record { short = omega (arith, h.1, enough); values = h.2 }; value = h.3 };
      }

enough : (ss : List Share) (x : Fe32) → IsWholeSet ss x → count_of ss ≤ length ss
enough ss x whole = ltb-false (length ss) (count_of ss) whole.enough

pub one : (ss : List Share) (x : Fe32) → IsWholeSet ss x → (DoContradict ss → ⊥) → ExactlyOne (IsDerivedString ss x)
one ss x whole consistent =
    let shares : AreShares (indices_of ss) (rows_of ss) (size_of ss) = shares-from_set ss x whole in
    let index : Share → Fe32 = λ s. index_of_share s in
    let row : Share → List Fe32 = λ s. elements_of (characters_of_share s) in
    let agree : DoAgree ops (count_of ss) (indices_of ss) (rows_of ss) (size_of ss) = agreed is_field index row ss (count_of ss) (size_of ss) (enough ss x whole) shares consistent in
    let d : (d : List Fe32) × IsGiven ops (count_of ss) (indices_of ss) (rows_of ss) (size_of ss) x d = given_exists is_field index row ss (count_of ss) (size_of ss) (enough ss x whole) shares x agree in (
      spelled ms d.0,
      record { elements = d.0; given = d.1; spelling = refl },
      λ text is.
          is.spelling
          ∙ ap (spelled ms) (given_unique is_field (count_of ss) (indices_of ss) (rows_of ss) (size_of ss) x is.elements d.0 shares
          (subst (λ m. count_of ss ≤ m) (sym (length-mapped index ss)) (enough ss x whole)) is.given d.1),
    )

-- ---- the shares themselves

value_among : (p : List Fe32) (i : ℕ) (s : Share) (ss : List Share) → IsAmong s ss → values_at ops p (indices_of ss) ≡ column ops (rows_of ss) i → value_at ops (index_of_share s) p ≡ coefficient ops (elements_of (characters_of_share s)) i
value_among p i s [] among e = absurd among
value_among p i s (u ∷ us) (inl here) e =
    ap (λ (v : Share). value_at ops (index_of_share v) p) here ∙ first_same _ _ _ _ e ∙ ap (λ (v : Share). coefficient ops (elements_of (characters_of_share v)) i) (sym here)
value_among p i s (u ∷ us) (inr there) e = value_among p i s us there (rest_same _ _ _ _ e)

of_set : (first s : Share) (ss : List Share) → AllByRecursion (IsOfSet first) ss → IsAmong s ss → IsOfSet first s
of_set first s [] all among = absurd among
of_set first s (u ∷ us) all (inl here) = subst (IsOfSet first) (sym here) all.0
of_set first s (u ∷ us) all (inr there) = of_set first s us all.1 there

pub own : (ss : List Share) (x : Fe32) (s : Share) → IsWholeSet ss x → (DoContradict ss → ⊥) → IsAmong s ss → IsGivenShare ss s
own [] x s whole consistent among = absurd among
own (u ∷ us) x s whole consistent among =
    let ss : List Share = u ∷ us in
    let is : IsOfSet u s = of_set u s ss whole.set among in
    let agree : DoAgree ops (count_of ss) (indices_of ss) (rows_of ss) (size_of ss) =
    agreed is_field (λ (s : Share). index_of_share s) (λ (s : Share). elements_of (characters_of_share s)) ss (count_of ss) (size_of ss) (enough ss x whole) (shares-from_set ss x whole) consistent in (
      is,
      record {
        size = length-mapped element_of (characters_of_share s) ∙ is.size;
        elements = λ i within. let h = agree i within in (h.0, h.1, h.2, sym (value_among h.0 i s ss among h.2));
      },
    )

-- a share's text in lower case
pub own_text : (ss : List Share) (x : Fe32) (s : Share) (text : List ℕ) → IsWholeSet ss x → (DoContradict ss → ⊥) → IsAmong s ss → IsShareOf text s → IsDerivedString ss (index_of_share s) (lowered text)
own_text [] x s text whole consistent among of = absurd among
own_text (u ∷ us) x s text whole consistent among of =
    let string = of.is_string in
    let grammar = string.accepted.grammar in
    let part : string.hrp ≡ of.hrp = (only-from_IsText text of.hrp (characters_of_share s) of.is_text string.hrp _ grammar.split grammar.data_bytes).0 in
    let low : lowered of.hrp ≡ ms = ap lowered (sym part) ∙ lowered_ms string.hrp string.is_ms in
    record {
      elements = elements_of (characters_of_share s);
      given = (own (u ∷ us) x s whole consistent among).1;
      spelling = lower_text text of.hrp (characters_of_share s) of.is_text ∙ ap (λ (h : List ℕ). h ++ (49 ∷ map char_of_element (elements_of (characters_of_share s)))) low;
    }

-- ---- shares that are given

module _ (ss : List Share) (shares : AreShares (indices_of ss) (rows_of ss) (size_of ss)) (many : count_of ss ≤ length (indices_of ss)) where
  -- what the polynomials of the set are at their indices
  at_given : (others : List Share) → AllByRecursion (λ o. IsGiven ops (count_of ss) (indices_of ss) (rows_of ss) (size_of ss) (index_of_share o) (elements_of (characters_of_share o))) others
      → (i : ℕ) → i < size_of ss → (p : List Fe32) → length p ≤ count_of ss → values_at ops p (indices_of ss) ≡ column ops (rows_of ss) i → values_at ops p (indices_of others) ≡ column ops (rows_of others) i
  at_given [] all i within p short e = refl
  at_given (o ∷ os) all i within p short e =
      let h = all.0.elements i within in
      same_cons _ _ _ _
      (through_unique is_field (indices_of ss) (column ops (rows_of ss) i) p h.0 shares.once (record { short = omega (arith, short, many); values = e }) (record { short = omega (arith, h.1, many); values = h.2 }) (index_of_share o) ∙ sym h.3)
      (at_given os all.1 i within p short e)

each_given : (s : Share) (ss others : List Share) → AllByRecursion (IsGivenShare (s ∷ ss)) others
    → AllByRecursion (λ o. IsGiven ops (count_of (s ∷ ss)) (indices_of (s ∷ ss)) (rows_of (s ∷ ss)) (size_of (s ∷ ss)) (index_of_share o) (elements_of (characters_of_share o))) others
each_given s ss [] all = tt
each_given s ss (o ∷ os) all = (all.0.1, each_given s ss os all.1)

-- what a set gives, they give
kept : (s : Share) (ss : List Share) (o : Share) (os : List Share) (x : Fe32) (text : List ℕ) → IsWholeSet (s ∷ ss) x → AllByRecursion (IsGivenShare (s ∷ ss)) (o ∷ os) → IsDerivedString (s ∷ ss) x text → IsDerivedString (o ∷ os) x text
kept s ss o os x text whole all is =
    let shares = shares-from_set (s ∷ ss) x whole in
    let many : count_of (s ∷ ss) ≤ length (indices_of (s ∷ ss)) = subst (λ m. count_of (s ∷ ss) ≤ m) (sym (length-mapped (λ (u : Share). index_of_share u) (s ∷ ss))) (enough (s ∷ ss) x whole) in
    let size : size_of (o ∷ os) ≡ size_of (s ∷ ss) = all.0.0.size in
    let count : count_of (o ∷ os) ≡ count_of (s ∷ ss) = ap (λ (t : Threshold). points_of t) all.0.0.threshold in record {
      elements = is.elements;
      given = record {
        size = is.given.size ∙ sym size;
        elements = λ i within.
            let inside : i < size_of (s ∷ ss) = subst (λ m. i < m) size within in
            let h = is.given.elements i inside in
            (h.0, subst (λ m. length h.0 ≤ m) (sym count) h.1, at_given (s ∷ ss) shares many (o ∷ os) (each_given s ss (o ∷ os) all) i inside h.0 h.1 h.2, h.3);
      };
      spelling = is.spelling;
    }

pub none_whole : (x : Fe32) → IsWholeSet [] x → ⊥
none_whole x whole = absurd (let k = enough [] x whole in omega arith)

pub same : (ss others : List Share) (x : Fe32) (text : List ℕ) → IsWholeSet ss x → (DoContradict ss → ⊥) → IsWholeSet others x → AllByRecursion (IsGivenShare ss) others
    → (IsDerivedString others x text → IsDerivedString ss x text) × (IsDerivedString ss x text → IsDerivedString others x text)
same [] others x text whole consistent others_whole all = absurd (none_whole x whole)
same (s ∷ ss) [] x text whole consistent others_whole all = absurd (none_whole x others_whole)
same (s ∷ ss) (o ∷ os) x text whole consistent others_whole all = (
  λ is.
      let only = one (s ∷ ss) x whole consistent in
      let theirs : IsDerivedString (o ∷ os) x only.0 = kept s ss o os x only.0 whole all only.1 in
      let agree = agree-from_given ops (count_of (o ∷ os)) (indices_of (o ∷ os)) (rows_of (o ∷ os)) (size_of (o ∷ os)) x theirs.elements theirs.given in
      let their_only = one (o ∷ os) x others_whole (λ contradict. contradict agree) in
      subst (λ t. IsDerivedString (s ∷ ss) x t) (their_only.2 only.0 theirs ∙ sym (their_only.2 text is)) only.1,
  λ is. kept s ss o os x text whole all is,
)

-- ---- a string that is read

same_ends : (a b : List Fe32) (x y : Fe32) → length a ≡ length b → a ++ (x ∷ []) ≡ b ++ (y ∷ []) → (a ≡ b) × (x ≡ y)
same_ends [] [] x y e h = (refl, first_same _ _ _ _ h)
same_ends [] (d ∷ b) x y e h = absurd (omega (arith, e))
same_ends (c ∷ a) [] x y e h = absurd (omega (arith, e))
same_ends (c ∷ a) (d ∷ b) x y e h = let rest = same_ends a b x y (omega (arith, e)) (rest_same _ _ _ _ h) in (same_cons _ _ _ _ (first_same _ _ _ _ h) rest.0, rest.1)

-- headers of the same elements
same_headers : (t u : Threshold) (i j : Identifier) (x y : Fe32) → header_elements_of t i x ≡ header_elements_of u j y → (t ≡ u) × (i ≡ j) × (x ≡ y)
same_headers t u i j x y e =
    let digits : 48 + t.number ≡ 48 + u.number = digit_is (48 + t.number) u.number (digit_of_alphabet t.number t.lawful) u.lawful (first_same _ _ _ _ e) in
    let rest = same_ends i.elements j.elements x y (i.full ∙ sym j.full) (rest_same _ _ _ _ e) in
    (threshold-path t u (omega (arith, digits)), identifier-path i j rest.0, rest.1)

pub read : (ss : List Share) (x : Fe32) (text : List ℕ) (o : Share) → IsWholeSet ss x → IsDerivedString ss x text → IsShareOf text o → (index_of_share o ≡ x) × IsGivenShare ss o
read [] x text o whole is of = absurd (none_whole x whole)
read (s ∷ us) x text o whole is of =
    let es : List Fe32 = is.elements in
    let spelling = spelled-text ms es hrp_of_strings in
    let characters : map char_of_element es ≡ characters_of_share o = (only-from_IsText text of.hrp (characters_of_share o) of.is_text ms (map char_of_element es) is.spelling spelling.data_bytes).1 in
    let row : elements_of (characters_of_share o) ≡ es = ap elements_of (sym characters) ∙ characters-elements es in
    let size : length (characters_of_share o) ≡ length (characters_of_share s) = ap (λ (u : List ℕ). length u) (sym characters) ∙ length-map es char_of_element ∙ is.given.size in
    let parts = same_headers (threshold_of_share o) (threshold_of_share s) (identifier_of_share o) (identifier_of_share s) (index_of_share o) x
    (sym o.header_is ∙ taken o.data_part.now 6 ∙ ap (take 6) row ∙ header s us x es whole is.given) in (
      parts.2,
      (
        record { threshold = parts.0; identifier = parts.1; size = size },
        subst (λ y. IsGiven ops (count_of (s ∷ us)) (indices_of (s ∷ us)) (rows_of (s ∷ us)) (size_of (s ∷ us)) y (elements_of (characters_of_share o))) (sym parts.2)
            (subst (λ u. IsGiven ops (count_of (s ∷ us)) (indices_of (s ∷ us)) (rows_of (s ∷ us)) (size_of (s ∷ us)) x u) (sym row) is.given),
      ),
    )

-- ---- the parts of a string

pub parted : {A : Type 0} (xs ys us vs : List A) → length xs ≡ length ys → xs ++ us ≡ ys ++ vs → (xs ≡ ys) × (us ≡ vs)
parted [] [] us vs e h = (refl, h)
parted [] (y ∷ ys) us vs e h = absurd (omega (arith, e))
parted (x ∷ xs) [] us vs e h = absurd (omega (arith, e))
parted (x ∷ xs) (y ∷ ys) us vs e h = let rest = parted xs ys us vs (omega (arith, e)) (rest_same _ _ _ _ h) in (same_cons _ _ _ _ (first_same _ _ _ _ h) rest.0, rest.1)

pub six : (front : List ℕ) (t : Threshold) (i : Identifier) (x : Fe32) → elements_of front ≡ header_elements_of t i x → length front ≡ 6
six front t i x header = let full = i.full in let both = length-append i.elements (x ∷ []) in let k = ap length header in omega (arith, length-map front element_of, k, both, full)

pub same_parts : (text : List ℕ) (t u : Threshold) (i j : Identifier) (x y : Fe32) (p q : List ℕ) → IsShareString text t i x p → IsShareString text u j y q → (t ≡ u) × (i ≡ j) × (x ≡ y) × (p ≡ q)
same_parts text t u i j x y p q a b =
    let whole : b.front ++ (q ++ b.checksum) ≡ a.front ++ (p ++ a.checksum) =
    (only-from_IsText text a.hrp (a.front ++ (p ++ a.checksum)) a.accepted.grammar b.hrp (b.front ++ (q ++ b.checksum)) b.accepted.grammar.split b.accepted.grammar.data_bytes).1 in
    let front = parted b.front a.front (q ++ b.checksum) (p ++ a.checksum) (six b.front u j y b.header ∙ sym (six a.front t i x a.header)) whole in
    let long : length (q ++ b.checksum) ≡ length (p ++ a.checksum) = ap (λ (l : List ℕ). length l) front.1 in
    let ends = parted q p b.checksum a.checksum (omega (arith, long, length-append q b.checksum, length-append p a.checksum, b.checksum_length, a.checksum_length)) front.1 in
    let header = same_headers t u i j x y (sym a.header ∙ ap elements_of (sym front.0) ∙ b.header) in
    (header.0, header.1, header.2, sym ends.0)
