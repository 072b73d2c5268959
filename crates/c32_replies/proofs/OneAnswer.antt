-- Where the good answer is right, no other is.
use Rattle.std.specs.Prelude.{nat_lt}
use Rattle.std.specs.List.{AllByRecursion}
use Rattle.std.proofs.Common.{◌≡◌, ◌⊎◌, ◌<◌, ◌≤◌, ◌||◌, ℕ, true, false, inl, inr, List, [], ◌∷◌, Option, Some, None, Err, IsOk, length, map, refl, sym, ap, subst, ◌∙◌, ⊎_elim, arith}
use Rattle.bech32_gf.specs.Fe32 as fe32
use Rattle.bech32_gf.specs.Fe32.{elements_of}
use Rattle.bech32_gf.specs.declared.gf32.Fe32.{Fe32}
use Rattle.bech32_decode.proofs.Grammar.{only-from_IsText}
use Rattle.bech32_poly.specs.Distinct.{IsOnce}
use Rattle.b32_replies.specs.Hex.{bytes_of}
use Rattle.b32_replies.proofs.Unrefused.{IsUtf8-from_grammar}
use Rattle.codex32.specs.declared.string.Codex32Str.{Codex32Str}
use Rattle.codex32.proofs.Strings.{accepts-from_outcome}
use Rattle.codex32.specs.Numbers.{number_of_codex32_encode_error, number_of_codex32_error, number_of_derive_error}
use Rattle.codex32_steady.specs.shares.Shares.{DoAgree}
use Rattle.codex32.specs.Damaged.{read_text}
use Rattle.codex32.specs.Derive.{AreOfSet, DoContradict, IsDeriveRefusal, IsOfSet, IsSetRefusal, IsUnshared, IsWholeSet, count_of, indices_of, rows_of, size_of}
use Rattle.codex32.specs.Encode.{is_byte_count, is_long_byte_count}
use Rattle.codex32.specs.HeaderParts.{header_word_fault, points_of, share_index_of_word, share_index_word_fault, threshold_number}
use Rattle.codex32.specs.Share.{AreSharesOf, IsEither, IsShareOf, IsShareRefusal, IsShareString, characters_of_share, identifier_of_share, index_of_share, payload_of_share, threshold_of_share}
use Rattle.codex32.specs.ShareParts.{bits_left_over}
use Rattle.codex32.specs.Strings.{IsCodex32}
use Rattle.codex32.specs.declared.error.Codex32Error.{Codex32Error}
use Rattle.codex32.specs.declared.error.Codex32Error.TheVariants as text_errors
use Rattle.codex32.specs.declared.error.DeriveError.{DeriveError}
use Rattle.codex32.specs.declared.identifier.Identifier.{Identifier}
use Rattle.codex32.specs.declared.share.Share.{Share}
use Rattle.codex32.specs.declared.threshold.Threshold.{Threshold}
use Rattle.codex32.proofs.OneString.{same_parts}
use Rattle.codex32.proofs.ShareStrings as strings
use Rattle.line_program.specs.Refused.{SaysRefusal, err}
use Rattle.c32_replies.specs.Numbers.{number_of_codex32_reply}
use Rattle.c32_replies.specs.Reply.{IsDeriveAnswer, IsEncodeLineRefusal, IsEncodeStringAnswer, IsParseAnswer, IsShareAnswer, IsShareLineRefusal, IsSharesAnswer, IsSharesRefusal, IsTextRefusal, SaysDerived, SaysEncoded, SaysNearest, SaysNoNearest, SaysParts, SaysShare}
use Rattle.c32_replies.specs.declared.refusal.Refusal.{Refusal}
use Rattle.c32_replies.specs.declared.refusal.Refusal.TheVariants as refusals

-- ---- `parse`

pub parsed : (text said : List ℕ) → IsCodex32 text → IsParseAnswer text said → SaysParts text said
parsed text said a (inl s) = s
parsed text said a (inr r) =
    let (hrp, threshold, identifier, share_index, payload, checksum, is) = a in
    let ok : IsOk {T = Codex32Str} (Err r.error) = (accepts-from_outcome text (IsUtf8-from_grammar text (hrp, _, is.accepted.grammar)) (Err r.error) r.is_refusal).1 a in absurd (cc)

-- ---- `propose` and `propose-long`

module _ (IsNearest : List ℕ → List ℕ → Type 0) (fault : List ℕ → Option Codex32Error) (text said : List ℕ) (framed : fault (read_text text) ≡ None) where
  abbrev Answer : Type 0
  Answer = SaysNearest IsNearest fault text said
      ⊎ (SaysNoNearest IsNearest fault text said
      ⊎ SaysRefusal (λ e. ((e ≡ text_errors.Memory) × (fault (read_text text) ≡ None)) ⊎ (fault (read_text text) ≡ Some e)) number_of_codex32_error said)

  memory : SaysRefusal (λ e. ((e ≡ text_errors.Memory) × (fault (read_text text) ≡ None)) ⊎ (fault (read_text text) ≡ Some e)) number_of_codex32_error said → said ≡ err 91
  memory r =
      ⊎_elim (λ (m : (r.error ≡ text_errors.Memory) × (fault (read_text text) ≡ None)). r.spelling ∙ ap (λ e. err (number_of_codex32_error e)) m.0)
      (λ (f : fault (read_text text) ≡ Some r.error). absurd (let k = sym framed ∙ f in cc))
      r.is_refusal

  pub proposed : (nearest : List ℕ) → IsNearest text nearest → Answer → SaysNearest IsNearest fault text said ⊎ (said ≡ err 91)
  proposed nearest is (inl s) = inl s
  proposed nearest is (inr (inl s)) = absurd (s.none nearest is)
  proposed nearest is (inr (inr r)) = inr (memory r)

  pub not_proposed : ((nearest : List ℕ) → IsNearest text nearest → ⊥) → Answer → SaysNoNearest IsNearest fault text said ⊎ (said ≡ err 91)
  not_proposed none (inl s) = absurd (none s.nearest s.is_nearest)
  not_proposed none (inr (inl s)) = inl s
  not_proposed none (inr (inr r)) = inr (memory r)

-- ---- `share`

-- a string of either length is not refused
not_refused : (text : List ℕ) (e : Codex32Error) → IsEither text → IsShareRefusal text e → ⊥
not_refused text e a h =
    let (t, i, x, payload, is) = a in
    let ok : IsOk {T = Share} (Err e) = (strings.accepts-from_outcome text (IsUtf8-from_grammar text (is.hrp, _, is.accepted.grammar)) (Err e) h).1 a in absurd (cc)

module _ (text said payload : List ℕ) (t : Threshold) (i : Identifier) (x : Fe32) (is : IsShareString text t i x payload) (few : bits_left_over (length payload) ≤ 4) where
  not_left_over : (e : Refusal) → IsShareLineRefusal text e → ⊥
  not_left_over (refusals.Text e) h = not_refused text e (t, i, x, payload, is) h
  not_left_over (refusals.Payload e) (u, j, y, other, also, many) =
      let same = (same_parts text u t j i y x other payload also is).3 in
      let none : 4 < bits_left_over (length payload) = subst (λ p. 4 < bits_left_over (length p)) same many in
      absurd (omega (arith, none, few))
  not_left_over refusals.BadHex h = h
  not_left_over (refusals.Header e) h = h
  not_left_over (refusals.Encode e) h = h
  not_left_over (refusals.Derive e) h = h
  not_left_over (refusals.Split e) h = h
  not_left_over refusals.BadNumber h = h

  pub read : IsShareAnswer text said → SaysShare text said
  read (inl s) = s
  read (inr r) = absurd (not_left_over r.error r.is_refusal)

-- ---- `encode`

module _ (threshold identifier share_index hex bytes said : List ℕ) (digits : bytes_of hex ≡ Some bytes) (fine : header_word_fault threshold identifier share_index ≡ None)
    (counted : is_byte_count (length bytes) || is_long_byte_count (length bytes) ≡ true) where
  same_some : {A : Type 0} (a b : A) → ◌≡◌ {A = Option A} (Some a) (Some b) → a ≡ b
  same_some a b e = cc

  not_encoded : (e : Refusal) → said ≡ err (number_of_codex32_reply e) → IsEncodeLineRefusal threshold identifier share_index hex e → said ≡ err 91
  not_encoded refusals.BadHex spelling h = absurd (let k = sym digits ∙ h in cc)
  not_encoded (refusals.Header e) spelling h = absurd (let k = sym fine ∙ h.2 in cc)
  not_encoded (refusals.Encode e) spelling (others, also, none, inl size) =
      let same : others ≡ bytes = same_some others bytes (sym also ∙ digits) in
      absurd (let k = sym counted ∙ subst (λ b. is_byte_count (length b) || is_long_byte_count (length b) ≡ false) same size.1 in cc)
  not_encoded (refusals.Encode e) spelling (others, also, none, inr memory) = spelling ∙ ap (λ e. err (number_of_codex32_encode_error e)) memory.0
  not_encoded (refusals.Text e) spelling h = absurd h
  not_encoded (refusals.Payload e) spelling h = absurd h
  not_encoded (refusals.Derive e) spelling h = absurd h
  not_encoded (refusals.Split e) spelling h = absurd h
  not_encoded refusals.BadNumber spelling h = absurd h

  pub encoded : IsEncodeStringAnswer threshold identifier share_index hex said → SaysEncoded threshold identifier share_index hex said ⊎ (said ≡ err 91)
  encoded (inl s) = inl s
  encoded (inr r) = inr (not_encoded r.error r.spelling r.is_refusal)

-- ---- `derive` and `recover`

-- shares of one text are alike
record AreAlike (s r : Share) : Type 0 where
  threshold : threshold_of_share s ≡ threshold_of_share r
  identifier : identifier_of_share s ≡ identifier_of_share r
  index : index_of_share s ≡ index_of_share r
  characters : characters_of_share s ≡ characters_of_share r

alike : (text : List ℕ) (s r : Share) → IsShareOf text s → IsShareOf text r → AreAlike s r
alike text s r a b =
    let parts =
    same_parts text (threshold_of_share s) (threshold_of_share r) (identifier_of_share s) (identifier_of_share r) (index_of_share s) (index_of_share r) (payload_of_share s) (payload_of_share r) a.is_string b.is_string in
    record {
      threshold = parts.0;
      identifier = parts.1;
      index = parts.2;
      characters = (only-from_IsText text b.hrp (characters_of_share r) b.is_text a.hrp (characters_of_share s) a.is_text.split a.is_text.data_bytes).1;
    }

same_cons : {A : Type 0} (x y : A) (xs ys : List A) → x ≡ y → xs ≡ ys → x ∷ xs ≡ y ∷ ys
same_cons x y xs ys e f = cc

same_list : {A : Type 0} (f : Share → A) → ((s r : Share) → AreAlike s r → f s ≡ f r) → (texts : List (List ℕ)) (ss rs : List Share) → AreSharesOf texts ss → AreSharesOf texts rs → map f ss ≡ map f rs
same_list f each [] [] [] a b = refl
same_list f each [] [] (r ∷ rs) a b = absurd b
same_list f each [] (s ∷ ss) rs a b = absurd a
same_list f each (t ∷ ts) [] rs a b = absurd a
same_list f each (t ∷ ts) (s ∷ ss) [] a b = absurd b
same_list f each (t ∷ ts) (s ∷ ss) (r ∷ rs) a b = same_cons (f s) (f r) (map f ss) (map f rs) (each s r (alike t s r a.0 b.0)) (same_list f each ts ss rs a.1 b.1)

module _ (texts : List (List ℕ)) (ss rs : List Share) (a : AreSharesOf texts ss) (b : AreSharesOf texts rs) where
  same_indices : indices_of ss ≡ indices_of rs
  same_indices = same_list (λ (s : Share). index_of_share s) (λ s r k. k.index) texts ss rs a b

  same_rows : rows_of ss ≡ rows_of rs
  same_rows = same_list (λ (s : Share). elements_of (characters_of_share s)) (λ s r k. ap elements_of k.characters) texts ss rs a b

same_length : (texts : List (List ℕ)) (ss rs : List Share) → AreSharesOf texts ss → AreSharesOf texts rs → length ss ≡ length rs
same_length [] [] [] a b = refl
same_length [] [] (r ∷ rs) a b = absurd b
same_length [] (s ∷ ss) rs a b = absurd a
same_length (t ∷ ts) [] rs a b = absurd a
same_length (t ∷ ts) (s ∷ ss) [] a b = absurd b
same_length (t ∷ ts) (s ∷ ss) (r ∷ rs) a b = let more = same_length ts ss rs a.1 b.1 in omega (arith, more)

same_size : (texts : List (List ℕ)) (ss rs : List Share) → AreSharesOf texts ss → AreSharesOf texts rs → size_of ss ≡ size_of rs
same_size [] [] [] a b = refl
same_size [] [] (r ∷ rs) a b = absurd b
same_size [] (s ∷ ss) rs a b = absurd a
same_size (t ∷ ts) [] rs a b = absurd a
same_size (t ∷ ts) (s ∷ ss) [] a b = absurd b
same_size (t ∷ ts) (s ∷ ss) (r ∷ rs) a b = ap length (alike t s r a.0 b.0).characters

same_count : (texts : List (List ℕ)) (ss rs : List Share) → AreSharesOf texts ss → AreSharesOf texts rs → count_of ss ≡ count_of rs
same_count [] [] [] a b = refl
same_count [] [] (r ∷ rs) a b = absurd b
same_count [] (s ∷ ss) rs a b = absurd a
same_count (t ∷ ts) [] rs a b = absurd a
same_count (t ∷ ts) (s ∷ ss) [] a b = absurd b
same_count (t ∷ ts) (s ∷ ss) (r ∷ rs) a b = ap points_of (alike t s r a.0 b.0).threshold

same_set : (first other : Share) → AreAlike first other → (texts : List (List ℕ)) (ss rs : List Share) → AreSharesOf texts ss → AreSharesOf texts rs → AllByRecursion (IsOfSet first) ss
    → AllByRecursion (IsOfSet other) rs
same_set first other k [] ss [] a b h = tt
same_set first other k [] ss (r ∷ rs) a b h = absurd b
same_set first other k (t ∷ ts) ss [] a b h = tt
same_set first other k (t ∷ ts) [] (r ∷ rs) a b h = absurd a
same_set first other k (t ∷ ts) (s ∷ ss) (r ∷ rs) a b h =
    let m = alike t s r a.0 b.0 in (
      record {
        threshold = sym m.threshold ∙ h.0.threshold ∙ k.threshold;
        identifier = sym m.identifier ∙ h.0.identifier ∙ k.identifier;
        size = sym (ap length m.characters) ∙ h.0.size ∙ ap length k.characters;
      },
      same_set first other k ts ss rs a.1 b.1 h.1,
    )

still_of_set : (texts : List (List ℕ)) (ss rs : List Share) → AreSharesOf texts ss → AreSharesOf texts rs → AreOfSet ss → AreOfSet rs
still_of_set texts ss [] a b h = tt
still_of_set [] ss (r ∷ rs) a b h = absurd b
still_of_set (t ∷ ts) [] (r ∷ rs) a b h = absurd a
still_of_set (t ∷ ts) (s ∷ ss) (r ∷ rs) a b h = same_set s r (alike t s r a.0 b.0) (t ∷ ts) (s ∷ ss) (r ∷ rs) a b h

still_unshared : (texts : List (List ℕ)) (ss rs : List Share) (x : Fe32) → AreSharesOf texts ss → AreSharesOf texts rs → IsUnshared rs x → IsUnshared ss x
still_unshared texts ss [] x a b h = absurd h
still_unshared [] ss (r ∷ rs) x a b h = absurd b
still_unshared (t ∷ ts) [] (r ∷ rs) x a b h = absurd a
still_unshared (t ∷ ts) (s ∷ ss) (r ∷ rs) x a b h = (ap threshold_number (alike t s r a.0 b.0).threshold ∙ h.0, h.1)

module _ (x : Fe32) (texts : List (List ℕ)) (shares : List Share) (are : AreSharesOf texts shares) (whole : IsWholeSet shares x) (consistent : DoContradict shares → ⊥) where
  module _ (others : List Share) (also : AreSharesOf texts others) where
    set_unrefused : (e : DeriveError) → IsSetRefusal others x e → ⊥
    set_unrefused e (inl h) = h.1 (still_of_set texts shares others are also whole.set)
    set_unrefused e (inr (inl h)) = h.2 (subst IsOnce (same_indices texts shares others are also) whole.once)
    set_unrefused e (inr (inr (inl h))) = whole.shared (still_unshared texts shares others x are also h.3)
    set_unrefused e (inr (inr (inr h))) =
        let enough : nat_lt (length others) (count_of others) ≡ false =
        subst (λ n. nat_lt n (count_of others) ≡ false) (same_length texts shares others are also)
        (subst (λ n. nat_lt (length shares) n ≡ false) (same_count texts shares others are also) whole.enough) in
        absurd (let k = sym enough ∙ h.4 in cc)

    still_contradict : DoContradict others → DoContradict shares
    still_contradict never agree =
        never (subst (λ k. DoAgree fe32.ops k (indices_of others) (rows_of others) (size_of others)) (same_count texts shares others are also)
        (subst (λ i. DoAgree fe32.ops (count_of shares) i (rows_of others) (size_of others)) (same_indices texts shares others are also)
        (subst (λ t. DoAgree fe32.ops (count_of shares) (indices_of shares) t (size_of others)) (same_rows texts shares others are also)
        (subst (λ n. DoAgree fe32.ops (count_of shares) (indices_of shares) (rows_of shares) n) (same_size texts shares others are also) agree))))

    derive_memory : (e : DeriveError) (said : List ℕ) → said ≡ err (number_of_derive_error e) → IsDeriveRefusal others x e → said ≡ err 91
    derive_memory e said spelling (inl h) = absurd (set_unrefused e h)
    derive_memory e said spelling (inr (inl h)) = absurd (consistent (still_contradict h.2))
    derive_memory e said spelling (inr (inr h)) = spelling ∙ ap (λ e. err (number_of_derive_error e)) h.0

  texts_unrefused : (ts : List (List ℕ)) (ss : List Share) (e : Codex32Error) → AreSharesOf ts ss → IsTextRefusal ts e → ⊥
  texts_unrefused [] ss e h refused = refused
  texts_unrefused (t ∷ ts) [] e h refused = h
  texts_unrefused (t ∷ ts) (s ∷ ss) e h (inl refused) = not_refused t e (threshold_of_share s, identifier_of_share s, index_of_share s, payload_of_share s, h.0.is_string) refused
  texts_unrefused (t ∷ ts) (s ∷ ss) e h (inr more) = texts_unrefused ts ss e h.1 more.1

  not_derived : (e : Refusal) (said : List ℕ) → said ≡ err (number_of_codex32_reply e) → IsSharesRefusal x texts e → said ≡ err 91
  not_derived (refusals.Text e) said spelling (inl h) = absurd (texts_unrefused texts shares e are h)
  not_derived (refusals.Text e) said spelling (inr memory) = spelling ∙ ap (λ e. err (number_of_codex32_error e)) memory.0
  not_derived (refusals.Derive e) said spelling (others, also, h) = derive_memory others also e said spelling h
  not_derived refusals.BadHex said spelling h = absurd h
  not_derived (refusals.Header e) said spelling h = absurd h
  not_derived (refusals.Payload e) said spelling h = absurd h
  not_derived (refusals.Encode e) said spelling h = absurd h
  not_derived (refusals.Split e) said spelling h = absurd h
  not_derived refusals.BadNumber said spelling h = absurd h

  pub derived : (said : List ℕ) → IsSharesAnswer x texts said → SaysDerived x texts said ⊎ (said ≡ err 91)
  derived said (inl s) = inl s
  derived said (inr r) = inr (not_derived r.error said r.spelling r.is_refusal)

pub at_word : (share_index : List ℕ) (texts : List (List ℕ)) (said : List ℕ) → share_index_word_fault share_index ≡ None → IsDeriveAnswer share_index texts said
    → IsSharesAnswer (share_index_of_word share_index) texts said
at_word share_index texts said fine (inl r) = absurd (let k = sym fine ∙ r.is_refusal in cc)
at_word share_index texts said fine (inr h) = h.1
