-- Texts have one list of shares, and nothing is wrong where these give a string that there is room for.
use Rattle.std.specs.Prelude.{nat_lt}
use Rattle.std.specs.List.{AllByRecursion}
use Rattle.std.proofs.Common.{◌≡◌, ℕ, List, [], ◌∷◌, length, map, inl, inr, refl, sym, ap, subst, ◌∙◌, arith}
use Rattle.std.proofs.lemmas.List.{length-map}
use Rattle.bech32_checksum.specs.Encoded.{char_of_element}
use Rattle.bech32_decode.proofs.Grammar.{only-from_IsText}
use Rattle.bech32_gf.specs.Fe32 as fe32
use Rattle.bech32_gf.specs.Fe32.{element_of, elements_of}
use Rattle.bech32_gf.specs.declared.gf32.Fe32.{Fe32}
use Rattle.bech32_poly.specs.Distinct.{IsOnce}
use Rattle.codex32_steady.specs.shares.Shares.{DoAgree}
use Rattle.codex32.specs.Derive.{AreOfSet, DoContradict, IsDeriveIntoRefusal, IsOfSet, IsSetRefusal, IsUnshared, IsWholeSet, count_of, indices_of, rows_of, size_of}
use Rattle.codex32.specs.HeaderParts.{points_of, threshold_number}
use Rattle.codex32.specs.Share.{AreSharesOf, IsShareOf, characters_of_share, identifier_of_share, index_of_share, payload_of_share, threshold_of_share}
use Rattle.codex32.specs.declared.error.DeriveError.{DeriveError}
use Rattle.codex32.specs.declared.share.Share.{Share}
use Rattle.codex32.specs.declared.threshold.Threshold.{Threshold}
use Rattle.codex32.proofs.OneString.{same_parts}
use Rattle.codex32_calls.specs.Derive.{CanDerive, IsDeriveFault, IsTextsFault, LacksRoomForDerived, texts_of}
use Rattle.codex32_calls.specs.declared.refusal.Refusal.{Refusal}
use Rattle.codex32_calls.specs.declared.refusal.Refusal.TheVariants as refusals
use Rattle.codex32_calls.proofs.Accepted.{no_either_fault}
use Rattle.codex32_calls.proofs.TextsInTurn.{either-from_share}

-- two shares have the same parts
pub record IsSame (s r : Share) : Type 0 where
  threshold : threshold_of_share s ≡ threshold_of_share r
  identifier : identifier_of_share s ≡ identifier_of_share r
  index : index_of_share s ≡ index_of_share r
  characters : characters_of_share s ≡ characters_of_share r

same_share : (t : List ℕ) (s r : Share) → IsShareOf t s → IsShareOf t r → IsSame s r
same_share t s r a b =
    let parts = same_parts t (threshold_of_share s) (threshold_of_share r) (identifier_of_share s) (identifier_of_share r) (index_of_share s) (index_of_share r) (payload_of_share s) (payload_of_share r) a.is_string b.is_string in
    record {
      threshold = parts.0;
      identifier = parts.1;
      index = parts.2;
      characters = (only-from_IsText t b.hrp (characters_of_share r) b.is_text a.hrp (characters_of_share s) a.is_text.split a.is_text.data_bytes).1;
    }

abbrev pub AreSame : List Share → List Share → Type 0
AreSame [] [] = Unit {0}
AreSame [] (r ∷ rs) = ⊥
AreSame (s ∷ ss) [] = ⊥
AreSame (s ∷ ss) (r ∷ rs) = IsSame s r × AreSame ss rs

pub same_shares : (ts : List (List ℕ)) (ss rs : List Share) → AreSharesOf ts ss → AreSharesOf ts rs → AreSame ss rs
same_shares [] [] [] a b = tt
same_shares [] [] (r ∷ rs) a b = absurd b
same_shares [] (s ∷ ss) rs a b = absurd a
same_shares (t ∷ ts) [] rs a b = absurd a
same_shares (t ∷ ts) (s ∷ ss) [] a b = absurd b
same_shares (t ∷ ts) (s ∷ ss) (r ∷ rs) a b = (same_share t s r a.0 b.0, same_shares ts ss rs a.1 b.1)

-- ---- what is said of a set

mapped : {B : Type 0} (f : Share → B) → ((s r : Share) → IsSame s r → f s ≡ f r) → (ss rs : List Share) → AreSame ss rs → map f ss ≡ map f rs
mapped f same [] [] h = refl
mapped f same [] (r ∷ rs) h = absurd h
mapped f same (s ∷ ss) [] h = absurd h
mapped {B} f same (s ∷ ss) (r ∷ rs) h = ap (λ (b : B). b ∷ map f ss) (same s r h.0) ∙ ap (λ (bs : List B). f r ∷ bs) (mapped f same ss rs h.1)

members : (s r : Share) → IsSame s r → (ss rs : List Share) → AreSame ss rs → AllByRecursion (IsOfSet s) ss → AllByRecursion (IsOfSet r) rs
members s r is [] [] h all = tt
members s r is [] (q ∷ rs) h all = absurd h
members s r is (o ∷ ss) [] h all = absurd h
members s r is (o ∷ ss) (q ∷ rs) h all = (
  record {
    threshold = sym h.0.threshold ∙ all.0.threshold ∙ is.threshold;
    identifier = sym h.0.identifier ∙ all.0.identifier ∙ is.identifier;
    size = ap (λ (cs : List ℕ). length cs) (sym h.0.characters) ∙ all.0.size ∙ ap (λ (cs : List ℕ). length cs) is.characters;
  },
  members s r is ss rs h.1 all.1,
)

set-same : (ss rs : List Share) → AreSame ss rs → AreOfSet ss → AreOfSet rs
set-same [] [] h set = tt
set-same [] (r ∷ rs) h set = absurd h
set-same (s ∷ ss) [] h set = absurd h
set-same (s ∷ ss) (r ∷ rs) h set = members s r h.0 (s ∷ ss) (r ∷ rs) h set

pub size-same : (ss rs : List Share) → AreSame ss rs → size_of ss ≡ size_of rs
size-same [] [] h = refl
size-same [] (r ∷ rs) h = absurd h
size-same (s ∷ ss) [] h = absurd h
size-same (s ∷ ss) (r ∷ rs) h = ap (λ (cs : List ℕ). length cs) h.0.characters

count-same : (ss rs : List Share) → AreSame ss rs → count_of ss ≡ count_of rs
count-same [] [] h = refl
count-same [] (r ∷ rs) h = absurd h
count-same (s ∷ ss) [] h = absurd h
count-same (s ∷ ss) (r ∷ rs) h = ap (λ (t : Threshold). points_of t) h.0.threshold

pub length-same : (ss rs : List Share) → AreSame ss rs → length ss ≡ length rs
length-same [] [] h = refl
length-same [] (r ∷ rs) h = absurd h
length-same (s ∷ ss) [] h = absurd h
length-same (s ∷ ss) (r ∷ rs) h = let k = length-same ss rs h.1 in omega (arith, k)

shared-same : (ss rs : List Share) (x : Fe32) → AreSame ss rs → IsUnshared rs x → IsUnshared ss x
shared-same [] [] x h un = absurd un
shared-same [] (r ∷ rs) x h un = absurd h
shared-same (s ∷ ss) [] x h un = absurd h
shared-same (s ∷ ss) (r ∷ rs) x h un = (ap (λ (t : Threshold). threshold_number t) h.0.threshold ∙ un.0, un.1)

module _ (ss rs : List Share) (x : Fe32) (same : AreSame ss rs) (whole : IsWholeSet ss x) where
  indices : indices_of ss ≡ indices_of rs
  indices = mapped (λ (s : Share). index_of_share s) (λ s r h. h.index) ss rs same

  rows : rows_of ss ≡ rows_of rs
  rows = mapped (λ (s : Share). elements_of (characters_of_share s)) (λ s r h. ap elements_of h.characters) ss rs same

  agree-same : DoAgree fe32.ops (count_of ss) (indices_of ss) (rows_of ss) (size_of ss) → DoAgree fe32.ops (count_of rs) (indices_of rs) (rows_of rs) (size_of rs)
  agree-same h =
      subst (λ (n : ℕ). DoAgree fe32.ops (count_of rs) (indices_of rs) (rows_of rs) n) (size-same ss rs same)
      (subst (λ (ts : List (List Fe32)). DoAgree fe32.ops (count_of rs) (indices_of rs) ts (size_of ss)) rows
      (subst (λ (is : List Fe32). DoAgree fe32.ops (count_of rs) is (rows_of ss) (size_of ss)) indices
      (subst (λ (k : ℕ). DoAgree fe32.ops k (indices_of ss) (rows_of ss) (size_of ss)) (count-same ss rs same) h)))

  no_set_refusal : (e : DeriveError) → IsSetRefusal rs x e → ⊥
  no_set_refusal e (inl h) = h.1 (set-same ss rs same whole.set)
  no_set_refusal e (inr (inl h)) = h.2 (subst IsOnce indices whole.once)
  no_set_refusal e (inr (inr (inl h))) = whole.shared (shared-same ss rs x same h.3)
  no_set_refusal e (inr (inr (inr h))) =
      let counts : nat_lt (length ss) (count_of ss) ≡ nat_lt (length rs) (count_of rs) =
      ap (λ (n : ℕ). nat_lt n (count_of ss)) (length-same ss rs same) ∙ ap (λ (k : ℕ). nat_lt (length rs) k) (count-same ss rs same) in
      absurd (let k = sym whole.enough ∙ counts ∙ h.4 in cc)

  no_refusal : (DoContradict ss → ⊥) → (e : DeriveError) → IsDeriveIntoRefusal rs x e → ⊥
  no_refusal agree e (inl h) = no_set_refusal e h
  no_refusal agree e (inr h) = agree (λ does. h.2 (agree-same does))

-- ---- texts

no_texts_fault : (ts : List (List ℕ)) (ss : List Share) (e : Refusal) → AreSharesOf ts ss → IsTextsFault ts e → ⊥
no_texts_fault [] ss e are h = h
no_texts_fault (t ∷ ts) [] e are h = are
no_texts_fault (t ∷ ts) (s ∷ ss) e are (inl h) = no_either_fault t e (either-from_share t s are.0) h
no_texts_fault (t ∷ ts) (s ∷ ss) e are (inr h) = no_texts_fault ts ss e are.1 h.1

module _ (x : ℕ) (texts lengths : List ℕ) (room : ℕ) where
  no_room-derived : CanDerive x texts lengths room → LacksRoomForDerived x texts lengths room → ⊥
  no_room-derived can h =
      let is = h.is_text in
      let elements : List Fe32 = is.is_derived.elements in
      let long = ap (λ (t : List ℕ). length t) is.is_derived.spelling in
      let size : length elements ≡ size_of is.shares = is.is_derived.given.size in
      let same : size_of can.shares ≡ size_of is.shares = size-same can.shares is.shares (same_shares (texts_of texts lengths) can.shares is.shares can.are is.are) in
      absurd (omega (arith, long, length-map elements char_of_element, size, same, can.fits, h.lacks))

  no_texts : (e : Refusal) → CanDerive x texts lengths room → IsTextsFault (texts_of texts lengths) e → ⊥
  no_texts e can h = no_texts_fault (texts_of texts lengths) can.shares e can.are h

  pub no_derive_fault : (e : Refusal) → CanDerive x texts lengths room → IsDeriveFault x texts lengths room e → ⊥
  no_derive_fault refusals.BadLengths can h = absurd (let k = sym can.asked.lengths_are ∙ h in cc)
  no_derive_fault (refusals.Header e) can h = absurd (let k = sym can.asked.index_is ∙ h.1 in cc)
  no_derive_fault refusals.NoRoom can h = no_room-derived can h
  no_derive_fault (refusals.Derive e) can (asked, (shares, are, h)) =
      no_refusal can.shares shares (element_of x) (same_shares (texts_of texts lengths) can.shares shares can.are are) can.whole can.agree e h
  no_derive_fault refusals.NotUtf8 can h = no_texts refusals.NotUtf8 can h.1
  no_derive_fault (refusals.Text e) can h = no_texts (refusals.Text e) can h.1
  no_derive_fault refusals.InvalidCharacter can h = no_texts refusals.InvalidCharacter can h.1
  no_derive_fault refusals.MixedCase can h = no_texts refusals.MixedCase can h.1
  no_derive_fault (refusals.Payload e) can h = no_texts (refusals.Payload e) can h.1
  no_derive_fault (refusals.Split e) can h = no_texts (refusals.Split e) can h.1
  no_derive_fault (refusals.Encode e) can h = no_texts (refusals.Encode e) can h.1
  no_derive_fault refusals.NoNearest can h = no_texts refusals.NoNearest can h.1
