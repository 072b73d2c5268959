-- The shares that give the others of a split.
use Rattle.std.specs.Char.{to_ascii_lowercase}
use Rattle.std.specs.List.{AllByRecursion}
use Rattle.std.proofs.Common.{◌≡◌, ℕ, zero, suc, ◌+◌, ◌<◌, ◌≤◌, List, [], ◌∷◌, ◌++◌, length, take, drop, inl, inr, refl, sym, ap, subst, ◌∙◌, arith}
use Rattle.std.proofs.lemmas.Bool.{le-ltb}
use Rattle.std.proofs.lemmas.List.{length-append, length-map}
use Rattle.bech32_gf.specs.declared.gf32.Fe32.{Fe32}
use Rattle.bech32_gf.specs.laws.Fe32Laws.{is_field}
use Rattle.bech32_hrp.specs.Hrp.{lowered}
use Rattle.bech32_poly.specs.Distinct.{IsAmong, IsOnce}
use Rattle.bech32_poly.proofs.Lists.{same_cons}
use Rattle.bech32_decode.proofs.Grammar.{only-from_IsText}
use Rattle.codex32_steady.proofs.ShareTexts.{derived_exists}
use Rattle.codex32_steady.proofs.Written.{length-mapped}
use Rattle.codex32.specs.Derive.{AreOfSet, DoContradict, IsDerivedString, IsOfSet, IsUnshared, IsWholeSet, count_of, indices_of, rows_of, size_of}
use Rattle.codex32.specs.HeaderParts.{points_of, secret_index, threshold_number}
use Rattle.codex32.specs.Share.{AreSharesOf, IsShareOf, characters_of_share, identifier_of_share, index_of_share, payload_of_share, threshold_of_share}
use Rattle.codex32.specs.Split.{first_texts, split_index, text_at}
use Rattle.codex32.specs.declared.identifier.Identifier.{Identifier}
use Rattle.codex32.specs.declared.share.Share.{Share}
use Rattle.codex32.specs.declared.threshold.Threshold.{Threshold}
use Rattle.codex32.proofs.Derived.{shares-from_set}
use Rattle.codex32.proofs.MadeTexts.{IsMade}
use Rattle.codex32.proofs.OneString.{own_text, same_parts}
use Rattle.codex32.proofs.SplitIndices.{indices-once, indices_from, secret-behind}
use Rattle.codex32.proofs.Refused.{lowered_ms}
use Rattle.codex32.proofs.TextAt.{length-first, text_first, text_next}

-- ---- one share

-- how many characters its text has
pub length-text_of : (text : List ℕ) (s : Share) → IsShareOf text s → length text ≡ 3 + length (characters_of_share s)
length-text_of text s of =
    let grammar = of.is_string.accepted.grammar in
    let part : of.is_string.hrp ≡ of.hrp = (only-from_IsText text of.hrp (characters_of_share s) of.is_text of.is_string.hrp _ grammar.split grammar.data_bytes).0 in
    let two : length of.is_string.hrp ≡ 2 = sym (length-map of.is_string.hrp to_ascii_lowercase) ∙ ap (λ (l : List ℕ). length l) (lowered_ms of.is_string.hrp of.is_string.is_ms) in
    let both : length text ≡ length of.hrp + length (49 ∷ characters_of_share s) = ap (λ (l : List ℕ). length l) of.is_text.split ∙ length-append of.hrp (49 ∷ characters_of_share s) in
    omega (arith, both, two, ap (λ (l : List ℕ). length l) part)

-- of shares, by the first
pub size-first_text : (text : List ℕ) (ts : List (List ℕ)) (ss : List Share) → AreSharesOf (text ∷ ts) ss → 3 + size_of ss ≡ length text
size-first_text text ts [] are = absurd are
size-first_text text ts (s ∷ ss) are = sym (length-text_of text s are.0)

-- of these parts, and of a text of n characters
pub record IsMember (t : Threshold) (i : Identifier) (n : ℕ) (s : Share) : Type 0 where
  pub threshold : threshold_of_share s ≡ t
  pub identifier : identifier_of_share s ≡ i
  pub size : 3 + length (characters_of_share s) ≡ n

pub member : (t : Threshold) (i : Identifier) (x : Fe32) (payload : List Fe32) (n : ℕ) (text : List ℕ) (s : Share) → IsMade t i x payload n text → IsShareOf text s → IsMember t i n s × (index_of_share s ≡ x)
member t i x payload n text s made of =
    let parts = same_parts text (threshold_of_share s) t (identifier_of_share s) i (index_of_share s) x (payload_of_share s) made.characters of.is_string made.string in
    (record { threshold = parts.0; identifier = parts.1; size = sym (length-text_of text s of) ∙ made.size }, parts.2)

pub members-set : (t : Threshold) (i : Identifier) (n : ℕ) (s : Share) (ss : List Share) → IsMember t i n s → AllByRecursion (IsMember t i n) ss → AllByRecursion (IsOfSet s) ss
members-set t i n s [] is all = tt
members-set t i n s (u ∷ us) is all = (
  record {
    threshold = all.0.threshold ∙ sym is.threshold;
    identifier = all.0.identifier ∙ sym is.identifier;
    size = omega (arith, all.0.size, is.size);
  },
  members-set t i n s us is all.1,
)

-- ---- the shares of texts

-- what is known of the strings that give the others: the secret's own, and the first m texts
pub record AreMade (t : Threshold) (i : Identifier) (n : ℕ) (own texts : List ℕ) (m : ℕ) : Type 0 where
  pub payload : List Fe32
  pub own_is : IsMade t i secret_index payload n own
  pub texts_are : (j : ℕ) → j < m → (p : List Fe32) × IsMade t i (split_index j) p n (text_at n texts j)
  pub few : m ≤ 31
  pub counted : suc m ≡ threshold_number t

module _ (t : Threshold) (i : Identifier) (n : ℕ) where
  -- the shares of the texts from one number on
  abbrev AreMadeFrom : ℕ → List ℕ → ℕ → Type 0
  AreMadeFrom from texts m = (j : ℕ) → j < m → (p : List Fe32) × IsMade t i (split_index (from + j)) p n (text_at n texts j)

  first_made : (from : ℕ) (texts : List ℕ) (m : ℕ) → AreMadeFrom from texts (suc m) → (p : List Fe32) × IsMade t i (split_index from) p n (take n texts)
  first_made from texts m made =
      let h = made 0 (omega arith) in
      let e : from + 0 ≡ from = omega arith in
      (h.0, subst (λ (k : ℕ). IsMade t i (split_index k) h.0 n (take n texts)) e (subst (λ (u : List ℕ). IsMade t i (split_index (from + 0)) h.0 n u) (text_first n texts) h.1))

  next_made : (from : ℕ) (texts : List ℕ) (m : ℕ) → AreMadeFrom from texts (suc m) → AreMadeFrom (suc from) (drop n texts) m
  next_made from texts m made = λ j less.
      let h = made (suc j) (omega (arith, less)) in
      let e : from + suc j ≡ suc from + j = omega arith in
      (h.0, subst (λ (k : ℕ). IsMade t i (split_index k) h.0 n (text_at n (drop n texts) j)) e (subst (λ (u : List ℕ). IsMade t i (split_index (from + suc j)) h.0 n u) (text_next n texts j) h.1))

  are_members : (from : ℕ) (texts : List ℕ) (m : ℕ) (ss : List Share) → AreMadeFrom from texts m → AreSharesOf (first_texts n texts m) ss → AllByRecursion (IsMember t i n) ss
  are_members from texts zero [] made are = tt
  are_members from texts zero (s ∷ ss) made are = absurd are
  are_members from texts (suc m) [] made are = absurd are
  are_members from texts (suc m) (s ∷ ss) made are =
      let h = first_made from texts m made in
      ((member t i (split_index from) h.0 n (take n texts) s h.1 are.0).0, are_members (suc from) (drop n texts) m ss (next_made from texts m made) are.1)

  their_indices : (from : ℕ) (texts : List ℕ) (m : ℕ) (ss : List Share) → AreMadeFrom from texts m → AreSharesOf (first_texts n texts m) ss → indices_of ss ≡ indices_from from m
  their_indices from texts zero [] made are = refl
  their_indices from texts zero (s ∷ ss) made are = absurd are
  their_indices from texts (suc m) [] made are = absurd are
  their_indices from texts (suc m) (s ∷ ss) made are =
      let h = first_made from texts m made in
      same_cons _ _ _ _ (member t i (split_index from) h.0 n (take n texts) s h.1 are.0).1 (their_indices (suc from) (drop n texts) m ss (next_made from texts m made) are.1)

pub length-shares : (ts : List (List ℕ)) (ss : List Share) → AreSharesOf ts ss → length ss ≡ length ts
length-shares [] [] are = refl
length-shares [] (s ∷ ss) are = absurd are
length-shares (u ∷ us) [] are = absurd are
length-shares (u ∷ us) (s ∷ ss) are = ap suc (length-shares us ss are.1)

-- one more
pub shares-more : (ts : List (List ℕ)) (ss : List Share) (t : List ℕ) (s : Share) → AreSharesOf ts ss → IsShareOf t s → AreSharesOf (ts ++ (t ∷ [])) (ss ++ (s ∷ []))
shares-more [] [] t s h is = (is, tt)
shares-more [] (r ∷ rs) t s h is = absurd h
shares-more (u ∷ us) [] t s h is = absurd h
shares-more (u ∷ us) (r ∷ rs) t s h is = (h.0, shares-more us rs t s h.1 is)

-- ---- the base

from_first : (t : Threshold) (i : Identifier) (n : ℕ) (own texts : List ℕ) (m : ℕ) → AreMade t i n own texts m → AreMadeFrom t i n 0 texts m
from_first t i n own texts m made = λ j less.
    let h = made.texts_are j less in
    let e : j ≡ 0 + j = omega arith in
    (h.0, subst (λ (k : ℕ). IsMade t i (split_index k) h.0 n (text_at n texts j)) e h.1)

module _ (t : Threshold) (i : Identifier) (n : ℕ) (own texts : List ℕ) (m : ℕ) (made : AreMade t i n own texts m) where
  pub base-members : (base : List Share) → AreSharesOf (own ∷ first_texts n texts m) base → AllByRecursion (IsMember t i n) base
  base-members [] are = absurd are
  base-members (s ∷ ss) are = ((member t i secret_index made.payload n own s made.own_is are.0).0, are_members t i n 0 texts m ss (from_first t i n own texts m made) are.1)

  pub base-indices : (base : List Share) → AreSharesOf (own ∷ first_texts n texts m) base → indices_of base ≡ secret_index ∷ indices_from 0 m
  base-indices [] are = absurd are
  base-indices (s ∷ ss) are =
      same_cons _ _ _ _ (member t i secret_index made.payload n own s made.own_is are.0).1 (their_indices t i n 0 texts m ss (from_first t i n own texts m made) are.1)

  once : (base : List Share) → AreSharesOf (own ∷ first_texts n texts m) base → IsOnce (indices_of base)
  once base are =
      let few : 0 + m ≤ 31 = let few = made.few in omega (arith, few) in
      subst (λ (xs : List Fe32). IsOnce xs) (sym (base-indices base are)) (secret-behind 0 m few, indices-once 0 m few)

  pub length-base : (base : List Share) → AreSharesOf (own ∷ first_texts n texts m) base → length base ≡ suc m
  length-base base are = length-shares (own ∷ first_texts n texts m) base are ∙ ap suc (length-first n texts m)

  -- as many as these give the others
  pub base-count : (base : List Share) → AreSharesOf (own ∷ first_texts n texts m) base → count_of base ≡ suc m
  base-count [] are = absurd are
  base-count (s ∷ ss) are =
      let threshold : points_of (threshold_of_share s) ≡ points_of t = ap points_of (base-members (s ∷ ss) are).0.threshold in
      let counted : suc m ≡ threshold_number t = made.counted in
      let most : points_of t ≡ threshold_number t = omega (arith, counted) in
      threshold ∙ most ∙ sym counted

  set : (base : List Share) → AreSharesOf (own ∷ first_texts n texts m) base → AreOfSet base
  set [] are = absurd are
  set (s ∷ ss) are = let all = base-members (s ∷ ss) are in members-set t i n s (s ∷ ss) all.0 all

  is_shared : (base : List Share) (x : Fe32) → AreSharesOf (own ∷ first_texts n texts m) base → IsUnshared base x → ⊥
  is_shared [] x are h = h
  is_shared (s ∷ ss) x are h =
      let same : threshold_number (threshold_of_share s) ≡ threshold_number t = ap threshold_number (base-members (s ∷ ss) are).0.threshold in
      let counted : suc m ≡ threshold_number t = made.counted in
      let zero_is : threshold_number (threshold_of_share s) ≡ 0 = h.0 in
      absurd (omega (arith, same, counted, zero_is))

  pub base-whole : (base : List Share) (x : Fe32) → AreSharesOf (own ∷ first_texts n texts m) base → IsWholeSet base x
  base-whole base x are = record {
    set = set base are;
    once = once base are;
    shared = is_shared base x are;
    enough = le-ltb (length base) (count_of base) (let a = length-base base are in let b = base-count base are in omega (arith, a, b));
  }

  -- as many shares as give the others do not contradict each other
  pub base-agree : (base : List Share) → AreSharesOf (own ∷ first_texts n texts m) base → DoContradict base → ⊥
  base-agree base are contradict =
      let shares = shares-from_set base secret_index (base-whole base secret_index are) in
      let text = derived_exists is_field (indices_of base) (rows_of base) (size_of base) secret_index shares in
      let k : length (indices_of base) ≡ count_of base = length-mapped (λ (s : Share). index_of_share s) base ∙ length-base base are ∙ sym (base-count base are) in
      contradict (λ j within.
      let h = text.1.elements j within in
      (h.polynomial, subst (λ (c : ℕ). length h.polynomial ≤ c) k h.through.short, h.through.values))

  -- what was made is what they give
  given_back : (base : List Share) (s : Share) (x : Fe32) (payload : List Fe32) (text : List ℕ) → AreSharesOf (own ∷ first_texts n texts m) base → IsAmong s base → IsShareOf text s → IsMade t i x payload n text
      → IsDerivedString base x text
  given_back base s x payload text are among of is =
      subst (λ (u : List ℕ). IsDerivedString base x u) is.low
      (subst (λ (y : Fe32). IsDerivedString base y (lowered text)) (member t i x payload n text s is of).1
      (own_text base x s text (base-whole base x are) (base-agree base are) among of))

  pub own-derived : (base : List Share) → AreSharesOf (own ∷ first_texts n texts m) base → IsDerivedString base secret_index own
  own-derived [] are = absurd are
  own-derived (s ∷ ss) are = given_back (s ∷ ss) s secret_index made.payload own are (inl refl) are.0 made.own_is

  -- the share of one of the first texts
  at_text : (us : List ℕ) (k : ℕ) (ss : List Share) (j : ℕ) → AreSharesOf (first_texts n us k) ss → j < k → (s : Share) × IsAmong s ss × IsShareOf (text_at n us j) s
  at_text us zero ss j are less = absurd (omega (arith, less))
  at_text us (suc k) [] j are less = absurd are
  at_text us (suc k) (s ∷ ss) zero are less = (s, inl refl, subst (λ (u : List ℕ). IsShareOf u s) (sym (text_first n us)) are.0)
  at_text us (suc k) (s ∷ ss) (suc j) are less =
      let h = at_text (drop n us) k ss j are.1 (omega (arith, less)) in
      (h.0, inr h.1, subst (λ (u : List ℕ). IsShareOf u h.0) (sym (text_next n us j)) h.2)

  pub text-derived : (base : List Share) (j : ℕ) → AreSharesOf (own ∷ first_texts n texts m) base → j < m → IsDerivedString base (split_index j) (text_at n texts j)
  text-derived [] j are less = absurd are
  text-derived (s ∷ ss) j are less =
      let h = at_text texts m ss j are.1 less in
      let is = made.texts_are j less in
      given_back (s ∷ ss) h.0 (split_index j) is.0 (text_at n texts j) are (inr h.1) h.2 is.1
