-- Shares of a split recover the secret.
use Rattle.std.specs.List.{AllByRecursion, list_all}
use Rattle.std.specs.Prelude.{nat_lt}
use Rattle.std.proofs.Common.{◌≡◌, ℕ, ◌<◌, ◌≤◌, true, List, [], ◌∷◌, length, ap, ◌∙◌, arith}
use Rattle.std.proofs.lemmas.Bool.{le-ltb}
use Rattle.bech32_bits.specs.Bits.{to_bytes, to_fes}
use Rattle.bech32_bits.proofs.RoundTrip.{to_bytes-to_fes}
use Rattle.bech32_gf.specs.Fe32.{elements_of, ops}
use Rattle.bech32_gf.specs.declared.gf32.Fe32.{Fe32}
use Rattle.bech32_poly.specs.Distinct.{IsOnce}
use Rattle.codex32.specs.Derive.{DoContradict, IsDerivedString, IsUnshared, IsWholeSet, count_of, indices_of, rows_of, size_of}
use Rattle.codex32.specs.HeaderParts.{points_of, secret_index, threshold_number}
use Rattle.codex32.specs.Sets.{IsGivenShare}
use Rattle.codex32.specs.Share.{AreSharesOf, IsShareOf, bytes_of_share, identifier_of_share, index_of_share, payload_of_share, threshold_of_share}
use Rattle.codex32.specs.Split.{IsOwnString, IsTakenFrom, Recovers, first_texts, split_index, text_at}
use Rattle.codex32.specs.declared.identifier.Identifier.{Identifier}
use Rattle.codex32.specs.declared.share.Share.{Share}
use Rattle.codex32.specs.declared.threshold.Threshold.{Threshold}
use Rattle.codex32.proofs.Derived.{agree-from_given}
use Rattle.codex32.proofs.MadeTexts.{IsMade}
use Rattle.codex32.proofs.OneString.{read, same, same_parts}
use Rattle.codex32.proofs.SplitBase.{AreMade, IsMember, base-agree, base-members, base-whole, members-set, own-derived}

-- the bytes of the secret's own string are the secret
pub own-bytes : (t : Threshold) (i : Identifier) (secret text : List ℕ) (n : ℕ) (s : Share) → list_all (λ b. nat_lt b 256) secret ≡ true → IsMade t i secret_index (to_fes secret) n text → IsShareOf text s
    → bytes_of_share s ≡ secret
own-bytes t i secret text n s bytes made of =
    let parts = same_parts text (threshold_of_share s) t (identifier_of_share s) i (index_of_share s) secret_index (payload_of_share s) made.characters of.is_string made.string in
    ap (λ (u : List ℕ). to_bytes (elements_of u)) parts.3 ∙ ap to_bytes made.elements ∙ to_bytes-to_fes secret bytes

-- ---- shares that a set gives

-- they are of its set
given_members : (t : Threshold) (i : Identifier) (n : ℕ) (s : Share) (ss others : List Share) → IsMember t i n s → AllByRecursion (IsGivenShare (s ∷ ss)) others → AllByRecursion (IsMember t i n) others
given_members t i n s ss [] is all = tt
given_members t i n s ss (o ∷ os) is all = (
  record {
    threshold = all.0.0.threshold ∙ is.threshold;
    identifier = all.0.0.identifier ∙ is.identifier;
    size = let a = all.0.0.size in let b = is.size in omega (arith, a, b);
  },
  given_members t i n s ss os is all.1,
)

-- as many as the threshold are a whole set
pub members-whole : (t : Threshold) (i : Identifier) (n : ℕ) (others : List Share) (x : Fe32) → 1 ≤ threshold_number t → AllByRecursion (IsMember t i n) others → IsOnce (indices_of others) → threshold_number t ≤ length others
    → IsWholeSet others x
members-whole t i n [] x shared all once enough = absurd (omega (arith, shared, enough))
members-whole t i n (o ∷ os) x shared all once enough =
    let number : threshold_number (threshold_of_share o) ≡ threshold_number t = ap threshold_number all.0.threshold in
    let points : points_of (threshold_of_share o) ≡ threshold_number t = omega (arith, number, shared) in
    let zero_not : IsUnshared (o ∷ os) x → ⊥ = λ h. let zero_is : threshold_number (threshold_of_share o) ≡ 0 = h.0 in absurd (omega (arith, zero_is, number, shared)) in
    record {
      set = members-set t i n o (o ∷ os) all.0 all;
      once = once;
      shared = zero_not;
      enough = le-ltb (length (o ∷ os)) (points_of (threshold_of_share o)) (omega (arith, points, enough));
    }

-- ---- the shares of a split

module _ (t : Threshold) (i : Identifier) (n : ℕ) (own texts : List ℕ) (m count : ℕ) (made : AreMade t i n own texts m) (base : List Share) where
  -- each that is taken is given
  taken_given : (derived : (j : ℕ) → j < count → IsDerivedString base (split_index j) (text_at n texts j)) (whole : (x : Fe32) → IsWholeSet base x) (others : List Share) → IsTakenFrom n texts count others → AllByRecursion (IsGivenShare base) others
  taken_given derived whole [] taken = tt
  taken_given derived whole (o ∷ os) taken =
      let j : ℕ = taken.0.0 in
      ((read base (split_index j) (text_at n texts j) o (whole (split_index j)) (derived j taken.0.1) taken.0.2).1, taken_given derived whole os taken.1)

given_by : (t : Threshold) (i : Identifier) (n : ℕ) (base others : List Share) → AllByRecursion (IsMember t i n) base → AllByRecursion (IsGivenShare base) others → AllByRecursion (IsMember t i n) others
given_by t i n [] [] members all = tt
given_by t i n [] (o ∷ os) members all = absurd all.0
given_by t i n (s ∷ ss) others members all = given_members t i n s ss others members.0 all

pub recovers : (t : Threshold) (i : Identifier) (secret : List ℕ) (count n : ℕ) (own texts : List ℕ) (m : ℕ) (base : List Share) → list_all (λ b. nat_lt b 256) secret ≡ true
    → IsOwnString t i secret own → IsMade t i secret_index (to_fes secret) n own → AreMade t i n own texts m → AreSharesOf (own ∷ first_texts n texts m) base
    → ((j : ℕ) → j < count → IsDerivedString base (split_index j) (text_at n texts j)) → Recovers t i secret count n texts
recovers t i secret count n own texts m base bytes is_own own_made made are derived = λ others taken once enough.
    let whole : (x : Fe32) → IsWholeSet base x = λ x. base-whole t i n own texts m made base x are in
    let agree : DoContradict base → ⊥ = base-agree t i n own texts m made base are in
    let given : AllByRecursion (IsGivenShare base) others = taken_given t i n own texts m count made base derived whole others taken in
    let members : AllByRecursion (IsMember t i n) others = given_by t i n base others (base-members t i n own texts m made base are) given in
    let shared : 1 ≤ threshold_number t = let counted = made.counted in omega (arith, counted) in
    let others_whole : IsWholeSet others secret_index = members-whole t i n others secret_index shared members once enough in
    let from_base : IsDerivedString base secret_index own = own-derived t i n own texts m made base are in
    let from_others : IsDerivedString others secret_index own = (same base others secret_index own (whole secret_index) agree others_whole given).1 from_base in
    record {
      whole = others_whole;
      agree = λ contradict. contradict (agree-from_given ops (count_of others) (indices_of others) (rows_of others) (size_of others) secret_index from_others.elements from_others.given);
      own = own;
      is_own = is_own;
      is_derived = from_others;
      is_read = λ s of. own-bytes t i secret own n s bytes own_made of;
    }
