-- For each secret there is one way to deal that gives the known texts.
use Rattle.std.proofs.Common.{◌≡◌, ℕ, suc, ◌+◌, ◌<◌, ◌≤◌, List, [], ◌∷◌, length, sym, ap, subst, ◌∙◌, refl, arith}
use Rattle.std.specs.List.{AllByRecursion}
use Rattle.bech32_gf.specs.Field.{Ops, IsField}
use Rattle.bech32_poly.specs.Distinct.{IsOnce}
use Rattle.bech32_poly.specs.Polynomial.{coefficient}
use Rattle.bech32_poly.proofs.Lists.{same_cons}
use Rattle.bech32_encode.specs.ExactlyOne.{ExactlyOne}
use Rattle.codex32_steady.specs.shares.Shares.{AreShares, IsDerived, AreDerived, IsShareText, AreShareTexts}
use Rattle.codex32_steady.proofs.ShareTexts.{derived_exists, derived_unique, recovered, shares_are_derived, same_list}
use Rattle.codex32_steady.proofs.Strings.{Ends, derived_string, payload_at, shares_of, size_of}

same_pair : {A B : Type 0} (a b : A × B) → a.0 ≡ b.0 → a.1 ≡ b.1 → a ≡ b
same_pair (x, y) (z, w) e f = cc

module _ {F : Type 0} {o : Ops F} (l : IsField o) where
  -- the texts at these indices
  all_exist : (xs : List F) (texts : List (List F)) (n : ℕ) (zs : List F) → AreShares xs texts n → (us : List (List F)) × AreDerived o xs texts n zs us
  all_exist xs texts n [] shares = ([], tt)
  all_exist xs texts n (z ∷ zs) shares =
      let u : (u : List F) × IsDerived o xs texts n z u = derived_exists l xs texts n z shares in
      let us : (us : List (List F)) × AreDerived o xs texts n zs us = all_exist xs texts n zs shares in
      (u.0 ∷ us.0, (u.1, us.1))

  all_unique : (xs : List F) (texts : List (List F)) (n : ℕ) (zs : List F) (us vs : List (List F)) → AreShares xs texts n → AreDerived o xs texts n zs us → AreDerived o xs texts n zs vs → us ≡ vs
  all_unique xs texts n [] [] [] shares a b = refl
  all_unique xs texts n [] [] (v ∷ vs) shares a b = absurd b
  all_unique xs texts n [] (u ∷ us) vs shares a b = absurd a
  all_unique xs texts n (z ∷ zs) [] vs shares a b = absurd a
  all_unique xs texts n (z ∷ zs) (u ∷ us) [] shares a b = absurd b
  all_unique xs texts n (z ∷ zs) (u ∷ us) (v ∷ vs) shares a b = same_cons _ _ _ _ (derived_unique l xs texts n z u v shares a.0 b.0) (all_unique xs texts n zs us vs shares a.1 b.1)

  all_sized : (xs : List F) (texts : List (List F)) (n : ℕ) (zs : List F) (us : List (List F)) → AreDerived o xs texts n zs us → (length us ≡ length zs) × AllByRecursion (λ u. length u ≡ n) us
  all_sized xs texts n [] [] a = (refl, tt)
  all_sized xs texts n [] (u ∷ us) a = absurd a
  all_sized xs texts n (z ∷ zs) [] a = absurd a
  all_sized xs texts n (z ∷ zs) (u ∷ us) a =
      let rest : (length us ≡ length zs) × AllByRecursion (λ u. length u ≡ n) us = all_sized xs texts n zs us a.1 in
      (ap suc rest.0, (a.0.size, rest.1))

  all_recovered : (xs : List F) (texts : List (List F)) (n : ℕ) (zs : List F) (us : List (List F)) (js : List F) (vs : List (List F)) → AreShares xs texts n → length zs ≡ length xs → AreDerived o xs texts n zs us
      → AreDerived o xs texts n js vs → AreDerived o zs us n js vs
  all_recovered xs texts n zs us [] [] shares e derived have = tt
  all_recovered xs texts n zs us [] (v ∷ vs) shares e derived have = absurd have
  all_recovered xs texts n zs us (j ∷ js) [] shares e derived have = absurd have
  all_recovered xs texts n zs us (j ∷ js) (v ∷ vs) shares e derived have =
      (recovered l xs texts n zs us j v shares e derived have.0, all_recovered xs texts n zs us js vs shares e derived have.1)

  module _ (n : ℕ) (s : F) (u : List F) (ds bs : List F) (v : List (List F)) (same : length ds ≡ length bs) (known : AreShares (s ∷ bs) (u ∷ v) n) where
    -- what the secret and the known texts give at the dealer's indices gives the known ones
    dealt_gives : (a : List (List F)) → AreDerived o (s ∷ bs) (u ∷ v) n ds a → AreDerived o (s ∷ ds) (u ∷ a) n bs v
    dealt_gives a derived =
        let own : AreDerived o (s ∷ bs) (u ∷ v) n (s ∷ bs) (u ∷ v) = shares_are_derived l (s ∷ bs) (u ∷ v) n known in
        all_recovered (s ∷ bs) (u ∷ v) n (s ∷ ds) (u ∷ a) bs v known (ap suc same) (own.0, derived) own.1

    -- and what gives the known ones is given by them
    dealt_given : (a : List (List F)) → AreShares (s ∷ ds) (u ∷ a) n → AreDerived o (s ∷ ds) (u ∷ a) n bs v → AreDerived o (s ∷ bs) (u ∷ v) n ds a
    dealt_given a shares derived =
        let own : AreDerived o (s ∷ ds) (u ∷ a) n (s ∷ ds) (u ∷ a) = shares_are_derived l (s ∷ ds) (u ∷ a) n shares in
        all_recovered (s ∷ ds) (u ∷ a) n (s ∷ bs) (u ∷ v) ds a shares (ap suc (sym same)) (own.0, derived) own.1

  pub one_dealing : (n : ℕ) (s : F) (u : List F) (ds bs : List F) (v : List (List F)) → IsOnce (s ∷ ds) → IsOnce (s ∷ bs) → length ds ≡ length bs → AreShares bs v n → length u ≡ n
      → ExactlyOne (λ a. AreShares ds a n × AreDerived o (s ∷ ds) (u ∷ a) n bs v)
  one_dealing n s u ds bs v once apart same shares size =
      let known : AreShares (s ∷ bs) (u ∷ v) n = record { once = apart; one_each = ap suc shares.one_each; alike = (size, shares.alike) } in
      let a : (a : List (List F)) × AreDerived o (s ∷ bs) (u ∷ v) n ds a = all_exist (s ∷ bs) (u ∷ v) n ds known in
      let sizes : (length a.0 ≡ length ds) × AllByRecursion (λ t. length t ≡ n) a.0 = all_sized (s ∷ bs) (u ∷ v) n ds a.0 a.1 in (
        a.0,
        (record { once = once.1; one_each = sizes.0; alike = sizes.1 }, dealt_gives n s u ds bs v same known a.0 a.1),
        λ b h. all_unique (s ∷ bs) (u ∷ v) n ds b a.0 known
            (dealt_given n s u ds bs v same known b (record { once = once; one_each = ap suc h.0.one_each; alike = (size, h.0.alike) }) h.1) a.1,
      )

  -- ---- of strings

  module _ (before low target header : List F) (n : ℕ) where
    -- a string has one payload
    one_payload : (x : F) (p q t : List F) → IsShareText (Ends o before low target) header n x p t → IsShareText (Ends o before low target) header n x q t → p ≡ q
    one_payload x p q t a b =
        same_list l p q n a.size b.size (λ i within.
        sym (payload_at l header p a.ends.checksum x i (subst (λ m. i < m) (sym a.size) within))
        ∙ ap (λ u. coefficient o u (length header + suc i)) (sym a.ends.given_is ∙ b.ends.given_is)
        ∙ payload_at l header q b.ends.checksum x i (subst (λ m. i < m) (sym b.size) within))

    one_payload_each : (xs : List F) (ps qs texts : List (List F)) → AreShareTexts (Ends o before low target) header n xs ps texts → AreShareTexts (Ends o before low target) header n xs qs texts → ps ≡ qs
    one_payload_each [] [] [] texts a b = refl
    one_payload_each [] [] (q ∷ qs) texts a b = absurd b
    one_payload_each [] (p ∷ ps) qs texts a b = absurd a
    one_payload_each (x ∷ xs) [] qs texts a b = absurd a
    one_payload_each (x ∷ xs) (p ∷ ps) [] texts a b = absurd b
    one_payload_each (x ∷ xs) (p ∷ ps) (q ∷ qs) [] a b = absurd a
    one_payload_each (x ∷ xs) (p ∷ ps) (q ∷ qs) (t ∷ texts) a b = same_cons _ _ _ _ (one_payload x p q t a.0 b.0) (one_payload_each xs ps qs texts a.1 b.1)

    -- the strings at these indices
    strings_exist : (xs : List F) (ps texts : List (List F)) (zs : List F) → IsOnce xs → 2 ≤ length xs → AreShareTexts (Ends o before low target) header n xs ps texts
        → (us : List (List F) × List (List F)) × AreShareTexts (Ends o before low target) header n zs us.0 us.1 × AreDerived o xs texts (size_of l before low target header n) zs us.1
    strings_exist xs ps texts [] once two are = (([], []), tt, tt)
    strings_exist xs ps texts (z ∷ zs) once two are =
        let t = derived_exists l xs texts (size_of l before low target header n) z (shares_of l before low target header n xs ps texts once are) in
        let v = derived_string l before low target header n xs ps texts z t.0 once two are t.1 in
        let rest = strings_exist xs ps texts zs once two are in
        ((v.0 ∷ rest.0.0, t.0 ∷ rest.0.1), (v.1, rest.1), (t.1, rest.2))

    pub one_dealing_of_strings : (s : F) (q u : List F) (ds bs : List F) (ps v : List (List F)) → IsOnce (s ∷ ds) → IsOnce (s ∷ bs) → length ds ≡ length bs → 1 ≤ length bs
        → IsShareText (Ends o before low target) header n s q u → AreShareTexts (Ends o before low target) header n bs ps v
        → ExactlyOne (λ (a : List (List F) × List (List F)). AreShareTexts (Ends o before low target) header n ds a.0 a.1 × AreDerived o (s ∷ ds) (u ∷ a.1) (size_of l before low target header n) bs v)
    one_dealing_of_strings s q u ds bs ps v once apart same some is are =
        let m : ℕ = size_of l before low target header n in
        let known : AreShares (s ∷ bs) (u ∷ v) m = shares_of l before low target header n (s ∷ bs) (q ∷ ps) (u ∷ v) apart (is, are) in
        let a = strings_exist (s ∷ bs) (q ∷ ps) (u ∷ v) ds apart (omega arith) (is, are) in (
          a.0,
          (a.1, dealt_gives m s u ds bs v same known a.0.1 a.2),
          λ b h.
              let texts : b.1 ≡ a.0.1 = all_unique (s ∷ bs) (u ∷ v) m ds b.1 a.0.1 known
              (dealt_given m s u ds bs v same known b.1 (shares_of l before low target header n (s ∷ ds) (q ∷ b.0) (u ∷ b.1) once (is, h.0)) h.1) a.2 in
              same_pair b a.0 (one_payload_each ds b.0 a.0.0 b.1 h.0 (subst (λ t. AreShareTexts (Ends o before low target) header n ds a.0.0 t) (sym texts) a.1)) texts,
        )
