-- Texts that have a header, an index, a payload and a checksum: the payload decides.
use Rattle.std.proofs.Common.{◌≡◌, ℕ, zero, suc, ◌+◌, ◌-◌, ◌<◌, ◌≤◌, List, [], ◌∷◌, ◌++◌, length, sym, ap, subst, ◌∙◌, refl, arith}
use Rattle.std.specs.List.{AllByRecursion}
use Rattle.std.proofs.Math.Decide.{dec_lt}
use Rattle.bech32_gf.specs.Field.{Ops, IsField}
use Rattle.bech32_poly.specs.Distinct.{IsOnce}
use Rattle.bech32_poly.specs.Polynomial.{coefficient, appended}
use Rattle.bech32_poly.specs.Remainder.{IsRemainder}
use Rattle.bech32_poly.proofs.Lists.{same_cons}
use Rattle.codex32_steady.specs.shares.Points.{IsValueThrough}
use Rattle.codex32_steady.specs.shares.Shares.{column, AreShares, IsDerived, IsShareText, AreShareTexts}
use Rattle.codex32_steady.proofs.Through.{value_unique}
use Rattle.codex32_steady.proofs.ShareTexts.{derived_exists, derived_unique, common_kept, index_moved, swapped_texts}
use Rattle.codex32_steady.proofs.Checksums.{same_remainder}

-- behind elements stands a row of this many that gives the target
pub record Ends {F : Type 0} (o : Ops F) (before low target : List F) (elements given : List F) : Type 0 where
  pub checksum : List F
  pub size : length checksum ≡ length low
  pub remains : IsRemainder o low (appended (o.one ∷ []) (before ++ (elements ++ checksum))) target
  pub given_is : given ≡ elements ++ checksum

module _ {F : Type 0} {o : Ops F} (l : IsField o) where
  in_front : (p q : List F) (i : ℕ) → i < length p → coefficient o (p ++ q) i ≡ coefficient o p i
  in_front [] q i h = absurd (omega arith)
  in_front (a ∷ p) q zero h = refl
  in_front (a ∷ p) q (suc i) h = in_front p q i (omega arith)

  behind : (p q : List F) (i : ℕ) → coefficient o (p ++ q) (length p + i) ≡ coefficient o q i
  behind [] q i = let e : 0 + i ≡ i = omega arith in ap (coefficient o q) e
  behind (a ∷ p) q i = let e : suc (length p) + i ≡ suc (length p + i) = omega arith in ap (coefficient o ((a ∷ p) ++ q)) e ∙ behind p q i

  length-append : (p q : List F) → length (p ++ q) ≡ length p + length q
  length-append [] q = omega arith
  length-append (a ∷ p) q = let e : length (p ++ q) ≡ length p + length q = length-append p q in omega arith

  -- a list that begins with the elements of another
  front_same : (e d : List F) → length e ≤ length d → ((i : ℕ) → i < length e → coefficient o d i ≡ coefficient o e i) → (c : List F) × (d ≡ e ++ c)
  front_same [] d h same = (d, refl)
  front_same (a ∷ e) [] h same = absurd (omega arith)
  front_same (a ∷ e) (b ∷ d) h same =
      let rest : (c : List F) × (d ≡ e ++ c) = front_same e d (omega arith) (λ i within. same (suc i) (omega arith)) in
      (rest.0, same_cons _ _ _ _ (same 0 (omega arith)) rest.1)

  header_at : (header p c : List F) (x : F) (i : ℕ) → i < length header → coefficient o ((header ++ (x ∷ p)) ++ c) i ≡ coefficient o header i
  header_at header p c x i h = let e : length (header ++ (x ∷ p)) ≡ length header + suc (length p) = length-append header (x ∷ p) in in_front (header ++ (x ∷ p)) c i (omega arith) ∙ in_front header (x ∷ p) i h

  index_at : (header p c : List F) (x : F) → coefficient o ((header ++ (x ∷ p)) ++ c) (length header) ≡ x
  index_at header p c x =
      let e : length (header ++ (x ∷ p)) ≡ length header + suc (length p) = length-append header (x ∷ p) in
      let n : length header ≡ length header + 0 = omega arith in
      in_front (header ++ (x ∷ p)) c (length header) (omega arith) ∙ ap (coefficient o (header ++ (x ∷ p))) n ∙ behind header (x ∷ p) 0

  pub payload_at : (header p c : List F) (x : F) (k : ℕ) → k < length p → coefficient o ((header ++ (x ∷ p)) ++ c) (length header + suc k) ≡ coefficient o p k
  payload_at header p c x k h =
      let e : length (header ++ (x ∷ p)) ≡ length header + suc (length p) = length-append header (x ∷ p) in
      in_front (header ++ (x ∷ p)) c (length header + suc k) (omega arith) ∙ behind header (x ∷ p) (suc k)

  module _ (before low target header : List F) (n : ℕ) where
    have_header : (xs : List F) (ps texts : List (List F)) (i : ℕ) → i < length header → AreShareTexts (Ends o before low target) header n xs ps texts → AllByRecursion (λ t. coefficient o t i ≡ coefficient o header i) texts
    have_header [] [] [] i h are = tt
    have_header [] [] (t ∷ texts) i h are = absurd are
    have_header [] (p ∷ ps) texts i h are = absurd are
    have_header (x ∷ xs) [] texts i h are = absurd are
    have_header (x ∷ xs) (p ∷ ps) [] i h are = absurd are
    have_header (x ∷ xs) (p ∷ ps) (t ∷ texts) i h are =
        (ap (λ u. coefficient o u i) are.0.ends.given_is ∙ header_at header p are.0.ends.checksum x i h, have_header xs ps texts i h are.1)

    have_index : (xs : List F) (ps texts : List (List F)) → AreShareTexts (Ends o before low target) header n xs ps texts → column o texts (length header) ≡ xs
    have_index [] [] [] are = refl
    have_index [] [] (t ∷ texts) are = absurd are
    have_index [] (p ∷ ps) texts are = absurd are
    have_index (x ∷ xs) [] texts are = absurd are
    have_index (x ∷ xs) (p ∷ ps) [] are = absurd are
    have_index (x ∷ xs) (p ∷ ps) (t ∷ texts) are =
        same_cons _ _ _ _ (ap (λ u. coefficient o u (length header)) are.0.ends.given_is ∙ index_at header p are.0.ends.checksum x) (have_index xs ps texts are.1)

    have_payload : (xs : List F) (ps texts : List (List F)) (k : ℕ) → k < n → AreShareTexts (Ends o before low target) header n xs ps texts → column o texts (length header + suc k) ≡ column o ps k
    have_payload [] [] [] k h are = refl
    have_payload [] [] (t ∷ texts) k h are = absurd are
    have_payload [] (p ∷ ps) texts k h are = absurd are
    have_payload (x ∷ xs) [] texts k h are = absurd are
    have_payload (x ∷ xs) (p ∷ ps) [] k h are = absurd are
    have_payload (x ∷ xs) (p ∷ ps) (t ∷ texts) k h are =
        same_cons _ _ _ _ (ap (λ u. coefficient o u (length header + suc k)) are.0.ends.given_is ∙ payload_at header p are.0.ends.checksum x k (subst (λ m. k < m) (sym are.0.size) h)) (have_payload xs ps texts k h are.1)

    all_accepted : (xs : List F) (ps texts : List (List F)) → AreShareTexts (Ends o before low target) header n xs ps texts → AllByRecursion (λ t. IsRemainder o low (appended (o.one ∷ []) (before ++ t)) target) texts
    all_accepted [] [] [] are = tt
    all_accepted [] [] (t ∷ texts) are = absurd are
    all_accepted [] (p ∷ ps) texts are = absurd are
    all_accepted (x ∷ xs) [] texts are = absurd are
    all_accepted (x ∷ xs) (p ∷ ps) [] are = absurd are
    all_accepted (x ∷ xs) (p ∷ ps) (t ∷ texts) are =
        (subst (λ u. IsRemainder o low (appended (o.one ∷ []) (before ++ u)) target) (sym are.0.ends.given_is) are.0.ends.remains, all_accepted xs ps texts are.1)

    -- how long such a text is
    abbrev pub size_of : ℕ
    size_of = (length header + suc n) + length low

    pub text_size : (x : F) (p t : List F) → IsShareText (Ends o before low target) header n x p t → length t ≡ size_of
    text_size x p t is =
        ap (λ u. length u) is.ends.given_is ∙ length-append (header ++ (x ∷ p)) is.ends.checksum
        ∙ ap (λ k. k + length is.ends.checksum) (length-append header (x ∷ p) ∙ ap (λ k. length header + suc k) is.size)
        ∙ ap (λ k. (length header + suc n) + k) is.ends.size

    all_as_long : (xs : List F) (ps texts : List (List F)) → AreShareTexts (Ends o before low target) header n xs ps texts
        → (length texts ≡ length xs) × AllByRecursion (λ t. length t ≡ size_of) texts × (length ps ≡ length xs) × AllByRecursion (λ p. length p ≡ n) ps
    all_as_long [] [] [] are = (refl, tt, refl, tt)
    all_as_long [] [] (t ∷ texts) are = absurd are
    all_as_long [] (p ∷ ps) texts are = absurd are
    all_as_long (x ∷ xs) [] texts are = absurd are
    all_as_long (x ∷ xs) (p ∷ ps) [] are = absurd are
    all_as_long (x ∷ xs) (p ∷ ps) (t ∷ texts) are =
        let rest : (length texts ≡ length xs) × AllByRecursion (λ t. length t ≡ size_of) texts × (length ps ≡ length xs) × AllByRecursion (λ p. length p ≡ n) ps = all_as_long xs ps texts are.1 in
        (ap suc rest.0, (text_size x p t are.0, rest.1), ap suc rest.2, (are.0.size, rest.3))

    pub shares_of : (xs : List F) (ps texts : List (List F)) → IsOnce xs → AreShareTexts (Ends o before low target) header n xs ps texts → AreShares xs texts size_of
    shares_of xs ps texts once are = let h = all_as_long xs ps texts are in record { once = once; one_each = h.0; alike = h.1 }

    payloads_of : (xs : List F) (ps texts : List (List F)) → IsOnce xs → AreShareTexts (Ends o before low target) header n xs ps texts → AreShares xs ps n
    payloads_of xs ps texts once are = let h = all_as_long xs ps texts are in record { once = once; one_each = h.2; alike = h.3 }

    -- what the texts give, the payloads give
    payload_derived : (xs : List F) (ps texts : List (List F)) (x : F) (v t : List F) → AreShareTexts (Ends o before low target) header n xs ps texts
        → IsShareText (Ends o before low target) header n x v t → IsDerived o xs texts size_of x t → IsDerived o xs ps n x v
    payload_derived xs ps texts x v t are is derived = record {
      size = is.size;
      elements = λ k within.
          let h : IsValueThrough o xs (column o texts (length header + suc k)) x (coefficient o t (length header + suc k)) = derived.elements (length header + suc k) (omega arith) in
          subst (λ y. IsValueThrough o xs (column o ps k) x y) (ap (λ u. coefficient o u (length header + suc k)) is.ends.given_is ∙ payload_at header v is.ends.checksum x k (subst (λ m. k < m) (sym is.size) within))
          (subst (λ ys. IsValueThrough o xs ys x (coefficient o t (length header + suc k))) (have_payload xs ps texts k within are) h);
    }

    -- a text that such texts give is one
    pub derived_string : (xs : List F) (ps texts : List (List F)) (x : F) (d : List F) → IsOnce xs → 2 ≤ length xs → AreShareTexts (Ends o before low target) header n xs ps texts
        → IsDerived o xs texts size_of x d → (v : List F) × IsShareText (Ends o before low target) header n x v d × IsDerived o xs ps n x v
    derived_string xs ps texts x d once two are have =
        let found : (v : List F) × IsDerived o xs ps n x v = derived_exists l xs ps n x (payloads_of xs ps texts once are) in
        let v : List F = found.0 in
        let e : List F = header ++ (x ∷ v) in
        let shares : AreShares xs texts size_of = shares_of xs ps texts once are in
        let one : 1 ≤ length xs = omega arith in
        let long : length e ≡ length header + suc n = length-append header (x ∷ v) ∙ ap (λ k. length header + suc k) found.1.size in
        let front : (c : List F) × (d ≡ e ++ c) = front_same e d (omega (arith, long, have.size)) (places v found.1 shares one long) in
        let accepted : IsRemainder o low (appended (o.one ∷ []) (before ++ d)) target = same_remainder l xs texts size_of x d low before target shares one have (all_accepted xs ps texts are) in (
          v,
          record {
            size = found.1.size;
            ends = record {
              checksum = front.0;
              size = omega (arith, long, have.size, ap (λ u. length u) front.1 ∙ length-append e front.0);
              remains = subst (λ u. IsRemainder o low (appended (o.one ∷ []) (before ++ u)) target) front.1 accepted;
              given_is = front.1;
            };
          },
          found.1,
        )
      where
        places : (v : List F) → IsDerived o xs ps n x v → AreShares xs texts size_of → 1 ≤ length xs → length (header ++ (x ∷ v)) ≡ length header + suc n
            → (i : ℕ) → i < length (header ++ (x ∷ v)) → coefficient o d i ≡ coefficient o (header ++ (x ∷ v)) i
        places v derived shares one long i within = elim (dec_lt i (length header)) [
          | yes early ↦ common_kept l xs texts size_of x d i (coefficient o header i) shares one have (omega arith) (have_header xs ps texts i early are) ∙ sym (in_front header (x ∷ v) i early)
          | no late ↦ elim (dec_lt (length header) i) [
            | yes later ↦ payload i (i - suc (length header)) (omega arith) (omega (arith, long))
            | no here ↦ index i (omega arith)
          ]
        ]
          where
            index : (i : ℕ) → i ≡ length header → coefficient o d i ≡ coefficient o (header ++ (x ∷ v)) i
            index i e =
                let m : length header + 0 ≡ i = omega (arith, e) in
                ap (coefficient o d) e ∙ index_moved l xs texts size_of x d (length header) shares two have (omega arith) (have_index xs ps texts are)
                ∙ sym (behind header (x ∷ v) 0) ∙ ap (coefficient o (header ++ (x ∷ v))) m

            payload : (i k : ℕ) → i ≡ length header + suc k → k < n → coefficient o d i ≡ coefficient o (header ++ (x ∷ v)) i
            payload i k e below =
                ap (coefficient o d) e
                ∙ value_unique l xs (column o ps k) x _ _ once
                (subst (λ ys. IsValueThrough o xs ys x (coefficient o d (length header + suc k))) (have_payload xs ps texts k below are) (have.elements (length header + suc k) (omega arith)))
                (derived.elements k below)
                ∙ sym (behind header (x ∷ v) (suc k)) ∙ ap (coefficient o (header ++ (x ∷ v))) (sym e)

    -- all lengths are the same
    pub one_size : (xs : List F) (ps texts : List (List F)) (m : ℕ) → 1 ≤ length xs → AreShares xs texts m → AreShareTexts (Ends o before low target) header n xs ps texts → m ≡ size_of
    one_size [] ps texts m some shares are = absurd (omega arith)
    one_size (x ∷ xs) [] texts m some shares are = absurd are
    one_size (x ∷ xs) (p ∷ ps) [] m some shares are = absurd are
    one_size (x ∷ xs) (p ∷ ps) (t ∷ texts) m some shares are = sym shares.alike.0 ∙ text_size x p t are.0

    -- for each text at j there is one at s with which the others go together
    pub one_secret_string : (xs : List F) (ps texts : List (List F)) (s j : F) (v t : List F) → 1 ≤ length xs → IsOnce (s ∷ j ∷ xs) → AreShareTexts (Ends o before low target) header n xs ps texts
        → IsShareText (Ends o before low target) header n j v t
        → (u a : List F) × IsShareText (Ends o before low target) header n s u a × IsDerived o (s ∷ xs) (a ∷ texts) size_of j t
        × ((w b : List F) → IsShareText (Ends o before low target) header n s w b → IsDerived o (s ∷ xs) (b ∷ texts) size_of j t → (w ≡ u) × (b ≡ a))
    one_secret_string xs ps texts s j v t some once are is =
        let with_j : AreShares (j ∷ xs) (t ∷ texts) size_of = shares_of (j ∷ xs) (v ∷ ps) (t ∷ texts) once.1 (is, are) in
        let below_j : AreShares (j ∷ xs) (v ∷ ps) n = payloads_of (j ∷ xs) (v ∷ ps) (t ∷ texts) once.1 (is, are) in
        let a : (a : List F) × IsDerived o (j ∷ xs) (t ∷ texts) size_of s a = derived_exists l (j ∷ xs) (t ∷ texts) size_of s with_j in
        let u : (u : List F) × IsShareText (Ends o before low target) header n s u a.0 × IsDerived o (j ∷ xs) (v ∷ ps) n s u =
        derived_string (j ∷ xs) (v ∷ ps) (t ∷ texts) s a.0 once.1 (omega arith) (is, are) a.1 in (
          u.0,
          a.0,
          u.1,
          swapped_texts l xs texts size_of j s t a.0 (text_size j v t is) a.1,
          λ w b of derived. (
            derived_unique l (j ∷ xs) (v ∷ ps) n s w u.0 below_j
                (swapped_texts l xs ps n s j w v of.size (payload_derived (s ∷ xs) (w ∷ ps) (b ∷ texts) j v t (of, are) is derived)) u.2,
            derived_unique l (j ∷ xs) (t ∷ texts) size_of s b a.0 with_j (swapped_texts l xs texts size_of s j b t (text_size s w b of) derived) a.1,
          ),
        )
