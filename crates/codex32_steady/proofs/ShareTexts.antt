-- Shares, as sums of multiples.
use Rattle.std.proofs.Common.{◌≡◌, ℕ, zero, suc, ◌<◌, ◌≤◌, List, [], ◌∷◌, length, sym, ap, subst, ◌∙◌, refl, arith}
use Rattle.std.specs.List.{AllByRecursion}
use Rattle.bech32_gf.specs.Field.{Ops, IsField}
use Rattle.bech32_gf.specs.laws.Ring.{ring}
use Rattle.bech32_poly.specs.Distinct.{IsOnce}
use Rattle.bech32_poly.specs.Polynomial.{coefficient, scale}
use Rattle.bech32_poly.proofs.Lists.{same_cons, length-scale, length-add, length-zeros, coefficient-zeros, coefficient-add, coefficient-scale}
use Rattle.codex32_steady.specs.shares.Points.{values_at, weighted_sum, AreWeights, IsThrough, IsValueThrough}
use Rattle.codex32_steady.specs.shares.Shares.{column, combined, AreShares, IsDerived, AreDerived}
use Rattle.codex32_steady.proofs.OnePlaceMore.{weights_exist}
use Rattle.codex32_steady.proofs.Through.{through_exists, through_unique, value_unique, weighted_is}
use Rattle.codex32_steady.proofs.Written.{length-mapped}

first_same : {A : Type 0} (a b : A) (p q : List A) → a ∷ p ≡ b ∷ q → a ≡ b
first_same a b p q e = cc

rest_same : {A : Type 0} (a b : A) (p q : List A) → a ∷ p ≡ b ∷ q → p ≡ q
rest_same a b p q e = cc

module _ {F : Type 0} {o : Ops F} (l : IsField o) where
  -- lists with the same elements
  pub same_list : (xs ys : List F) (n : ℕ) → length xs ≡ n → length ys ≡ n → ((i : ℕ) → i < n → coefficient o xs i ≡ coefficient o ys i) → xs ≡ ys
  same_list [] [] n e f h = refl
  same_list [] (y ∷ ys) n e f h = absurd (omega arith)
  same_list (x ∷ xs) [] n e f h = absurd (omega arith)
  same_list (x ∷ xs) (y ∷ ys) zero e f h = absurd (omega arith)
  same_list (x ∷ xs) (y ∷ ys) (suc n) e f h = same_cons _ _ _ _ (h 0 (omega arith)) (same_list xs ys n (omega arith) (omega arith) (λ i within. h (suc i) (omega arith)))

  pub coefficient-combined : (n : ℕ) (ws : List F) (texts : List (List F)) (i : ℕ) → coefficient o (combined o n ws texts) i ≡ weighted_sum o ws (column o texts i)
  coefficient-combined n [] texts i = coefficient-zeros l n i
  coefficient-combined n (w ∷ ws) [] i = coefficient-zeros l n i
  coefficient-combined n (w ∷ ws) (t ∷ texts) i =
      coefficient-add l (scale o w t) (combined o n ws texts) i
      ∙ ap (λ u. o.add u (coefficient o (combined o n ws texts) i)) (coefficient-scale l w t i)
      ∙ ap (o.add (o.mul w (coefficient o t i))) (coefficient-combined n ws texts i)

  pub length-combined : (n : ℕ) (ws : List F) (texts : List (List F)) → AllByRecursion (λ text. length text ≡ n) texts → length (combined o n ws texts) ≡ n
  length-combined n [] texts alike = length-zeros l n
  length-combined n (w ∷ ws) [] alike = length-zeros l n
  length-combined n (w ∷ ws) (t ∷ texts) alike =
      let rest : length (combined o n ws texts) ≡ n = length-combined n ws texts alike.1 in
      let first : length (scale o w t) ≡ n = length-scale l w t ∙ alike.0 in
      length-add l (scale o w t) (combined o n ws texts) (omega (arith, rest, first)) ∙ first

  pub length-column : (texts : List (List F)) (i : ℕ) → length (column o texts i) ≡ length texts
  length-column texts i = length-mapped (λ text. coefficient o text i) texts

  -- a derived text is the sum of weight times text
  pub derived_is : (xs : List F) (texts : List (List F)) (n : ℕ) (x : F) (ws text : List F) → AreShares xs texts n → AreWeights o xs x ws → IsDerived o xs texts n x text → text ≡ combined o n ws texts
  derived_is xs texts n x ws text shares are derived =
      same_list text (combined o n ws texts) n derived.size (length-combined n ws texts shares.alike) (λ i within.
      value_unique l xs (column o texts i) x _ _ shares.once (derived.elements i within)
      (weighted_is l xs (column o texts i) ws x (sym (length-column texts i ∙ shares.one_each)) shares.once are)
      ∙ sym (coefficient-combined n ws texts i))

  pub combined_is_derived : (xs : List F) (texts : List (List F)) (n : ℕ) (x : F) (ws : List F) → AreShares xs texts n → AreWeights o xs x ws → IsDerived o xs texts n x (combined o n ws texts)
  combined_is_derived xs texts n x ws shares are = record {
    size = length-combined n ws texts shares.alike;
    elements = λ i within.
        subst (λ y. IsValueThrough o xs (column o texts i) x y) (sym (coefficient-combined n ws texts i))
        (weighted_is l xs (column o texts i) ws x (sym (length-column texts i ∙ shares.one_each)) shares.once are);
  }

  -- there is one derived text
  pub derived_exists : (xs : List F) (texts : List (List F)) (n : ℕ) (x : F) → AreShares xs texts n → (text : List F) × IsDerived o xs texts n x text
  derived_exists xs texts n x shares =
      let ws : (ws : List F) × AreWeights o xs x ws = weights_exist l x xs shares.once in
      (combined o n ws.0 texts, combined_is_derived xs texts n x ws.0 shares ws.1)

  pub derived_unique : (xs : List F) (texts : List (List F)) (n : ℕ) (x : F) (a b : List F) → AreShares xs texts n → IsDerived o xs texts n x a → IsDerived o xs texts n x b → a ≡ b
  derived_unique xs texts n x a b shares da db =
      let ws : (ws : List F) × AreWeights o xs x ws = weights_exist l x xs shares.once in
      derived_is xs texts n x ws.0 a shares ws.1 da ∙ sym (derived_is xs texts n x ws.0 b shares ws.1 db)

  -- ---- what the texts have in common

  constant : (x c : F) → o.add c (o.mul x o.zero) ≡ c
  constant x c = simp (ring, l)

  constants : (c : F) (xs : List F) (texts : List (List F)) (i : ℕ) → length texts ≡ length xs → AllByRecursion (λ text. coefficient o text i ≡ c) texts → values_at o (c ∷ []) xs ≡ column o texts i
  constants c [] [] i e all = refl
  constants c [] (t ∷ texts) i e all = absurd (omega arith)
  constants c (x ∷ xs) [] i e all = absurd (omega arith)
  constants c (x ∷ xs) (t ∷ texts) i e all = same_cons _ _ _ _ (constant x c ∙ sym all.0) (constants c xs texts i (omega arith) all.1)

  pub common_kept : (xs : List F) (texts : List (List F)) (n : ℕ) (x : F) (text : List F) (i : ℕ) (c : F) → AreShares xs texts n → 1 ≤ length xs → IsDerived o xs texts n x text → i < n
      → AllByRecursion (λ t. coefficient o t i ≡ c) texts → coefficient o text i ≡ c
  common_kept xs texts n x text i c shares some derived within all =
      value_unique l xs (column o texts i) x _ _ shares.once (derived.elements i within)
      (record { polynomial = c ∷ []; through = record { short = some; values = constants c xs texts i shares.one_each all }; value = sym (constant x c) })

  identity : (x : F) → o.add o.zero (o.mul x (o.add o.one (o.mul x o.zero))) ≡ x
  identity x = simp (ring, l)

  identities : (xs : List F) → values_at o (o.zero ∷ o.one ∷ []) xs ≡ xs
  identities [] = refl
  identities (x ∷ xs) = same_cons _ _ _ _ (identity x) (identities xs)

  pub index_moved : (xs : List F) (texts : List (List F)) (n : ℕ) (x : F) (text : List F) (i : ℕ) → AreShares xs texts n → 2 ≤ length xs → IsDerived o xs texts n x text → i < n
      → column o texts i ≡ xs → coefficient o text i ≡ x
  index_moved xs texts n x text i shares some derived within own =
      value_unique l xs (column o texts i) x _ _ shares.once (derived.elements i within)
      (record { polynomial = o.zero ∷ o.one ∷ []; through = record { short = some; values = identities xs ∙ sym own }; value = sym (identity x) })

  -- ---- recovery

  pub on_one : (xs : List F) (texts : List (List F)) (n i : ℕ) (p : List F) (zs : List F) (us : List (List F)) → IsOnce xs → i < n → IsThrough o xs (column o texts i) p → AreDerived o xs texts n zs us → values_at o p zs ≡ column o us i
  on_one xs texts n i p [] [] once within through derived = refl
  on_one xs texts n i p [] (u ∷ us) once within through derived = absurd derived
  on_one xs texts n i p (z ∷ zs) [] once within through derived = absurd derived
  on_one xs texts n i p (z ∷ zs) (u ∷ us) once within through derived =
      let at : IsValueThrough o xs (column o texts i) z (coefficient o u i) = derived.0.elements i within in
      same_cons _ _ _ _ (through_unique l xs (column o texts i) p at.polynomial once through at.through z ∙ sym at.value)
      (on_one xs texts n i p zs us once within through derived.1)

  -- what the shares make, as many texts that are derived from them make
  pub recovered : (xs : List F) (texts : List (List F)) (n : ℕ) (zs : List F) (us : List (List F)) (x : F) (text : List F) → AreShares xs texts n → length zs ≡ length xs → AreDerived o xs texts n zs us
      → IsDerived o xs texts n x text → IsDerived o zs us n x text
  recovered xs texts n zs us x text shares e derived at = record {
    size = at.size;
    elements = λ i within.
        let h : IsValueThrough o xs (column o texts i) x (coefficient o text i) = at.elements i within in
        record {
          polynomial = h.polynomial;
          through = record { short = subst (λ m. length h.polynomial ≤ m) (sym e) h.through.short; values = on_one xs texts n i h.polynomial zs us shares.once within h.through derived };
          value = h.value;
        };
  }

  own : (xs : List F) (texts : List (List F)) (n : ℕ) (p : ℕ → List F) (zs : List F) (us : List (List F)) → length zs ≡ length us → ((i : ℕ) → i < n → IsThrough o xs (column o texts i) (p i)) → AllByRecursion (λ u. length u ≡ n) us
      → ((i : ℕ) → i < n → values_at o (p i) zs ≡ column o us i) → AreDerived o xs texts n zs us
  own xs texts n p [] [] e through alike values = tt
  own xs texts n p [] (u ∷ us) e through alike values = absurd (omega arith)
  own xs texts n p (z ∷ zs) [] e through alike values = absurd (omega arith)
  own xs texts n p (z ∷ zs) (u ∷ us) e through alike values = (
    record {
      size = alike.0;
      elements = λ i within. record { polynomial = p i; through = through i within; value = sym (first_same _ _ _ _ (values i within)) };
    },
    own xs texts n p zs us (omega arith) through alike.1 (λ i within. rest_same _ _ _ _ (values i within)),
  )

  -- each share is derived from them
  pub shares_are_derived : (xs : List F) (texts : List (List F)) (n : ℕ) → AreShares xs texts n → AreDerived o xs texts n xs texts
  shares_are_derived xs texts n shares =
      own xs texts n (λ i. (p i).0) xs texts (sym shares.one_each) (λ i within. (p i).1) shares.alike (λ i within. (p i).1.values)
    where
      p : (i : ℕ) → (p : List F) × IsThrough o xs (column o texts i) p
      p i = through_exists l xs (column o texts i) (sym (length-column texts i ∙ shares.one_each)) shares.once

  -- ---- secrecy

  pub swapped : (xs ys : List F) (s u j v : F) → IsValueThrough o (s ∷ xs) (u ∷ ys) j v → IsValueThrough o (j ∷ xs) (v ∷ ys) s u
  swapped xs ys s u j v h = record {
    polynomial = h.polynomial;
    through = record { short = h.through.short; values = same_cons _ _ _ _ (sym h.value) (rest_same _ _ _ _ h.through.values) };
    value = sym (first_same _ _ _ _ h.through.values);
  }

  pub swapped_texts : (xs : List F) (texts : List (List F)) (n : ℕ) (s j : F) (u v : List F) → length u ≡ n → IsDerived o (s ∷ xs) (u ∷ texts) n j v → IsDerived o (j ∷ xs) (v ∷ texts) n s u
  swapped_texts xs texts n s j u v size h = record {
    size = size;
    elements = λ i within. swapped xs (column o texts i) s (coefficient o u i) j (coefficient o v i) (h.elements i within);
  }

  pub one_secret_text : (xs : List F) (texts : List (List F)) (n : ℕ) (s j : F) (v : List F) → AreShares xs texts n → IsOnce (s ∷ j ∷ xs) → length v ≡ n
      → (u : List F) × (length u ≡ n) × IsDerived o (s ∷ xs) (u ∷ texts) n j v × ((w : List F) → length w ≡ n → IsDerived o (s ∷ xs) (w ∷ texts) n j v → w ≡ u)
  one_secret_text xs texts n s j v shares once size =
      let more : AreShares (j ∷ xs) (v ∷ texts) n = record { once = once.1; one_each = ap suc shares.one_each; alike = (size, shares.alike) } in
      let u : (u : List F) × IsDerived o (j ∷ xs) (v ∷ texts) n s u = derived_exists (j ∷ xs) (v ∷ texts) n s more in (
        u.0,
        u.1.size,
        swapped_texts xs texts n j s v u.0 size u.1,
        λ w same h. derived_unique (j ∷ xs) (v ∷ texts) n s w u.0 more (swapped_texts xs texts n s j w v same h) u.1,
      )
