-- Further texts agree with the first ones where they are derived from them.
use Rattle.std.proofs.Common.{◌≡◌, ℕ, ◌<◌, List, [], ◌∷◌, ◌++◌, length, sym, ◌∙◌, refl, arith}
use Rattle.std.specs.List.{AllByRecursion}
use Rattle.bech32_gf.specs.Field.{Ops, IsField}
use Rattle.bech32_poly.proofs.Lists.{same_cons}
use Rattle.codex32_steady.specs.shares.Points.{values_at, IsThrough}
use Rattle.codex32_steady.specs.shares.Shares.{column, AreShares, AreDerived, DoAgree}
use Rattle.codex32_steady.proofs.Through.{through_exists}
use Rattle.codex32_steady.proofs.ShareTexts.{on_one, length-column}

first_same : {A : Type 0} (a b : A) (p q : List A) → a ∷ p ≡ b ∷ q → a ≡ b
first_same a b p q e = cc

rest_same : {A : Type 0} (a b : A) (p q : List A) → a ∷ p ≡ b ∷ q → p ≡ q
rest_same a b p q e = cc

module _ {F : Type 0} {o : Ops F} (l : IsField o) where
  joined : (p xs zs : List F) (ts us : List (List F)) (i : ℕ) → values_at o p xs ≡ column o ts i → values_at o p zs ≡ column o us i → values_at o p (xs ++ zs) ≡ column o (ts ++ us) i
  joined p [] zs [] us i e f = f
  joined p [] zs (t ∷ ts) us i e f = absurd cc
  joined p (x ∷ xs) zs [] us i e f = absurd cc
  joined p (x ∷ xs) zs (t ∷ ts) us i e f = same_cons _ _ _ _ (first_same _ _ _ _ e) (joined p xs zs ts us i (rest_same _ _ _ _ e) f)

  pub parted : (p xs zs : List F) (ts us : List (List F)) (i : ℕ) → length ts ≡ length xs → values_at o p (xs ++ zs) ≡ column o (ts ++ us) i → (values_at o p xs ≡ column o ts i) × (values_at o p zs ≡ column o us i)
  parted p [] zs [] us i e h = (refl, h)
  parted p [] zs (t ∷ ts) us i e h = absurd (omega arith)
  parted p (x ∷ xs) zs [] us i e h = absurd (omega arith)
  parted p (x ∷ xs) zs (t ∷ ts) us i e h =
      let rest = parted p xs zs ts us i (omega arith) (rest_same _ _ _ _ h) in
      (same_cons _ _ _ _ (first_same _ _ _ _ h) rest.0, rest.1)

  pub agree_from_derived : (xs zs : List F) (ts us : List (List F)) (n : ℕ) → AreShares xs ts n → AreDerived o xs ts n zs us → DoAgree o (length xs) (xs ++ zs) (ts ++ us) n
  agree_from_derived xs zs ts us n shares derived = λ i within.
      let p : (p : List F) × IsThrough o xs (column o ts i) p = through_exists l xs (column o ts i) (sym (length-column l ts i ∙ shares.one_each)) shares.once in
      (p.0, p.1.short, joined p.0 xs zs ts us i p.1.values (on_one l xs ts n i p.0 zs us shares.once within p.1 derived))

  sized : (xs zs : List F) (ts us : List (List F)) (n : ℕ) → length us ≡ length zs → AllByRecursion (λ t. length t ≡ n) us → DoAgree o (length xs) (xs ++ zs) (ts ++ us) n → length ts ≡ length xs → ((i : ℕ) → i < n → (p : List F) × IsThrough o xs (column o ts i) p × (values_at o p zs ≡ column o us i))
  sized xs zs ts us n e alike agree f i within =
      let h = agree i within in
      let parts = parted h.0 xs zs ts us i f h.2 in
      (h.0, record { short = h.1; values = parts.0 }, parts.1)

  each : (xs : List F) (ts : List (List F)) (n : ℕ) (zs : List F) (us : List (List F)) → length us ≡ length zs → AllByRecursion (λ t. length t ≡ n) us
      → ((i : ℕ) → i < n → (p : List F) × IsThrough o xs (column o ts i) p × (values_at o p zs ≡ column o us i)) → AreDerived o xs ts n zs us
  each xs ts n [] [] e alike h = tt
  each xs ts n [] (u ∷ us) e alike h = absurd (omega arith)
  each xs ts n (z ∷ zs) [] e alike h = absurd (omega arith)
  each xs ts n (z ∷ zs) (u ∷ us) e alike h = (
    record {
      size = alike.0;
      elements = λ i within. let g = h i within in record { polynomial = g.0; through = g.1; value = sym (first_same _ _ _ _ g.2) };
    },
    each xs ts n zs us (omega arith) alike.1 (λ i within. let g = h i within in (g.0, g.1, rest_same _ _ _ _ g.2)),
  )

  pub derived_from_agree : (xs zs : List F) (ts us : List (List F)) (n : ℕ) → AreShares xs ts n → length us ≡ length zs → AllByRecursion (λ t. length t ≡ n) us → DoAgree o (length xs) (xs ++ zs) (ts ++ us) n → AreDerived o xs ts n zs us
  derived_from_agree xs zs ts us n shares e alike agree = each xs ts n zs us e alike (sized xs zs ts us n e alike agree shares.one_each)
