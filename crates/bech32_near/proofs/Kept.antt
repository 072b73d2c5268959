-- Lists of all edits of which something holds, one behind another.
use Rattle.std.specs.List.{AllByRecursion}
use Rattle.std.proofs.Common.{◌≡◌, ℕ, ◌+◌, ◌<◌, List, [], ◌∷◌, ◌++◌, append-nil, append_assoc, ◌⊎◌, inl, inr, sym, ap, ◌∙◌, arith}
use Rattle.std.specs.Prelude.{IsSome, Option, Some, None, option_to_list}
use Rattle.std.proofs.Math.Decide.{dec_lt}
use Rattle.bech32_bch.proofs.Places.{mem_left, mem_right}
use Rattle.bech32_near.specs.edits.Edits.{AreAllOf, AreInOrder, IsBefore, kind}
use Rattle.bech32_near.specs.declared.edits.edit.Change.{Change}
use Rattle.bech32_near.specs.declared.edits.edit.Change.TheVariants.{LeftOut, PutIn, Swapped}
use Rattle.bech32_near.specs.declared.edits.edit.Edit.{Edit}

all-append : (P : Edit → Type 0) (xs ys : List Edit) → AllByRecursion P xs → AllByRecursion P ys → AllByRecursion P (xs ++ ys)
all-append P [] ys a b = b
all-append P (x ∷ xs) ys a b = (a.0, all-append P xs ys a.1 b)

all_weaker : (P Q : Edit → Type 0) (xs : List Edit) → ((x : Edit) → P x → Q x) → AllByRecursion P xs → AllByRecursion Q xs
all_weaker P Q [] h a = tt
all_weaker P Q (x ∷ xs) h a = (h x a.0, all_weaker P Q xs h a.1)

order-append : (P Q : Edit → Type 0) (xs ys : List Edit) → ((x y : Edit) → P x → Q y → IsBefore x y) → AllByRecursion P xs → AllByRecursion Q ys
    → AreInOrder xs → AreInOrder ys → AreInOrder (xs ++ ys)
order-append P Q [] ys before p q a b = b
order-append P Q (x ∷ xs) ys before p q a b = (
  all-append (IsBefore x) xs ys a.0 (all_weaker Q (IsBefore x) ys (λ y h. before x y p.0 h) q),
  order-append P Q xs ys before p.1 q a.1 b,
)

-- all of two properties, where what has the one is before what has the other
pub both : (P Q S : Edit → Type 0) (xs ys : List Edit) → AreAllOf P xs → AreAllOf Q ys → ((x y : Edit) → P x → Q y → IsBefore x y)
    → ((e : Edit) → P e → S e) → ((e : Edit) → Q e → S e) → ((e : Edit) → S e → P e ⊎ Q e) → AreAllOf S (xs ++ ys)
both P Q S xs ys a b before first second split = record {
  each = all-append S xs ys (all_weaker P S xs first a.each) (all_weaker Q S ys second b.each);
  all = λ e s. elim (split e s) [ inl p ↦ mem_left e xs ys (a.all e p) | inr q ↦ mem_right e xs ys (b.all e q) ];
  in_order = order-append P Q xs ys before a.each b.each a.in_order b.in_order;
}

pub nothing : (P : Edit → Type 0) → ((e : Edit) → P e → ⊥) → AreAllOf P []
nothing P none = record { each = tt; all = none; in_order = tt }

pub same_all : (P Q : Edit → Type 0) (xs : List Edit) → ((e : Edit) → P e → Q e) → ((e : Edit) → Q e → P e) → AreAllOf P xs → AreAllOf Q xs
same_all P Q xs to from a = record { each = all_weaker P Q xs to a.each; all = λ e q. a.all e (from e q); in_order = a.in_order }

-- ---- one after another by a rank

-- P holds, and the rank is lower
abbrev pub IsLower : (Edit → Type 0) → (Edit → ℕ) → ℕ → Edit → Type 0
IsLower P rank n e = P e × (rank e < n)

module _ (P : Edit → Type 0) (rank : Edit → ℕ) where
  pub none_lower : AreAllOf (IsLower P rank 0) []
  none_lower = nothing (IsLower P rank 0) (λ e h. omega (arith, h.1))

  lower_or_at : (n : ℕ) (e : Edit) → IsLower P rank (n + 1) e → IsLower P rank n e ⊎ (P e × (rank e ≡ n))
  lower_or_at n e h = elim (dec_lt (rank e) n) [ yes less ↦ inl (h.0, less) | no more ↦ inr (h.0, omega (arith, more, h.1)) ]

  pub more_lower : (n : ℕ) (xs ys : List Edit) → ((x y : Edit) → P x → P y → rank x < rank y → IsBefore x y)
      → AreAllOf (IsLower P rank n) xs → AreAllOf (λ e. P e × (rank e ≡ n)) ys → AreAllOf (IsLower P rank (n + 1)) (xs ++ ys)
  more_lower n xs ys earlier a b =
      both (IsLower P rank n) (λ e. P e × (rank e ≡ n)) (IsLower P rank (n + 1)) xs ys a b
      (λ x y p q. earlier x y p.0 q.0 (omega (arith, p.1, q.1)))
      (λ e p. (p.0, omega (arith, p.1)))
      (λ e q. (q.0, omega (arith, q.1)))
      (lower_or_at n)

  pub all_lower : (n : ℕ) (xs : List Edit) → ((e : Edit) → P e → rank e < n) → AreAllOf (IsLower P rank n) xs → AreAllOf P xs
  all_lower n xs low a = same_all (IsLower P rank n) P xs (λ e p. p.0) (λ e p. (p, low e p)) a

-- found edits, with those of one rank more behind them
pub found_more : (P : Edit → Type 0) (rank : Edit → ℕ) (n : ℕ) (first before after ys : List Edit) → ((x y : Edit) → P x → P y → rank x < rank y → IsBefore x y)
    → after ≡ before ++ ys → AreAllOf (λ e. P e × (rank e ≡ n)) ys
    → (xs : List Edit) × (before ≡ first ++ xs) × AreAllOf (IsLower P rank n) xs
    → (xs : List Edit) × (after ≡ first ++ xs) × AreAllOf (IsLower P rank (n + 1)) xs
found_more P rank n first before after ys earlier is at (xs, e, a) =
    (xs ++ ys, is ∙ ap (λ (u : List Edit). u ++ ys) e ∙ append_assoc first xs ys, more_lower P rank n xs ys earlier a at)

pub found_all : (P : Edit → Type 0) (rank : Edit → ℕ) (n : ℕ) (first after : List Edit) → ((e : Edit) → P e → rank e < n)
    → (xs : List Edit) × (after ≡ first ++ xs) × AreAllOf (IsLower P rank n) xs → (xs : List Edit) × (after ≡ first ++ xs) × AreAllOf P xs
found_all P rank n first after low (xs, e, a) = (xs, e, all_lower P rank n xs low a)

pub found_none : (P : Edit → Type 0) (first : List Edit) → ((e : Edit) → P e → ⊥) → (xs : List Edit) × (first ≡ first ++ xs) × AreAllOf P xs
found_none P first none = ([], sym (append-nil first), nothing P none)

-- one of them, where there is one
pub some_kept : (P : Edit → Type 0) (o : Option Edit) → IsSome o → AreAllOf P (option_to_list o) → (e : Edit) × P e
some_kept P None s a = absurd (cc)
some_kept P (Some e) s a = (e, a.each.0)

-- ---- the three kinds

kind_few : (change : Change) → kind change < 3
kind_few (Swapped x y) = omega arith
kind_few (LeftOut x) = omega arith
kind_few (PutIn x) = omega arith

module _ (A : Edit → Type 0) where
  abbrev OfKind : ℕ → Edit → Type 0
  OfKind k e = (kind e.change ≡ k) × A e

  abbrev OfLowKind : Edit → Type 0
  OfLowKind e = (kind e.change < 2) × A e

  low_kinds : (e : Edit) → OfLowKind e → OfKind 0 e ⊎ OfKind 1 e
  low_kinds e h = elim (dec_lt (kind e.change) 1) [ yes less ↦ inl (omega (arith, less), h.1) | no more ↦ inr (omega (arith, more, h.0), h.1) ]

  kinds : (e : Edit) → A e → OfLowKind e ⊎ OfKind 2 e
  kinds e a = elim (dec_lt (kind e.change) 2) [ yes less ↦ inl (less, a) | no more ↦ inr (omega (arith, more, kind_few e.change), a) ]

  pub all_kinds : (xs ys zs : List Edit) → AreAllOf (OfKind 0) xs → AreAllOf (OfKind 1) ys → AreAllOf (OfKind 2) zs → AreAllOf A (xs ++ ys ++ zs)
  all_kinds xs ys zs a b c =
      both OfLowKind (OfKind 2) A (xs ++ ys) zs
      (both (OfKind 0) (OfKind 1) OfLowKind xs ys a b (λ x y p q. inl (omega (arith, p.0, q.0))) (λ e p. (omega (arith, p.0), p.1)) (λ e q. (omega (arith, q.0), q.1)) low_kinds)
      c (λ x y p q. inl (omega (arith, p.0, q.0))) (λ e p. p.1) (λ e q. q.1) kinds

-- found edits, with others behind them that are given as such a list
pub found_chain : (P : Edit → Type 0) (rank : Edit → ℕ) (n : ℕ) (first before after : List Edit) → ((x y : Edit) → P x → P y → rank x < rank y → IsBefore x y)
    → (ys : List Edit) × (after ≡ before ++ ys) × AreAllOf (λ e. P e × (rank e ≡ n)) ys
    → (xs : List Edit) × (before ≡ first ++ xs) × AreAllOf (IsLower P rank n) xs
    → (xs : List Edit) × (after ≡ first ++ xs) × AreAllOf (IsLower P rank (n + 1)) xs
found_chain P rank n first before after earlier (ys, is, a) kept = found_more P rank n first before after ys earlier is a kept
