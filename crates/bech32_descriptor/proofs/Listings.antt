-- Lists of all of which something holds, one behind another.
use Rattle.std.specs.List.{AllByRecursion}
use Rattle.std.proofs.Common.{◌≡◌, ℕ, ◌+◌, ◌<◌, List, [], ◌∷◌, ◌++◌, append-nil, append_assoc, ◌⊎◌, inl, inr, sym, ap, ◌∙◌, arith}
use Rattle.std.proofs.Math.Decide.{dec_lt}
use Rattle.bech32_poly.specs.Distinct.{IsAmong}
use Rattle.bech32_descriptor.specs.Listings.{AreAllInOrder, AreOrdered}

among_left : {A : Type 0} (x : A) (xs ys : List A) → IsAmong x xs → IsAmong x (xs ++ ys)
among_left x [] ys h = absurd h
among_left x (y ∷ xs) ys (inl e) = inl e
among_left x (y ∷ xs) ys (inr h) = inr (among_left x xs ys h)

among_right : {A : Type 0} (x : A) (xs ys : List A) → IsAmong x ys → IsAmong x (xs ++ ys)
among_right x [] ys h = h
among_right x (y ∷ xs) ys h = inr (among_right x xs ys h)

all-append : {A : Type 0} (P : A → Type 0) (xs ys : List A) → AllByRecursion P xs → AllByRecursion P ys → AllByRecursion P (xs ++ ys)
all-append P [] ys a b = b
all-append P (x ∷ xs) ys a b = (a.0, all-append P xs ys a.1 b)

pub all_weaker : {A : Type 0} (P Q : A → Type 0) (xs : List A) → ((x : A) → P x → Q x) → AllByRecursion P xs → AllByRecursion Q xs
all_weaker P Q [] h a = tt
all_weaker P Q (x ∷ xs) h a = (h x a.0, all_weaker P Q xs h a.1)

module _ {A : Type 0} (Earlier : A → A → Type 0) where
  order-append : (P Q : A → Type 0) (xs ys : List A) → ((x y : A) → P x → Q y → Earlier x y) → AllByRecursion P xs → AllByRecursion Q ys
      → AreOrdered Earlier xs → AreOrdered Earlier ys → AreOrdered Earlier (xs ++ ys)
  order-append P Q [] ys before p q a b = b
  order-append P Q (x ∷ xs) ys before p q a b = (
    all-append (Earlier x) xs ys a.0 (all_weaker Q (Earlier x) ys (λ y h. before x y p.0 h) q),
    order-append P Q xs ys before p.1 q a.1 b,
  )

  -- all of two properties, where what has the one is before what has the other
  pub both : (P Q S : A → Type 0) (xs ys : List A) → AreAllInOrder Earlier P xs → AreAllInOrder Earlier Q ys → ((x y : A) → P x → Q y → Earlier x y)
      → ((e : A) → P e → S e) → ((e : A) → Q e → S e) → ((e : A) → S e → P e ⊎ Q e) → AreAllInOrder Earlier S (xs ++ ys)
  both P Q S xs ys a b before first second split = record {
    each = all-append S xs ys (all_weaker P S xs first a.each) (all_weaker Q S ys second b.each);
    all = λ e s. elim (split e s) [ inl p ↦ among_left e xs ys (a.all e p) | inr q ↦ among_right e xs ys (b.all e q) ];
    in_order = order-append P Q xs ys before a.each b.each a.in_order b.in_order;
  }

  pub nothing : (P : A → Type 0) → ((e : A) → P e → ⊥) → AreAllInOrder Earlier P []
  nothing P none = record { each = tt; all = λ e p. absurd (none e p); in_order = tt }

  pub same_all : (P Q : A → Type 0) (xs : List A) → ((e : A) → P e → Q e) → ((e : A) → Q e → P e) → AreAllInOrder Earlier P xs → AreAllInOrder Earlier Q xs
  same_all P Q xs to from a = record { each = all_weaker P Q xs to a.each; all = λ e q. a.all e (from e q); in_order = a.in_order }

  -- ---- one after another by a rank

  -- P holds, and the rank is lower
  abbrev pub IsLower : (A → Type 0) → (A → ℕ) → ℕ → A → Type 0
  IsLower P rank n e = P e × (rank e < n)

  lower_or_at : (P : A → Type 0) (rank : A → ℕ) (n : ℕ) (e : A) → IsLower P rank (n + 1) e → IsLower P rank n e ⊎ (P e × (rank e ≡ n))
  lower_or_at P rank n e h = elim (dec_lt (rank e) n) [ yes less ↦ inl (h.0, less) | no more ↦ inr (h.0, omega (arith, more, h.1)) ]

  more_lower : (P : A → Type 0) (rank : A → ℕ) (n : ℕ) (xs ys : List A) → ((x y : A) → P x → P y → rank x < rank y → Earlier x y)
      → AreAllInOrder Earlier (IsLower P rank n) xs → AreAllInOrder Earlier (λ e. P e × (rank e ≡ n)) ys → AreAllInOrder Earlier (IsLower P rank (n + 1)) (xs ++ ys)
  more_lower P rank n xs ys earlier a b =
      both (IsLower P rank n) (λ e. P e × (rank e ≡ n)) (IsLower P rank (n + 1)) xs ys a b
      (λ x y p q. earlier x y p.0 q.0 (omega (arith, p.1, q.1)))
      (λ e p. (p.0, omega (arith, p.1)))
      (λ e q. (q.0, omega (arith, q.1)))
      (lower_or_at P rank n)

  -- what was found, behind those from before: all of which P holds, of a lower rank
  abbrev pub HasFound : (A → Type 0) → (A → ℕ) → ℕ → List A → List A → Type 0
  HasFound P rank n first now = (xs : List A) × (now ≡ first ++ xs) × AreAllInOrder Earlier (IsLower P rank n) xs

  -- the same, of any rank
  abbrev pub HasFoundAll : (A → Type 0) → List A → List A → Type 0
  HasFoundAll P first now = (xs : List A) × (now ≡ first ++ xs) × AreAllInOrder Earlier P xs

  pub found_start : (P : A → Type 0) (rank : A → ℕ) (n : ℕ) (first : List A) → ((e : A) → P e → rank e < n → ⊥) → HasFound P rank n first first
  found_start P rank n first none = ([], sym (append-nil first), nothing (IsLower P rank n) (λ e h. none e h.0 h.1))

  pub found_more : (P : A → Type 0) (rank : A → ℕ) (n : ℕ) (first before after ys : List A) → ((x y : A) → P x → P y → rank x < rank y → Earlier x y)
      → after ≡ before ++ ys → AreAllInOrder Earlier (λ e. P e × (rank e ≡ n)) ys → HasFound P rank n first before → HasFound P rank (n + 1) first after
  found_more P rank n first before after ys earlier is at (xs, e, a) =
      (xs ++ ys, is ∙ ap (λ (u : List A). u ++ ys) e ∙ append_assoc first xs ys, more_lower P rank n xs ys earlier a at)

  pub found_chain : (P : A → Type 0) (rank : A → ℕ) (n : ℕ) (first before after : List A) → ((x y : A) → P x → P y → rank x < rank y → Earlier x y)
      → HasFoundAll (λ e. P e × (rank e ≡ n)) before after → HasFound P rank n first before → HasFound P rank (n + 1) first after
  found_chain P rank n first before after earlier (ys, is, a) kept = found_more P rank n first before after ys earlier is a kept

  pub found_all : (P : A → Type 0) (rank : A → ℕ) (n : ℕ) (first after : List A) → ((e : A) → P e → rank e < n)
      → HasFound P rank n first after → HasFoundAll P first after
  found_all P rank n first after low (xs, e, a) = (xs, e, same_all (IsLower P rank n) P xs (λ x p. p.0) (λ x p. (p, low x p)) a)

  pub found_none : (P : A → Type 0) (first : List A) → ((e : A) → P e → ⊥) → HasFoundAll P first first
  found_none P first none = ([], sym (append-nil first), nothing P none)
