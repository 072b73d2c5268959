-- Lists that have all that a predicate holds of, in rising order.
use Rattle.std.specs.List.{AllByRecursion}
use Rattle.std.proofs.Common.{◌≡◌, List, [], ◌∷◌, ◌++◌, map, ◌⊎◌, inl, inr, sym, ap, ◌∙◌, refl, subst, append_assoc}
use Rattle.bech32_poly.specs.Distinct.{IsAmong}
use Rattle.bech32_bch.proofs.Places.{all_of, look, mem_left, mem_right}
use Rattle.bech32_near.specs.search.Nearest.{AreRising}
use Rattle.bech32_near.specs.search.Steps.{AreAdded, AreAll}

nothing_behind : {A : Type 0} (xs : List A) → xs ≡ xs ++ []
nothing_behind [] = refl
nothing_behind (x ∷ xs) = ap (λ u. x ∷ u) (nothing_behind xs)

all-append : {A : Type 0} (P : A → Type 0) (xs ys : List A) → AllByRecursion P xs → AllByRecursion P ys → AllByRecursion P (xs ++ ys)
all-append P [] ys h k = k
all-append P (x ∷ xs) ys h k = (h.0, all-append P xs ys h.1 k)

module _ {A : Type 0} (Earlier : A → A → Type 0) where
  pub none : (P : A → Type 0) → ((x : A) → P x → ⊥) → AreAll Earlier P []
  none P h = record { each = tt; all = λ x p. absurd (h x p); rising = tt }

  pub single : (P : A → Type 0) (x : A) → P x → ((y : A) → P y → y ≡ x) → AreAll Earlier P (x ∷ [])
  single P x p only = record { each = (p, tt); all = λ y q. inl (only y q); rising = (tt, tt) }

  -- the same list for what holds of the same
  pub same : (P Q : A → Type 0) (xs : List A) → ((x : A) → P x → Q x) → ((x : A) → Q x → P x) → AreAll Earlier P xs → AreAll Earlier Q xs
  same P Q xs to from h = record {
    each = all_of Q xs (λ x m. to x (look P x xs h.each m));
    all = λ x q. h.all x (from x q);
    rising = h.rising;
  }

  rising-append : (xs ys : List A) → AreRising Earlier xs → AreRising Earlier ys → ((x y : A) → IsAmong x xs → IsAmong y ys → Earlier x y) → AreRising Earlier (xs ++ ys)
  rising-append [] ys h k apart = k
  rising-append (x ∷ xs) ys h k apart = (
    all-append (Earlier x) xs ys h.0 (all_of (Earlier x) ys (λ y m. apart x y (inl refl) m)),
    rising-append xs ys h.1 k (λ z y m n. apart z y (inr m) n),
  )

  -- what holds of one or the other, all of the first earlier than those of the second
  pub joined : (P Q S : A → Type 0) (xs ys : List A) → ((x : A) → P x → S x) → ((x : A) → Q x → S x) → ((x : A) → S x → P x ⊎ Q x) → ((x y : A) → P x → Q y → Earlier x y)
      → AreAll Earlier P xs → AreAll Earlier Q ys → AreAll Earlier S (xs ++ ys)
  joined P Q S xs ys first second either before h k = record {
    each = all-append S xs ys (all_of S xs (λ x m. first x (look P x xs h.each m))) (all_of S ys (λ y m. second y (look Q y ys k.each m)));
    all = λ x s. elim (either x s) [ inl p ↦ mem_left x xs ys (h.all x p) | inr q ↦ mem_right x xs ys (k.all x q) ];
    rising = rising-append xs ys h.rising k.rising (λ x y m n. before x y (look P x xs h.each m) (look Q y ys k.each n));
  }

  mapped_all : (P Q : A → Type 0) (f : A → A) (xs : List A) → ((x : A) → P x → Q (f x)) → AllByRecursion P xs → AllByRecursion Q (map f xs)
  mapped_all P Q f [] to h = tt
  mapped_all P Q f (x ∷ xs) to h = (to x h.0, mapped_all P Q f xs to h.1)

  mapped_among : (f : A → A) (xs : List A) (x : A) → IsAmong x xs → IsAmong (f x) (map f xs)
  mapped_among f [] x m = m
  mapped_among f (y ∷ xs) x (inl e) = inl (ap f e)
  mapped_among f (y ∷ xs) x (inr m) = inr (mapped_among f xs x m)

  mapped_first : (P : A → Type 0) (f : A → A) (x : A) (xs : List A) → ((y : A) → P y → Earlier x y → Earlier (f x) (f y)) → AllByRecursion P xs → AllByRecursion (Earlier x) xs → AllByRecursion (Earlier (f x)) (map f xs)
  mapped_first P f x [] keeps p h = tt
  mapped_first P f x (y ∷ xs) keeps p h = (keeps y p.0 h.0, mapped_first P f x xs keeps p.1 h.1)

  mapped_rising : (P : A → Type 0) (f : A → A) (xs : List A) → ((x y : A) → P x → P y → Earlier x y → Earlier (f x) (f y)) → AllByRecursion P xs → AreRising Earlier xs → AreRising Earlier (map f xs)
  mapped_rising P f [] keeps p h = tt
  mapped_rising P f (x ∷ xs) keeps p h = (mapped_first P f x xs (λ y q k. keeps x y p.0 q k) p.1 h.0, mapped_rising P f xs keeps p.1 h.1)

  -- what comes of each by a function that keeps the order
  pub mapped : (P Q : A → Type 0) (f : A → A) (xs : List A) → ((x : A) → P x → Q (f x)) → ((y : A) → Q y → (x : A) × P x × (y ≡ f x)) → ((x y : A) → P x → P y → Earlier x y → Earlier (f x) (f y))
      → AreAll Earlier P xs → AreAll Earlier Q (map f xs)
  mapped P Q f xs to from keeps h = record {
    each = mapped_all P Q f xs to h.each;
    all = λ y q. let k = from y q in subst (λ z. IsAmong z (map f xs)) (sym k.2) (mapped_among f xs k.0 (h.all k.0 k.1));
    rising = mapped_rising P f xs keeps h.each h.rising;
  }

  pub added_none : (P : A → Type 0) (old : List A) → ((x : A) → P x → ⊥) → AreAdded Earlier P old old
  added_none P old h = record { more = []; behind = nothing_behind old; are_all = none P h }

  pub added_one : (P : A → Type 0) (old new : List A) (x : A) → new ≡ old ++ x ∷ [] → P x → ((y : A) → P y → y ≡ x) → AreAdded Earlier P old new
  added_one P old new x e p only = record { more = x ∷ []; behind = e; are_all = single P x p only }

  pub added_same : (P Q : A → Type 0) (old new : List A) → ((x : A) → P x → Q x) → ((x : A) → Q x → P x) → AreAdded Earlier P old new → AreAdded Earlier Q old new
  added_same P Q old new to from h = record { more = h.more; behind = h.behind; are_all = same P Q h.more to from h.are_all }

  pub added_both : (P Q S : A → Type 0) (old between new : List A) → ((x : A) → P x → S x) → ((x : A) → Q x → S x) → ((x : A) → S x → P x ⊎ Q x) → ((x y : A) → P x → Q y → Earlier x y)
      → AreAdded Earlier P old between → AreAdded Earlier Q between new → AreAdded Earlier S old new
  added_both P Q S old between new first second either before h k = record {
    more = h.more ++ k.more;
    behind = k.behind ∙ ap (λ u. u ++ k.more) h.behind ∙ append_assoc old h.more k.more;
    are_all = joined P Q S h.more k.more first second either before h.are_all k.are_all;
  }
