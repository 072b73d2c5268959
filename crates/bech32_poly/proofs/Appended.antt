-- Coefficients put in below a polynomial, and the checksums that they make.
use Rattle.std.proofs.Common.{◌≡◌, ℕ, zero, suc, List, [], ◌∷◌, ◌++◌, length, get_or, take, ◌+◌, ◌<◌, reverse, sym, ap, subst, ◌∙◌, refl, arith}
use Rattle.std.proofs.lemmas.List.{take_more, append_assoc, reverse-append, reverse-reverse, length-reverse}
use Rattle.bech32_gf.specs.Field.{Ops, IsField}
use Rattle.bech32_poly.specs.Polynomial.{add, appended}
use Rattle.bech32_poly.specs.Remainder.{IsRemainder}
use Rattle.bech32_gf.specs.laws.Ring as ring
use Rattle.bech32_poly.proofs.Lists.{same_cons, add_assoc, add_comm, zeros-add}
use Rattle.bech32_poly.specs.Division.{zeros}
use Rattle.bech32_poly.proofs.Remainder.{length-remainder_of, remainder_of-add, remainder_of-itself, remainder_unique, remainder_exists}
use Rattle.bech32_poly.specs.Division.{remainder_of}

pub appended-append : {F : Type 0} → (p xs ys : List F) → appended p (xs ++ ys) ≡ appended (appended p xs) ys
appended-append p [] ys = refl
appended-append p (x ∷ xs) ys = appended-append (x ∷ p) xs ys

pub appended-reverse : {F : Type 0} → (p xs : List F) → appended p xs ≡ reverse xs ++ p
appended-reverse p [] = refl
appended-reverse p (x ∷ xs) = appended-reverse (x ∷ p) xs ∙ sym (append_assoc (reverse xs) (x ∷ []) p) ∙ ap (λ u. u ++ p) (sym (reverse-append (x ∷ []) xs))

-- one more coefficient of a list
pub appended-take_more : {F : Type 0} → (p xs : List F) (i : ℕ) (d : F) → i < length xs
    → appended p (take (i + 1) xs) ≡ get_or xs i d ∷ appended p (take i xs)
appended-take_more p xs i d h = ap (appended p) (take_more xs i d h) ∙ appended-append p (take i xs) (get_or xs i d ∷ [])

reverse_injective : {F : Type 0} → (xs ys : List F) → reverse xs ≡ reverse ys → xs ≡ ys
reverse_injective xs ys e = sym (reverse-reverse xs) ∙ ap reverse e ∙ reverse-reverse ys

module _ {F : Type 0} {o : Ops F} (l : IsField o) where
  add-below : (u p : List F) (n : ℕ) → length u ≡ n → add o u (zeros o n ++ p) ≡ u ++ p
  add-below [] p zero e = refl
  add-below [] p (suc n) e = absurd (omega arith)
  add-below (a ∷ u) p zero e = absurd (omega arith)
  add-below (a ∷ u) p (suc n) e = same_cons _ _ _ _ (l.add_zero a) (add-below u p n (omega arith))

  -- the remainder where as many coefficients as the degree are put in below
  pub remainder_of-below : (low u p : List F) → length u ≡ length low
      → remainder_of o low (u ++ p) ≡ add o u (remainder_of o low (zeros o (length low) ++ p))
  remainder_of-below low u p e =
      ap (remainder_of o low) (sym (add-below u p (length low) e))
      ∙ remainder_of-add l low u (zeros o (length low) ++ p)
      ∙ ap (λ r. add o r (remainder_of o low (zeros o (length low) ++ p))) (remainder_of-itself l low u e)

  add_cancel : (p q r : List F) → length p ≡ length r → length q ≡ length r → add o p r ≡ add o q r → p ≡ q
  add_cancel [] [] r e f h = refl
  add_cancel [] (b ∷ q) r e f h = absurd (omega arith)
  add_cancel (a ∷ p) [] r e f h = absurd (omega arith)
  add_cancel (a ∷ p) (b ∷ q) [] e f h = absurd (omega arith)
  add_cancel (a ∷ p) (b ∷ q) (c ∷ r) e f h =
      let first : o.add a c ≡ o.add b c = cc in
      let rest : add o p r ≡ add o q r = cc in
      same_cons _ _ _ _ (ring.add_cancel l c a b (l.add_comm c a ∙ first ∙ l.add_comm b c)) (add_cancel p q r (omega arith) (omega arith) rest)

  -- one row of elements behind p leaves r
  pub checksum_unique : (low p xs ys r : List F) → length xs ≡ length low → length ys ≡ length low
      → IsRemainder o low (appended p xs) r → IsRemainder o low (appended p ys) r → xs ≡ ys
  checksum_unique low p xs ys r e f h k =
      reverse_injective xs ys (add_cancel (reverse xs) (reverse ys) s
      (length-reverse xs ∙ e ∙ sym size) (length-reverse ys ∙ f ∙ sym size)
      (sym (leaves xs e h) ∙ leaves ys f k))
    where
      s : List F
      s = remainder_of o low (zeros o (length low) ++ p)

      size : length s ≡ length low
      size = length-remainder_of l low (zeros o (length low) ++ p)

      leaves : (zs : List F) → length zs ≡ length low → IsRemainder o low (appended p zs) r → r ≡ add o (reverse zs) s
      leaves zs d is =
          remainder_unique l low (appended p zs) r is
          ∙ ap (remainder_of o low) (appended-reverse p zs)
          ∙ remainder_of-below low (reverse zs) p (length-reverse zs ∙ d)

  -- where no element differs from its negative: the remainder after the target's coefficients makes
  -- the target the polynomial's remainder
  pub checksum_of_target : (low p target r : List F) → ((x : F) → o.neg x ≡ x) → length target ≡ length low
      → IsRemainder o low (appended p (reverse target)) r → IsRemainder o low (appended p (reverse r)) target
  checksum_of_target low p target r same e h =
      subst (IsRemainder o low (appended p (reverse r))) leaves (remainder_exists l low (appended p (reverse r)))
    where
      s : List F
      s = remainder_of o low (zeros o (length low) ++ p)

      below : (u : List F) → length u ≡ length low → remainder_of o low (appended p (reverse u)) ≡ add o u s
      below u d =
          ap (remainder_of o low) (appended-reverse p (reverse u) ∙ ap (λ v. v ++ p) (reverse-reverse u))
          ∙ remainder_of-below low u p d

      twice : (u : List F) → add o u u ≡ zeros o (length u)
      twice [] = refl
      twice (a ∷ u) = same_cons _ _ _ _ (ap (o.add a) (sym (same a)) ∙ l.add_neg a) (twice u)

      size : length s ≡ length low
      size = length-remainder_of l low (zeros o (length low) ++ p)

      leaves : remainder_of o low (appended p (reverse r)) ≡ target
      leaves =
          below r h.short
          ∙ ap (λ u. add o u s) (remainder_unique l low (appended p (reverse target)) r h ∙ below target e)
          ∙ add_assoc l target s s
          ∙ ap (add o target) (twice s ∙ ap (zeros o) (size ∙ sym e))
          ∙ add_comm l target (zeros o (length target))
          ∙ zeros-add l (length target) target refl
