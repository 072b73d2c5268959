-- The polynomial that screens a residue.
use Rattle.std.proofs.Common.{◌≡◌, ℕ, zero, suc, List, [], ◌∷◌, length, sym, ap, ◌∙◌, refl, arith}
use Rattle.bech32_gf.specs.Field.{Ops, IsField}
use Rattle.bech32_gf.specs.laws.Ring.{ring}
use Rattle.bech32_poly.specs.Division.{push, remainder_of, step, top}
use Rattle.bech32_poly.specs.Pattern.{monomial}
use Rattle.bech32_poly.specs.Polynomial.{add, coefficient, scale}
use Rattle.bech32_poly.proofs.Lists.{coefficient-add, coefficient-scale, same_cons}
use Rattle.bech32_poly.proofs.Remainder.{length-remainder_of, remainder_of-add, remainder_of-scale}

-- a polynomial times a power of x
abbrev pub shifted : {F : Type 0} → Ops F → ℕ → List F → List F
shifted f zero p = p
shifted f (suc i) p = f.zero ∷ shifted f i p

module _ {F : Type 0} {f : Ops F} (fl : IsField f) where
  first_part : (a b : F) → a ≡ f.add (f.mul a f.one) (f.mul b f.zero)
  first_part a b = simp (ring, fl)

  no_part : (a b : F) → f.zero ≡ f.add (f.mul a f.zero) (f.mul b f.zero)
  no_part a b = simp (ring, fl)

  in_parts : (i : ℕ) (a b : F) → shifted f i (a ∷ b ∷ []) ≡ add f (scale f a (monomial f i f.one)) (scale f b (monomial f (suc i) f.one))
  in_parts zero a b = same_cons _ _ _ _ (first_part a b) (ap (λ x. x ∷ []) (sym (fl.mul_one b)))
  in_parts (suc i) a b = same_cons _ _ _ _ (no_part a b) (in_parts i a b)

  top_is : (a : F) (p : List F) (n : ℕ) → suc n ≡ length p → top a p ≡ coefficient f p n
  top_is a [] n e = absurd (omega arith)
  top_is a (b ∷ []) zero e = refl
  top_is a (b ∷ []) (suc n) e = absurd (omega arith)
  top_is a (b ∷ c ∷ p) zero e = absurd (omega arith)
  top_is a (b ∷ c ∷ p) (suc n) e = top_is b (c ∷ p) n (omega arith)

  push_first : (p : List F) → coefficient f (push f.zero p) 0 ≡ f.zero
  push_first [] = refl
  push_first (b ∷ p) = refl

  nothing_and : (a t c : F) → a ≡ f.zero → f.add a (f.mul t c) ≡ f.mul t c
  nothing_and a t c e = rw e (simp (ring, fl))

  -- the constant term after one more power of x
  stepped : (g p : List F) → coefficient f (step f g p f.zero) 0 ≡ f.mul (f.neg (top f.zero p)) (coefficient f g 0)
  stepped g p =
      coefficient-add fl (push f.zero p) (scale f (f.neg (top f.zero p)) g) 0
      ∙ ap (f.add (coefficient f (push f.zero p) 0)) (coefficient-scale fl (f.neg (top f.zero p)) g 0)
      ∙ nothing_and _ _ _ (push_first p)

  moved : (c v t x : F) → f.mul (f.mul c (f.mul v t)) x ≡ f.mul (f.mul v x) (f.mul t c)
  moved c v t x = simp (ring, fl)

  module _ (same : (x : F) → f.neg x ≡ x) where
    cancelled : (x y : F) → x ≡ y → f.add x y ≡ f.zero
    cancelled x y e = ap (f.add x) (sym e ∙ sym (same x)) ∙ fl.add_neg x

    -- the product with the power of x that has the residue as remainder, but for a factor, is zero there
    pub screened : (g residue : List F) (n i : ℕ) (v : F) → suc n ≡ length g → ((m : ℕ) → f.mul v (coefficient f (remainder_of f g (monomial f i f.one)) m) ≡ coefficient f residue m)
        → coefficient f (remainder_of f g (shifted f i (f.mul (coefficient f g 0) (coefficient f residue n) ∷ coefficient f residue 0 ∷ []))) 0 ≡ f.zero
    screened g residue n i v size h =
        ap (λ u. coefficient f (remainder_of f g u) 0) (in_parts i a b)
        ∙ ap (λ u. coefficient f u 0) (remainder_of-add fl g (scale f a (monomial f i f.one)) (scale f b (monomial f (suc i) f.one)))
        ∙ coefficient-add fl (remainder_of f g (scale f a (monomial f i f.one))) (remainder_of f g (scale f b (monomial f (suc i) f.one))) 0
        ∙ cancelled _ _ (one_side ∙ sym other_side)
      where
        a : F
        a = f.mul (coefficient f g 0) (coefficient f residue n)

        b : F
        b = coefficient f residue 0

        p : List F
        p = remainder_of f g (monomial f i f.one)

        top_of : top f.zero (remainder_of f g (monomial f i f.one)) ≡ coefficient f (remainder_of f g (monomial f i f.one)) n
        top_of = top_is f.zero (remainder_of f g (monomial f i f.one)) n (size ∙ sym (length-remainder_of fl g (monomial f i f.one)))

        one_side : coefficient f (remainder_of f g (scale f a (monomial f i f.one))) 0 ≡ f.mul (f.mul (coefficient f g 0) (f.mul v (coefficient f p n))) (coefficient f p 0)
        one_side =
            ap (λ u. coefficient f u 0) (remainder_of-scale fl g a (monomial f i f.one)) ∙ coefficient-scale fl a p 0
            ∙ ap (λ x. f.mul (f.mul (coefficient f g 0) x) (coefficient f p 0)) (sym (h n))

        other_side : coefficient f (remainder_of f g (scale f b (monomial f (suc i) f.one))) 0 ≡ f.mul (f.mul (coefficient f g 0) (f.mul v (coefficient f p n))) (coefficient f p 0)
        other_side =
            ap (λ u. coefficient f u 0) (remainder_of-scale fl g b (monomial f (suc i) f.one)) ∙ coefficient-scale fl b (remainder_of f g (monomial f (suc i) f.one)) 0
            ∙ ap (f.mul b) (stepped g p ∙ ap (λ x. f.mul x (coefficient f g 0)) (same (top f.zero p) ∙ top_of))
            ∙ ap (λ x. f.mul x (f.mul (coefficient f p n) (coefficient f g 0))) (sym (h 0))
            ∙ sym (moved (coefficient f g 0) v (coefficient f p n) (coefficient f p 0))
