-- Patterns, their polynomials and their sums of powers.
use Rattle.std.specs.Prelude.{◌==◌, cond, Bool, true, false}
use Rattle.std.proofs.Common.{◌≡◌, ℕ, zero, suc, ◌+◌, List, [], ◌∷◌, sym, ap, ◌∙◌, refl}
use Rattle.std.proofs.Math.Dec.{eqb-zero-suc, eqb-suc-zero, eqb-suc-suc}
use Rattle.bech32_gf.specs.Field.{Ops, IsField, power}
use Rattle.bech32_poly.specs.Polynomial.{coefficient}
use Rattle.bech32_poly.specs.Pattern.{value_of_pattern_at, monomial, pattern_polynomial, inside, power_sum}
use Rattle.bech32_poly.specs.Division.{remainder_of}
use Rattle.bech32_poly.proofs.Remainder.{remainder_of-same}
use Rattle.bech32_poly.proofs.Products.{coefficient-add}
use Rattle.bech32_poly.specs.Remainder.{monic}
use Rattle.bech32_poly.specs.Embedding.{value_in, Embeds}
use Rattle.bech32_gf.specs.laws.Ring.{ring}
use Rattle.bech32_poly.proofs.Zero.{power-swap}
use Rattle.bech32_gf.specs.laws.FieldLaws.{power-add}
use Rattle.bech32_poly.proofs.Embedding.{embed-zero, value_in-add, root_of_generator}

module _ {F : Type 0} {f : Ops F} (fl : IsField f) where
  pub coefficient-monomial : (j i : ℕ) (v : F) → coefficient f (monomial f j v) i ≡ cond (j == i) v f.zero
  coefficient-monomial zero zero v = refl
  coefficient-monomial zero (suc i) v = sym (ap (λ b. cond b v f.zero) (eqb-zero-suc i))
  coefficient-monomial (suc j) zero v = sym (ap (λ b. cond b v f.zero) (eqb-suc-zero j))
  coefficient-monomial (suc j) (suc i) v = coefficient-monomial j i v ∙ sym (ap (λ b. cond b v f.zero) (eqb-suc-suc j i))

  -- the coefficients of a pattern's polynomial are its values
  pub coefficient-pattern_polynomial : (e : List (ℕ × F)) (i : ℕ) → coefficient f (pattern_polynomial f e) i ≡ value_of_pattern_at f e i
  coefficient-pattern_polynomial [] i = refl
  coefficient-pattern_polynomial (p ∷ e) i =
      coefficient-add fl (monomial f p.0 p.1) (pattern_polynomial f e) i
      ∙ ap (λ u. f.add u (coefficient f (pattern_polynomial f e) i)) (coefficient-monomial p.0 i p.1)
      ∙ ap (f.add (cond (p.0 == i) p.1 f.zero)) (coefficient-pattern_polynomial e i)

  -- patterns with the same values have one remainder
  pub remainder_of-pattern : (g : List F) (e e' : List (ℕ × F)) → ((i : ℕ) → value_of_pattern_at f e i ≡ value_of_pattern_at f e' i) → remainder_of f g (pattern_polynomial f e) ≡ remainder_of f g (pattern_polynomial f e')
  remainder_of-pattern g e e' h = remainder_of-same fl g (pattern_polynomial f e) (pattern_polynomial f e') (λ i. coefficient-pattern_polynomial e i ∙ h i ∙ sym (coefficient-pattern_polynomial e' i))

module _ {F K : Type 0} {f : Ops F} {o : Ops K} (fl : IsField f) (l : IsField o) {embed : F → K} (into : Embeds f o embed) where
  first_place : (v x : K) → o.add v (o.mul x o.zero) ≡ o.mul v o.one
  first_place v x = simp (ring, l)

  next_place : (z v x pw w : K) → z ≡ o.zero → w ≡ o.mul v pw → o.add z (o.mul x w) ≡ o.mul v (o.mul x pw)
  next_place z v x pw w e k = rw (e, k) (simp (ring, l))

  pub value_in-monomial : (i : ℕ) (v : F) (x : K) → value_in o embed (monomial f i v) x ≡ o.mul (embed v) (power o x i)
  unfolding power
  value_in-monomial zero v x = first_place (embed v) x
  value_in-monomial (suc i) v x = next_place _ (embed v) x _ _ (embed-zero fl l into) (value_in-monomial i v x)

  weighed : (v c c' pw pw' : K) → pw ≡ pw' → c ≡ o.one → o.mul v pw ≡ o.mul (o.mul v c) pw'
  weighed v c c' pw pw' e k = rw (e, k) (simp (ring, l))

  -- the value at a power of the base is the sum of values times powers of the locators
  pub syndrome : (b : K) (e : List (ℕ × F)) (j : ℕ) → value_in o embed (pattern_polynomial f e) (power o b j) ≡ power_sum o (λ i. power o b i) (λ _. o.one) (inside embed e) j
  syndrome b [] j = refl
  syndrome b (p ∷ e) j =
      value_in-add fl l into (monomial f p.0 p.1) (pattern_polynomial f e) (power o b j)
      ∙ ap (λ u. o.add u (value_in o embed (pattern_polynomial f e) (power o b j))) (value_in-monomial p.0 p.1 (power o b j) ∙ weighed (embed p.1) o.one o.one _ _ (power-swap l b j p.0) refl)
      ∙ ap (o.add (o.mul (o.mul (embed p.1) o.one) (power o (power o b p.0) j))) (syndrome b e j)

  moved_weight : (v a b w x : K) → w ≡ x → o.add (o.mul (o.mul v o.one) (o.mul a b)) w ≡ o.add (o.mul (o.mul v a) b) x
  moved_weight v a b w x e = rw e (simp (ring, l))

  -- from exponent j on
  pub power_sum-from : (loc : ℕ → K) (e : List (ℕ × K)) (j t : ℕ) → power_sum o loc (λ _. o.one) e (j + t) ≡ power_sum o loc (λ m. power o (loc m) j) e t
  power_sum-from loc [] j t = refl
  power_sum-from loc (p ∷ e) j t =
      ap (λ u. o.add (o.mul (o.mul p.1 o.one) u) (power_sum o loc (λ _. o.one) e (j + t))) (power-add l (loc p.0) j t)
      ∙ moved_weight p.1 (power o (loc p.0) j) (power o (loc p.0) t) _ _ (power_sum-from loc e j t)

  cond_inside : (b : Bool) (v : F) → cond b (embed v) o.zero ≡ embed (cond b v f.zero)
  cond_inside true v = refl
  cond_inside false v = sym (embed-zero fl l into)

  pub value_of_pattern_at-inside : (e : List (ℕ × F)) (i : ℕ) → value_of_pattern_at o (inside embed e) i ≡ embed (value_of_pattern_at f e i)
  value_of_pattern_at-inside [] i = sym (embed-zero fl l into)
  value_of_pattern_at-inside (p ∷ e) i =
      ap (λ u. o.add u (value_of_pattern_at o (inside embed e) i)) (cond_inside (p.0 == i) p.1)
      ∙ ap (o.add (embed (cond (p.0 == i) p.1 f.zero))) (value_of_pattern_at-inside e i)
      ∙ sym (into.add (cond (p.0 == i) p.1 f.zero) (value_of_pattern_at f e i))

  -- the residue's value at a listed root is the pattern's syndrome
  pub residue_syndrome : (b : K) (g r : List F) (e : List (ℕ × F)) (start t : ℕ) → value_in o embed (monic f g) (power o b (start + t)) ≡ o.zero → remainder_of f g (pattern_polynomial f e) ≡ r →
      value_in o embed r (power o b (start + t)) ≡ power_sum o (λ i. power o b i) (λ m. power o (power o b m) start) (inside embed e) t
  residue_syndrome b g r e start t root is =
      ap (λ u. value_in o embed u (power o b (start + t))) (sym is)
      ∙ root_of_generator fl l into g (pattern_polynomial f e) (power o b (start + t)) root
      ∙ syndrome b e (start + t)
      ∙ power_sum-from (λ i. power o b i) (inside embed e) start t
