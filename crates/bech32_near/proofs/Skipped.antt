-- Where no error has the sketch that is left, no listing has the highest error.
use lib.Bits.{xor_assoc, xor_comm, xor_self, xor_zero_l, xor_zero_r}
use Rattle.std.specs.Prelude.{bit_xor, cond, ◌==◌, ◌≢◌, Bool, true, false}
use Rattle.std.specs.List.{AllByRecursion}
use Rattle.std.proofs.Common.{◌≡◌, ℕ, ◌<◌, ◌≤◌, List, [], ◌∷◌, ◌++◌, length, ◌⊎◌, inl, inr, sym, ap, subst, ◌∙◌, refl, arith}
use Rattle.bech32_gf.specs.Fe32 as fe32
use Rattle.bech32_gf.specs.Fe32.{ops}
use Rattle.bech32_gf.specs.declared.gf32.Fe32.{Fe32}
use Rattle.bech32_poly.specs.Distinct.{IsAmong}
use Rattle.bech32_poly.specs.Pattern.{pattern_polynomial}
use Rattle.bech32_bch.specs.Pattern.{locations}
use Rattle.bech32_near.specs.search.Sketch.{AreForgotten, sketch, sketch_at}
use Rattle.bech32_near.specs.search.Steps.{HasHighest, IsOtherError, IsGathered, with_highest}
use Rattle.bech32_near.proofs.SketchSums.{left, left-cons, left-is, left-none}

module _ (rows : List (ℕ × ℕ)) (size : ℕ) (g : List Fe32) (s : List ℕ) (forgets : AreForgotten rows size g s) where
  abbrev key : ℕ × Fe32 → ℕ
  key x = sketch_at rows size g x.0 x.1

  abbrev left_of : List (ℕ × Fe32) → ℕ
  left_of e = left rows size g (pattern_polynomial ops e)

  single : (x : ℕ × Fe32) → left_of (x ∷ []) ≡ key x
  single x = left-cons rows size g x [] ∙ ap (bit_xor (key x)) (left-none rows size g) ∙ xor_zero_r (key x)

  pair : (x y : ℕ × Fe32) → left_of (x ∷ y ∷ []) ≡ bit_xor (key x) (key y)
  pair x y = left-cons rows size g x (y ∷ []) ∙ ap (bit_xor (key x)) (single y)

  -- what stands at erasures is forgotten
  forgotten : (given e : List (ℕ × Fe32)) → ((location : ℕ) → IsAmong location (locations given) → IsAmong location s) → left_of (given ++ e) ≡ left_of e
  forgotten [] e all = refl
  forgotten (p ∷ given) e all =
      left-cons rows size g p (given ++ e)
      ∙ ap (λ u. bit_xor u (left_of (given ++ e))) (forgets p.0 (all p.0 (inl refl)) p.1)
      ∙ xor_zero_l (left_of (given ++ e))
      ∙ forgotten given e (λ location h. all location (inr h))

  of_listing : (residue : List Fe32) (x : ℕ × Fe32) (others : ℕ) (items : List (ℕ × Fe32)) (h : HasHighest ops g residue s x others items)
      → sketch rows size residue ≡ left_of (with_highest x h.rest)
  of_listing residue x others items h =
      left-is rows size g (pattern_polynomial ops items) h.remainder.0 residue h.remainder.1 h.remainder.2
      ∙ ap (λ (e : List (ℕ × Fe32)). left_of e) h.parts
      ∙ forgotten h.given (with_highest x h.rest) (λ location k. subst (λ (t : List ℕ). IsAmong location t) h.placed k)

  -- without errors nothing is left of the residue
  pub bare : (residue : List Fe32) (items : List (ℕ × Fe32)) → IsGathered ops g residue s 0 0 items → sketch rows size residue ≡ 0
  bare residue items h =
      left-is rows size g (pattern_polynomial ops items) h.remainder.0 residue h.remainder.1 h.remainder.2
      ∙ ap (λ (e : List (ℕ × Fe32)). left_of e) h.parts
      ∙ forgotten h.given h.errors (λ location k. subst (λ (t : List ℕ). IsAmong location t) h.placed k)
      ∙ nothing h.errors h.few
    where
      nothing : (errors : List (ℕ × Fe32)) → length errors ≤ 0 → left_of errors ≡ 0
      nothing [] few = left-none rows size g
      nothing (p ∷ errors) few = absurd (omega (arith, few))

  -- without another error, the error's sketch is that of the residue
  pub alone : (residue : List Fe32) (x : ℕ × Fe32) (items : List (ℕ × Fe32)) → HasHighest ops g residue s x 0 items → sketch rows size residue ≡ key x
  alone residue x items h = of_listing residue x 0 items h ∙ bare h.rest h.few
    where
      bare : (rest : List (ℕ × Fe32)) → length rest ≤ 0 → left_of (with_highest x rest) ≡ key x
      bare [] few = single x
      bare (p ∷ rest) few = absurd (omega (arith, few))

  either_way : (x y : ℕ × Fe32) (b : Bool) → left_of (cond b (y ∷ x ∷ []) (x ∷ y ∷ [])) ≡ bit_xor (key x) (key y)
  either_way x y true = pair y x ∙ xor_comm (key y) (key x)
  either_way x y false = pair x y

  -- an error below x, whose sketch is the number
  pub record IsPartner (x : ℕ × Fe32) (number : ℕ) : Type 0 where
    pub error : ℕ × Fe32
    pub below : error.0 < x.0
    pub not_zero : error.1 ≢ fe32.zero
    pub same : key error ≡ number

  rest_of : (a b c : ℕ) → a ≡ bit_xor b c → c ≡ bit_xor a b
  rest_of a b c e =
      sym (xor_zero_l c) ∙ ap (λ u. bit_xor u c) (sym (xor_self b)) ∙ xor_assoc b b c
      ∙ xor_comm b (bit_xor b c) ∙ ap (λ u. bit_xor u b) (sym e)

  -- with at most one other, nothing is left, or what another error below it leaves
  pub with_other : (residue : List Fe32) (x : ℕ × Fe32) (items : List (ℕ × Fe32)) → HasHighest ops g residue s x 1 items
      → (bit_xor (sketch rows size residue) (key x) ≡ 0) ⊎ IsPartner x (bit_xor (sketch rows size residue) (key x))
  with_other residue x items h = by_rest h.rest h.each h.few (of_listing residue x 1 items h)
    where
      by_rest : (rest : List (ℕ × Fe32)) → AllByRecursion (IsOtherError ops s x.0) rest → length rest ≤ 1 → sketch rows size residue ≡ left_of (with_highest x rest)
          → (bit_xor (sketch rows size residue) (key x) ≡ 0) ⊎ IsPartner x (bit_xor (sketch rows size residue) (key x))
      by_rest [] each few e = inl (ap (λ u. bit_xor u (key x)) (e ∙ single x) ∙ xor_self (key x))
      by_rest (y ∷ []) each few e = inr (record {
        error = y;
        below = each.0.below;
        not_zero = each.0.not_zero;
        same = rest_of (sketch rows size residue) (key x) (key y) (e ∙ either_way x y (y.0 == 0));
      })
      by_rest (y ∷ z ∷ rest) each few e = absurd (omega (arith, few))
