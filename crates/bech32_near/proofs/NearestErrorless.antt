-- The listing without errors and without erasures.
use Rattle.std.specs.Prelude.{◌==◌, true}
use Rattle.std.specs.List.{AllByRecursion}
use Rattle.std.proofs.Common.{◌≡◌, ℕ, zero, suc, ◌≤◌, List, [], ◌∷◌, ◌++◌, length, sym, ap, subst, ◌∙◌, refl, arith}
use Rattle.std.proofs.lemmas.Bool.{eqb-true}
use Rattle.bech32_gf.specs.Fe32 as fe32
use Rattle.bech32_gf.specs.Fe32.{ops}
use Rattle.bech32_gf.specs.declared.gf32.Fe32.{Fe32}
use Rattle.bech32_gf.specs.laws.Fe32Laws.{is_field}
use Rattle.bech32_poly.specs.Division.{remainder_of}
use Rattle.bech32_poly.specs.Polynomial.{coefficient}
use Rattle.bech32_poly.proofs.Lists.{coefficient-zeros}
use Rattle.bech32_poly.proofs.Remainder.{remainder_exists, remainder_unique}
use Rattle.bech32_bch.specs.Pattern.{HasRemainder, locations}
use Rattle.bech32_near.specs.search.Nearest.{IsEarlier}
use Rattle.bech32_near.specs.search.Steps.{AreAdded, IsGathered}
use Rattle.bech32_near.proofs.NearestLists.{added_none, added_one}

-- no items
pub no_items : {A : Type 0} (xs : List A) → (length xs == 0) ≡ true → xs ≡ []
no_items [] e = refl
no_items (x ∷ xs) e = absurd (omega (arith, eqb-true (length (x ∷ xs)) 0 e))

abbrev AreZero : List Fe32 → Type 0
AreZero xs = AllByRecursion (λ (x : Fe32). x ≡ fe32.zero) xs

zero_at : (xs : List Fe32) → AreZero xs → (n : ℕ) → coefficient ops xs n ≡ fe32.zero
zero_at [] h n = refl
zero_at (x ∷ xs) h zero = h.0
zero_at (x ∷ xs) h (suc n) = zero_at xs h.1 n

each_zero : (xs : List Fe32) → ((n : ℕ) → coefficient ops xs n ≡ fe32.zero) → AreZero xs
each_zero [] h = tt
each_zero (x ∷ xs) h = (h 0, each_zero xs (λ n. h (suc n)))

-- it is listed exactly where the residue is zero
module _ (g residue : List Fe32) (old : List (List (ℕ × Fe32))) where
  nothing_left : AreZero residue → HasRemainder ops g residue []
  nothing_left h = (remainder_of ops g [], remainder_exists is_field g [], λ n. coefficient-zeros is_field (length g) n ∙ sym (zero_at residue h n))

  is_zero : HasRemainder ops g residue [] → AreZero residue
  is_zero (r, is, same) = each_zero residue (λ n.
      sym (same n) ∙ ap (λ (u : List Fe32). coefficient ops u n) (remainder_unique is_field g [] r is) ∙ coefficient-zeros is_field (length g) n)

  no_locations : (items : List (ℕ × Fe32)) → locations items ≡ [] → items ≡ []
  no_locations [] e = refl
  no_locations (p ∷ items) e = absurd (cc e)

  none_of : (items : List (ℕ × Fe32)) → length items ≤ 0 → items ≡ []
  none_of [] few = refl
  none_of (p ∷ items) few = absurd (omega (arith, few))

  only_empty : (items : List (ℕ × Fe32)) → IsGathered ops g residue [] 0 0 items → items ≡ []
  only_empty items k = k.parts ∙ ap (λ u. u ++ k.errors) (no_locations k.given k.placed) ∙ none_of k.errors k.few

  pub errorless_none : (AreZero residue → ⊥) → AreAdded (IsEarlier ops fe32.value []) (IsGathered ops g residue [] 0 0) old old
  errorless_none left = added_none (IsEarlier ops fe32.value []) (IsGathered ops g residue [] 0 0) old
      (λ items k. left (is_zero (subst (λ (u : List (ℕ × Fe32)). HasRemainder ops g residue u) (only_empty items k) k.remainder)))

  pub errorless_one : (new : List (List (ℕ × Fe32))) → new ≡ old ++ [] ∷ [] → AreZero residue → AreAdded (IsEarlier ops fe32.value []) (IsGathered ops g residue [] 0 0) old new
  errorless_one new pushed h = added_one (IsEarlier ops fe32.value []) (IsGathered ops g residue [] 0 0) old new [] pushed
      (record {
        given = [];
        errors = [];
        parts = refl;
        placed = refl;
        in_order = tt;
        each = tt;
        few = omega arith;
        remainder = nothing_left h;
      })
      only_empty
