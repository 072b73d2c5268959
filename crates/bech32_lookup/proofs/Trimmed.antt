-- A residue without the zeros behind its first coefficients.
use Rattle.std.specs.Prelude.{◌&&◌, ◌==◌, ◌↔◌, true, false, Bool}
use Rattle.std.proofs.Common.{◌≡◌, ◌<◌, ◌≤◌, ◌+◌, ℕ, List, [], ◌∷◌, subst, sym, ◌∙◌, refl, arith}
use Rattle.std.proofs.Math.Decide.{dec_lt}
use Rattle.bech32_gf.specs.Fe32.{ops, zero}
use Rattle.bech32_gf.specs.declared.gf32.Fe32.{Fe32}
use Rattle.bech32_gf.specs.laws.Fe32Laws.{eq_is_equal}
use Rattle.bech32_poly.specs.Polynomial.{IsSamePolynomial, coefficient}
use Rattle.bech32_checksum.specs.OneError.{IsLeftBy, IsSingle}
use Rattle.bech32_checksum.specs.declared.lookups.Lookup.{Lookup}
use Rattle.bech32_checksum.specs.declared.lookups.Lookup.TheVariants.{NoTable, Absent, Found}

both : (a b : Bool) → ((a && b) ≡ true) ↔ ((a ≡ true) × (b ≡ true))
both true b = (λ h. (refl, h), λ h. h.1)
both false b = (λ h. cc h, λ h. h.0)

-- what the test of an element says of its coefficient
pub zero_there : (p : List Fe32) (place : ℕ) (x : Fe32) (b : Bool) → b ≡ (x.value == 0) → coefficient ops p place ≡ x → (b ≡ true) ↔ (coefficient ops p place ≡ zero)
zero_there p place x b is read = (λ on. read ∙ (eq_is_equal x zero).0 (sym is ∙ on), λ none. is ∙ (eq_is_equal x zero).1 (sym read ∙ none))

-- one more coefficient is zero
pub zero_more : (p : List Fe32) (end place : ℕ) (before here : Bool) → end ≤ place
    → (here ≡ true) ↔ (coefficient ops p place ≡ zero)
    → (before ≡ true) ↔ ((n : ℕ) → end ≤ n → n < place → coefficient ops p n ≡ zero)
    → ((before && here) ≡ true) ↔ ((n : ℕ) → end ≤ n → n < place + 1 → coefficient ops p n ≡ zero)
zero_more p end place before here past is so_far = (
  λ h n from below. elim (dec_lt n place) [
    | yes less ↦ so_far.0 ((both before here).0 h).0 n from less
    | no more ↦ (let same : place ≡ n = omega arith in subst (λ k. coefficient ops p k ≡ zero) same (is.0 ((both before here).0 h).1))
  ],
  λ h. (both before here).1 (so_far.1 (λ n from less. h n from (omega arith)), is.1 (h place past (omega arith))),
)

-- errors that leave a polynomial leave it however many zeros stand behind it
pub left_of : (g p q : List Fe32) (errors : List (ℕ × Fe32)) → IsSamePolynomial ops p q → IsLeftBy g p errors → IsLeftBy g q errors
left_of g p q errors same left = (left.0, left.1, λ n. left.2 n ∙ same n)

pub single_of : (g p q : List Fe32) (limit : ℕ) (found : Lookup (ℕ × Fe32)) → IsSamePolynomial ops p q → IsSingle g limit p found → IsSingle g limit q found
single_of g p q limit NoTable same h = tt
single_of g p q limit Absent same h = λ i v below left. h i v below (left_of g q p ((i, v) ∷ []) (λ n. sym (same n)) left)
single_of g p q limit (Found error) same h = record {
  below = h.below;
  not_zero = h.not_zero;
  leaves = left_of g p q (error ∷ []) same h.leaves;
  only = λ i v below left. h.only i v below (left_of g q p ((i, v) ∷ []) (λ n. sym (same n)) left);
}
