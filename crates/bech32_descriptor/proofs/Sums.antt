-- Sums of polynomials that differ in one coefficient.
use Rattle.std.proofs.Common.{◌≡◌, ℕ, zero, suc, List, [], ◌∷◌, length, sym, ap, ◌∙◌, refl}
use Rattle.bech32_gf.specs.Fe32 as fe32
use Rattle.bech32_gf.specs.Fe32.{ops}
use Rattle.bech32_gf.specs.declared.gf32.Fe32.{Fe32}
use Rattle.bech32_gf.specs.laws.Fe32Laws.{is_field}
use Rattle.bech32_poly.specs.Polynomial.{add, appended}
use Rattle.bech32_descriptor.specs.Walks.{times_power_of_x}

pub raised-zero : (n : ℕ) (p : List Fe32) → fe32.zero ∷ times_power_of_x n p ≡ times_power_of_x n (fe32.zero ∷ p)
raised-zero zero p = refl
raised-zero (suc n) p = ap (λ (u : List Fe32). fe32.zero ∷ u) (raised-zero n p)

-- what stands above is added
added_above : (behind p q : List Fe32) → add ops (appended p behind) (times_power_of_x (length behind) q) ≡ appended (add ops p q) behind
added_above [] p q = refl
added_above (b ∷ behind) p q =
    ap (add ops (appended (b ∷ p) behind)) (raised-zero (length behind) q)
    ∙ added_above behind (b ∷ p) (fe32.zero ∷ q)
    ∙ ap (λ (x : Fe32). appended (x ∷ add ops p q) behind) (is_field.add_zero b)

add-nothing : (p : List Fe32) → add ops p [] ≡ p
add-nothing [] = refl
add-nothing (x ∷ p) = refl

-- the sum of an element and a sum with it is the other
twice : (x y : Fe32) → fe32.add x (fe32.add y x) ≡ y
twice x y =
    ap (fe32.add x) (is_field.add_comm y x) ∙ sym (is_field.add_assoc x x y)
    ∙ ap (λ (z : Fe32). fe32.add z y) (is_field.add_neg x)
    ∙ is_field.add_comm fe32.zero y ∙ is_field.add_zero y

-- the coefficient of one element is that of another
pub changed_one : (p behind : List Fe32) (x y : Fe32)
    → add ops (appended (x ∷ p) behind) (times_power_of_x (length behind) (fe32.add y x ∷ [])) ≡ appended (y ∷ p) behind
changed_one p behind x y =
    added_above behind (x ∷ p) (fe32.add y x ∷ [])
    ∙ (λ i. appended (twice x y i ∷ add-nothing p i) behind)
