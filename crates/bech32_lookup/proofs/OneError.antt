-- Patterns of one error, and the row of the location's power of x.
use Rattle.std.specs.Prelude.{◌≢◌, ◌==◌, Bool, true, false, not}
use Rattle.std.proofs.Common.{◌≡◌, ◌↔◌, ◌<◌, ◌≤◌, ◌*◌, ◌^◌, ◌-◌, ℕ, zero, suc, List, [], ◌∷◌, length, sym, ap, subst, ◌∙◌, refl, arith}
use Rattle.bech32_gf.specs.Field.{Ops, IsField}
use Rattle.bech32_gf.specs.Fe32 as fe32
use Rattle.bech32_gf.specs.declared.gf32.Fe32.{Fe32}
use Rattle.bech32_gf.specs.laws.Fe32Laws.{eq_is_equal, is_field}
use Rattle.bech32_gf.specs.laws.Ring.{mul_zero}
use Rattle.bech32_poly.specs.Division.{remainder_of}
use Rattle.bech32_poly.specs.Pattern.{monomial, pattern_polynomial}
use Rattle.bech32_poly.specs.Polynomial.{IsSamePolynomial, coefficient, scale}
use Rattle.bech32_poly.specs.Remainder.{IsRemainder}
use Rattle.bech32_poly.proofs.Lists.{coefficient-scale, coefficient-zeros, same_cons}
use Rattle.bech32_poly.proofs.Remainder.{remainder_exists, remainder_of-scale, remainder_unique}
use Rattle.bech32_checksum.specs.OneError.{IsOnlyError, IsSingle}
use Rattle.bech32_checksum.specs.Packed.{digit_of, digits}
use Rattle.bech32_checksum.specs.declared.lookups.Lookup.{Lookup}
use Rattle.bech32_checksum.specs.declared.lookups.Lookup.TheVariants.{Absent}
use Rattle.bech32_checksum.proofs.DigitRows.{coefficient-digits}
use Rattle.bech32_bch.specs.Pattern.{HasRemainder, Solves}
use Rattle.bech32_lookup.specs.Multiple.{IsMultiple, screen}
use Rattle.bech32_lookup.proofs.Screen.{screened, shifted}

module _ {F : Type 0} {f : Ops F} (fl : IsField f) where
  monomial-scale : (i : ℕ) (v : F) → monomial f i v ≡ scale f v (monomial f i f.one)
  monomial-scale zero v = ap (λ x. x ∷ []) (sym (fl.mul_one v))
  monomial-scale (suc i) v = same_cons _ _ _ _ (sym (mul_zero fl v)) (monomial-scale i v)

  one_item : (i : ℕ) (v : F) → pattern_polynomial f ((i, v) ∷ []) ≡ monomial f i v
  one_item zero v = refl
  one_item (suc i) v = refl

  -- the remainder of one error is its value times that of the power of x
  pub remainder_of-single : (g : List F) (i : ℕ) (v : F) (row : List F) → IsRemainder f g (monomial f i f.one) row → remainder_of f g (pattern_polynomial f ((i, v) ∷ [])) ≡ scale f v row
  remainder_of-single g i v row is =
      ap (remainder_of f g) (one_item i v ∙ monomial-scale i v) ∙ remainder_of-scale fl g v (monomial f i f.one) ∙ ap (scale f v) (sym (remainder_unique fl g (monomial f i f.one) row is))

-- an error has the residue as remainder where the residue is the row times its value
pub single : (g residue : List Fe32) (i : ℕ) (v : Fe32) (degree number : ℕ) → length g ≡ degree → number < 2 ^ (5 * degree)
    → IsRemainder fe32.ops g (monomial fe32.ops i fe32.one) (digits (length g) number)
    → IsMultiple number residue v ↔ HasRemainder fe32.ops g residue ((i, v) ∷ [])
single g residue i v degree number size clear is = (
  λ h. (
    scale fe32.ops v row,
    subst (IsRemainder fe32.ops g (pattern_polynomial fe32.ops ((i, v) ∷ []))) whole (remainder_exists is_field g (pattern_polynomial fe32.ops ((i, v) ∷ []))),
    λ n. coefficient_is n ∙ h n,
  ),
  λ r n. sym (coefficient_is n) ∙ ap (λ u. coefficient fe32.ops u n) (sym whole ∙ sym (remainder_unique is_field g (pattern_polynomial fe32.ops ((i, v) ∷ [])) r.0 r.1)) ∙ r.2 n,
)
  where
    row : List Fe32
    row = digits (length g) number

    whole : remainder_of fe32.ops g (pattern_polynomial fe32.ops ((i, v) ∷ [])) ≡ scale fe32.ops v (digits (length g) number)
    whole = remainder_of-single is_field g i v (digits (length g) number) is

    coefficient_is : (n : ℕ) → coefficient fe32.ops (scale fe32.ops v (digits (length g) number)) n ≡ fe32.mul v (digit_of number n)
    coefficient_is n = coefficient-scale is_field v (digits (length g) number) n ∙ ap (fe32.mul v) (coefficient-digits (length g) number n (subst (λ d. number < 2 ^ (5 * d)) (sym size) clear))

-- the screen is zero at place 0 where the residue is the row times an element
pub screened_digit : (g residue : List Fe32) (degree i : ℕ) (v : Fe32) (number screening : ℕ) → length g ≡ degree → 0 < length g
    → number < 2 ^ (5 * degree) → screening < 2 ^ (5 * degree)
    → IsRemainder fe32.ops g (monomial fe32.ops i fe32.one) (digits (length g) number)
    → IsRemainder fe32.ops g (shifted fe32.ops i (screen g residue)) (digits (length g) screening)
    → IsMultiple number residue v → digit_of screening 0 ≡ fe32.zero
screened_digit g residue degree i v number screening size some clear clear' is is' h =
    sym (coefficient-digits (length g) screening 0 (subst (λ d. screening < 2 ^ (5 * d)) (sym size) clear'))
    ∙ ap (λ u. coefficient fe32.ops u 0) (remainder_unique is_field g (shifted fe32.ops i (screen g residue)) (digits (length g) screening) is')
    ∙ screened is_field (λ x. refl) g residue (length g - 1) i v (omega arith) (λ m.
    ap (fe32.mul v) (ap (λ u. coefficient fe32.ops u m) (sym (remainder_unique is_field g (monomial fe32.ops i fe32.one) (digits (length g) number) is))
    ∙ coefficient-digits (length g) number m (subst (λ d. number < 2 ^ (5 * d)) (sym size) clear)) ∙ h m)

-- nothing has a residue that is not zero as remainder
not_nothing : (g residue : List Fe32) → (IsSamePolynomial fe32.ops residue [] → ⊥) → HasRemainder fe32.ops g residue [] → ⊥
not_nothing g residue some r =
    some (λ n. sym (r.2 n) ∙ ap (λ u. coefficient fe32.ops u n) (remainder_unique is_field g [] r.0 r.1) ∙ coefficient-zeros is_field (length g) n)

-- where no single error has the residue as remainder, no pattern within the bound does
pub no_pattern : (g residue : List Fe32) (window bound : ℕ) → bound ≤ 3 → (IsSamePolynomial fe32.ops residue [] → ⊥)
    → ((i : ℕ) (v : Fe32) → i < window → HasRemainder fe32.ops g residue ((i, v) ∷ []) → ⊥)
    → (e : List (ℕ × Fe32)) → Solves fe32.ops g residue [] window bound e → ⊥
no_pattern g residue window bound few some none [] h = not_nothing g residue some h.remainder
no_pattern g residue window bound few some none (p ∷ []) h = none p.0 p.1 h.pattern.below.0 h.remainder
no_pattern g residue window bound few some none (p ∷ q ∷ e) h = omega (arith, few, h.few)

-- the only single error below a limit tells of those below a window
pub none_below : (g residue : List Fe32) (limit window : ℕ) (found : Lookup (ℕ × Fe32)) → window ≤ limit → IsSingle g limit residue found → found ≡ Absent
    → (i : ℕ) (v : Fe32) → i < window → HasRemainder fe32.ops g residue ((i, v) ∷ []) → ⊥
none_below g residue limit window found within only is i v below = (subst (IsSingle g limit residue) is only) i v (omega (arith, below, within))

pub none_before : (g residue : List Fe32) (limit window : ℕ) (error : ℕ × Fe32) → window ≤ limit → IsOnlyError g limit residue error → window ≤ error.0
    → (i : ℕ) (v : Fe32) → i < window → HasRemainder fe32.ops g residue ((i, v) ∷ []) → ⊥
none_before g residue limit window error within only past i v below left =
    let same : i ≡ error.0 = only.only i v (omega (arith, below, within)) left in
    omega (arith, same, below, past)

-- the empty pattern has a residue of zeros as remainder
pub nothing_left : (g residue : List Fe32) → ((n : ℕ) → coefficient fe32.ops residue n ≡ fe32.zero) → HasRemainder fe32.ops g residue []
nothing_left g residue h = (remainder_of fe32.ops g [], remainder_exists is_field g [], λ n. coefficient-zeros is_field (length g) n ∙ sym (h n))

module _ {F : Type 0} {f : Ops F} (fl : IsField f) where
  -- the factor is the quotient at a place where the row is not zero
  pub quotient : (v here a : F) → here ≢ f.zero → f.mul v here ≡ a → f.mul a (f.inv here) ≡ v
  quotient v here a n e = ap (λ x. f.mul x (f.inv here)) (sym e) ∙ fl.mul_assoc v here (f.inv here) ∙ ap (f.mul v) (fl.mul_inv here n) ∙ fl.mul_one v

  pub not_zero : (v here a : F) → a ≢ f.zero → f.mul v here ≡ a → v ≢ f.zero
  not_zero v here a n e z = n (sym e ∙ ap (λ x. f.mul x here) z ∙ fl.mul_comm f.zero here ∙ mul_zero fl here)

  pub not_zero_there : (v here a : F) → a ≢ f.zero → f.mul v here ≡ a → here ≢ f.zero
  not_zero_there v here a n e z = n (sym e ∙ ap (f.mul v) z ∙ mul_zero fl v)

-- what the tests of the code say
pub zero_by_eq : (x : Fe32) (b : Bool) → b ≡ (x.value == 0) → b ≡ true → x ≡ fe32.zero
zero_by_eq x b is on = (eq_is_equal x fe32.zero).0 (sym is ∙ on)

pub not_zero_by_eq : (x : Fe32) (b : Bool) → b ≡ (x.value == 0) → b ≡ false → x ≢ fe32.zero
not_zero_by_eq x b is off z = let e : true ≡ false = sym ((eq_is_equal x fe32.zero).1 z) ∙ sym is ∙ off in cc e

pub not_zero_by_ne : (x : Fe32) (b : Bool) → b ≡ not (x.value == 0) → b ≡ true → x ≢ fe32.zero
not_zero_by_ne x b is on z = let e : false ≡ true = ap not (sym ((eq_is_equal x fe32.zero).1 z)) ∙ sym is ∙ on in cc e

-- a list has no coefficients past its end
pub behind : (p : List Fe32) (n : ℕ) → length p ≤ n → coefficient fe32.ops p n ≡ fe32.zero
behind [] n h = refl
behind (a ∷ p) zero h = absurd (omega arith)
behind (a ∷ p) (suc n) h = behind p n (omega arith)

pub empty : (s : List ℕ) → length s ≡ 0 → s ≡ []
empty [] e = refl
empty (x ∷ s) e = absurd (omega arith)
