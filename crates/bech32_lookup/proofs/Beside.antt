-- One erasure, and at most one error beside it.
use Rattle.std.specs.Prelude.{◌≢◌, ◌==◌, Bool, true, false, cond}
use Rattle.std.specs.List.{AllByRecursion}
use Rattle.std.proofs.Common.{◌≡◌, ◌<◌, ◌≤◌, ◌+◌, ◌*◌, ◌⊎◌, inl, inr, ℕ, suc, List, [], ◌∷◌, ap, sym, ◌∙◌, refl, arith}
use Rattle.std.proofs.lemmas.Bool.Decides.{eqb_tells}
use Rattle.bech32_gf.specs.Fe32 as fe32
use Rattle.bech32_gf.specs.declared.gf32.Fe32.{Fe32}
use Rattle.bech32_gf.specs.laws.Fe32Laws.{is_field}
use Rattle.bech32_poly.specs.Distinct.{IsAmong}
use Rattle.bech32_poly.specs.Pattern.{value_of_pattern_at}
use Rattle.bech32_poly.specs.Polynomial.{coefficient}
use Rattle.bech32_poly.proofs.PatternSums.{remainder_of-pattern}
use Rattle.bech32_checksum.specs.OneError.{valued}
use Rattle.bech32_bch.specs.Erasures.{AreErasures, has}
use Rattle.bech32_bch.specs.Pattern.{HasRemainder, Solves, errors_outside}
use Rattle.bech32_bch.specs.Search.{IsCandidate}
use Rattle.bech32_bch.proofs.Loops.{has-true}
use Rattle.bech32_lookup.proofs.ErasedPatterns.{either, erased_listing, inside_of, same_value}
use Rattle.bech32_lookup.proofs.Remainders.{left_over, remainder_left}

pub one_valued : (x : ℕ) (values : List Fe32) → valued (x ∷ []) values ≡ (x, coefficient fe32.ops values 0) ∷ []
one_valued x [] = refl
one_valued x (v ∷ values) = refl

-- ---- what is listed

pub one_erasure : (x w : ℕ) → x < w → AreErasures w (x ∷ [])
one_erasure x w below = record { once = (tt, tt); below = (below, tt) }

pub alone_listed : (w bound x : ℕ) (v : Fe32) → bound ≡ 3 → IsCandidate fe32.ops w (x ∷ []) bound ((x, v) ∷ [])
alone_listed w bound x v three = erased_listing fe32.ops w bound (x ∷ []) ((x, v) ∷ []) refl (omega (arith, three))

pub beside_listed : (w bound x : ℕ) (v : Fe32) (p : ℕ × Fe32) → bound ≡ 3 → p.0 < w → p.0 ≢ x → p.1 ≢ fe32.zero → IsCandidate fe32.ops w (x ∷ []) bound ((x, v) ∷ p ∷ [])
beside_listed w bound x v p three within differ some = record {
  errors = p.0 ∷ [];
  are_errors = record {
    in_order = (tt, tt);
    below = (within, tt);
    outside = (λ h. elim h [ inl e ↦ differ e | inr n ↦ n ], tt);
    few = omega (arith, three);
  };
  placed = refl;
  values = (some, tt);
}

-- ---- patterns with at most one error outside the erasure

-- all locations are the erasure, or there is one other
abbrev IsBesideOnly : ℕ → ℕ → List (ℕ × Fe32) → Type 0
IsBesideOnly w x e =
    AllByRecursion (λ (p : ℕ × Fe32). IsAmong p.0 (x ∷ [])) e
    ⊎ ((i : ℕ) × (i < w) × (x ≢ i) × AllByRecursion (λ (p : ℕ × Fe32). IsAmong p.0 (x ∷ i ∷ [])) e)

wider : (x i : ℕ) (e : List (ℕ × Fe32)) → AllByRecursion (λ (p : ℕ × Fe32). IsAmong p.0 (x ∷ [])) e → AllByRecursion (λ (p : ℕ × Fe32). IsAmong p.0 (x ∷ i ∷ [])) e
wider x i [] all = tt
wider x i (p ∷ e) all = (elim all.0 [ inl h ↦ inl h | inr n ↦ absurd n ], wider x i e all.1)

apart : (x i : ℕ) → has (x ∷ []) i ≡ false → x ≢ i
apart x i not same = elim (eqb_tells i x) [
  | inl y ↦ (let no : true ≡ false = sym (ap (λ b. cond b true (has [] i)) y.0) ∙ not in cc no)
  | inr n ↦ n.1 (sym same)
]

beside_only : (w x : ℕ) (e : List (ℕ × Fe32)) → AllByRecursion (λ (p : ℕ × Fe32). p.0 < w) e → errors_outside (x ∷ []) e ≤ 1 → IsBesideOnly w x e
beside_only w x [] below few = inl tt
beside_only w x (p ∷ e) below few = elim (either (has (x ∷ []) p.0)) [
  | inl t ↦ (
      let here : IsAmong p.0 (x ∷ []) = has-true (x ∷ []) p.0 t in
      let size : errors_outside (x ∷ []) (p ∷ e) ≡ errors_outside (x ∷ []) e = ap (λ b. cond b (errors_outside (x ∷ []) e) (suc (errors_outside (x ∷ []) e))) t in
      elim (beside_only w x e below.1 (omega (arith, few, size))) [
        | inl all ↦ inl (here, all)
        | inr one ↦ inr (one.0, one.1, one.2, (elim here [ inl h ↦ inl h | inr n ↦ absurd n ], one.3))
      ]
      )
  | inr n ↦ (
      let size : errors_outside (x ∷ []) (p ∷ e) ≡ suc (errors_outside (x ∷ []) e) = ap (λ b. cond b (errors_outside (x ∷ []) e) (suc (errors_outside (x ∷ []) e))) n in
      let none : errors_outside (x ∷ []) e ≡ 0 = omega (arith, few, size) in
      inr (p.0, below.0, apart x p.0 n, (inr (inl refl), wider x p.0 e (inside_of (x ∷ []) e none)))
      )
]

-- patterns of the same values have the same remainder
moved : (g residue : List Fe32) (e e' : List (ℕ × Fe32)) → ((i : ℕ) → value_of_pattern_at fe32.ops e' i ≡ value_of_pattern_at fe32.ops e i)
    → HasRemainder fe32.ops g residue e → HasRemainder fe32.ops g residue e'
moved g residue e e' same h =
    left_over is_field g residue e' (λ i. ap (λ u. coefficient fe32.ops u i) (remainder_of-pattern is_field g e' e same) ∙ remainder_left is_field g residue e h i)

zero_or_zero : (b : Bool) → cond b fe32.zero fe32.zero ≡ fe32.zero
zero_or_zero true = refl
zero_or_zero false = refl

-- a value of zero more
zero_more : (x : ℕ) (v : Fe32) (i : ℕ) → value_of_pattern_at fe32.ops ((x, v) ∷ (x, fe32.zero) ∷ []) i ≡ value_of_pattern_at fe32.ops ((x, v) ∷ []) i
zero_more x v i =
    ap (λ u. fe32.add (cond (x == i) v fe32.zero) (fe32.add u fe32.zero)) (zero_or_zero (x == i))
    ∙ ap (fe32.add (cond (x == i) v fe32.zero)) (is_field.add_zero fe32.zero)

-- where no element at the erasure and none at another location have the residue as remainder, no pattern within the bound does
pub none_beside : (g residue : List Fe32) (w bound x : ℕ) → bound ≡ 3 → x < w
    → ((v : Fe32) (i : ℕ) (u : Fe32) → i < w → HasRemainder fe32.ops g residue ((x, v) ∷ (i, u) ∷ []) → ⊥)
    → (e : List (ℕ × Fe32)) → Solves fe32.ops g residue (x ∷ []) w bound e → ⊥
none_beside g residue w bound x three within none e h =
    let few : 2 * errors_outside (x ∷ []) e + 1 ≤ bound = h.few in
    let value : ℕ → Fe32 = value_of_pattern_at fe32.ops e in
    elim (beside_only w x e h.pattern.below (omega (arith, few, three))) [
      | inl all ↦ none (value_of_pattern_at fe32.ops e x) x fe32.zero within
          (moved g residue e ((x, value_of_pattern_at fe32.ops e x) ∷ (x, fe32.zero) ∷ [])
          (λ i. zero_more x (value_of_pattern_at fe32.ops e x) i ∙ same_value is_field (x ∷ []) e (tt, tt) all i) h.remainder)
      | inr one ↦ none (value_of_pattern_at fe32.ops e x) one.0 (value_of_pattern_at fe32.ops e one.0) one.1
          (moved g residue e ((x, value_of_pattern_at fe32.ops e x) ∷ (one.0, value_of_pattern_at fe32.ops e one.0) ∷ [])
          (λ i. same_value is_field (x ∷ one.0 ∷ []) e ((one.2, tt), (tt, tt)) one.3 i) h.remainder)
    ]
