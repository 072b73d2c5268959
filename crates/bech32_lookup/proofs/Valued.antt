-- Locations with the values that a checksum looks up for them.
use Rattle.std.proofs.Common.{◌≡◌, ◌<◌, ◌≤◌, ◌+◌, ℕ, zero, suc, List, [], ◌∷◌, ◌++◌, length, slice_set, replicate, true, ◌==◌, get_or-set_other, get_or-set_same, ap, sym, subst, ◌∙◌, refl, arith}
use Rattle.std.proofs.Math.Decide.{dec_lt}
use Rattle.std.specs.Prelude.{slice_index}
use Rattle.bech32_gf.specs.Fe32 as fe32
use Rattle.bech32_gf.specs.declared.gf32.Fe32.{Fe32}
use Rattle.bech32_gf.specs.laws.Fe32Laws.{eq_is_equal}
use Rattle.bech32_poly.specs.Polynomial.{coefficient}
use Rattle.bech32_checksum.specs.OneError.{IsLeftBy, valued}
use Rattle.bech32_checksum.specs.Packed.{tabulate}
use Rattle.bech32_checksum.proofs.DigitRows.{coefficient-below}
use Rattle.bech32_bch.specs.Pattern.{HasRemainder}
use Rattle.bech32_lookup.specs.Equations.{placed}

-- the first location apart
placed-first : {F : Type 0} (location : ℕ) (s : List ℕ) (value : ℕ → F) (n : ℕ) → placed (location ∷ s) value (suc n) ≡ (location, value 0) ∷ placed s (λ i. value (suc i)) n
placed-first location s value zero = refl
placed-first location s value (suc n) = ap (λ u. u ++ (slice_index s n, value (suc n)) ∷ []) (placed-first location s value n)

pub valued_placed : (s : List ℕ) (values : List Fe32) → valued s values ≡ placed s (coefficient fe32.ops values) (length s)
valued_placed [] values = refl
valued_placed (location ∷ s) [] = ap (λ u. (location, fe32.zero) ∷ u) (valued_placed s []) ∙ sym (placed-first location s (coefficient fe32.ops []) (length s))
valued_placed (location ∷ s) (value ∷ values) =
    ap (λ u. (location, value) ∷ u) (valued_placed s values) ∙ sym (placed-first location s (coefficient fe32.ops (value ∷ values)) (length s))

-- zeros alone
pub all_zero : (x : Fe32) → (x.value == 0) ≡ true → (n i : ℕ) → coefficient fe32.ops (replicate n x) i ≡ fe32.zero
all_zero x is zero i = refl
all_zero x is (suc n) zero = (eq_is_equal x fe32.zero).0 is
all_zero x is (suc n) (suc i) = all_zero x is n i

-- one more value put behind the first one
pub one_behind : (values found : List Fe32) (i : ℕ) (x : Fe32) → i + 1 < length values → x ≡ coefficient fe32.ops found i → ((n : ℕ) → n < i → coefficient fe32.ops values (suc n) ≡ coefficient fe32.ops found n)
    → (n : ℕ) → n < i + 1 → coefficient fe32.ops (slice_set values (i + 1) x) (suc n) ≡ coefficient fe32.ops found n
one_behind values found i x room is so_far n below = elim (dec_lt n i) [
  | yes less ↦ get_or-set_other values (i + 1) (suc n) x fe32.zero (λ e. omega (arith, e, less)) ∙ so_far n less
  | no more ↦ (
      let same : n ≡ i = omega arith in
      let on : suc n ≡ i + 1 = omega arith in
      ap (coefficient fe32.ops (slice_set values (i + 1) x)) on ∙ get_or-set_same values (i + 1) x fe32.zero room ∙ is ∙ ap (coefficient fe32.ops found) (sym same)
      )
]

pub zeros_behind : (values : List Fe32) (i : ℕ) (x : Fe32) → ((n : ℕ) → i ≤ n → coefficient fe32.ops values (suc n) ≡ fe32.zero)
    → (n : ℕ) → i + 1 ≤ n → coefficient fe32.ops (slice_set values (i + 1) x) (suc n) ≡ fe32.zero
zeros_behind values i x rest n past = get_or-set_other values (i + 1) (suc n) x fe32.zero (λ e. omega (arith, e, past)) ∙ rest n (omega arith)

-- values that stand behind a first one have the residue as remainder where they do so alone
pub left_behind : (g residue : List Fe32) (s : List ℕ) (found values : List Fe32) → ((i : ℕ) → coefficient fe32.ops values (suc i) ≡ coefficient fe32.ops found i)
    → IsLeftBy g residue (valued s found) → HasRemainder fe32.ops g residue (placed s (λ i. coefficient fe32.ops values (suc i)) (length s))
left_behind g residue s found values same left =
    subst (HasRemainder fe32.ops g residue) (valued_placed s found ∙ (λ k. placed s (λ i. sym (same i) k) (length s))) left

placed-same : {F : Type 0} (s : List ℕ) (h k : ℕ → F) (n : ℕ) → ((i : ℕ) → i < n → h i ≡ k i) → placed s h n ≡ placed s k n
placed-same s h k zero same = refl
placed-same s h k (suc n) same =
    ap (λ u. u ++ (slice_index s n, h n) ∷ []) (placed-same s h k n (λ i less. same i (omega arith)))
    ∙ ap (λ x. placed s k n ++ (slice_index s n, x) ∷ []) (same n (omega arith))

-- where no list of values leaves the residue, no values do
pub none_placed : (g residue : List Fe32) (s : List ℕ) → ((values : List Fe32) → IsLeftBy g residue (valued s values) → ⊥)
    → (value : ℕ → Fe32) → HasRemainder fe32.ops g residue (placed s value (length s)) → ⊥
none_placed g residue s none value h =
    none (tabulate (length s) value)
    (subst (HasRemainder fe32.ops g residue)
    (sym (valued_placed s (tabulate (length s) value)
    ∙ placed-same s (coefficient fe32.ops (tabulate (length s) value)) value (length s) (λ i less. coefficient-below (length s) value i less))) h)
