-- Two and three erasures, and the values that a checksum looks up for them.
use Rattle.std.specs.Prelude.{◌≢◌, slice_index}
use Rattle.std.proofs.Common.{◌≡◌, ◌<◌, ℕ, List, [], ◌∷◌, length, ap, sym, subst, ◌∙◌, arith}
use Rattle.std.proofs.lemmas.List.{take_all}
use Rattle.bech32_gf.specs.Fe32 as fe32
use Rattle.bech32_gf.specs.declared.gf32.Fe32.{Fe32}
use Rattle.bech32_poly.specs.Polynomial.{coefficient}
use Rattle.bech32_checksum.specs.OneError.{IsLeftBy, valued}
use Rattle.bech32_bch.specs.Erasures.{AreErasures}
use Rattle.bech32_bch.specs.Pattern.{HasRemainder, locations}
use Rattle.bech32_lookup.specs.Equations.{placed}
use Rattle.bech32_lookup.proofs.ErasedPatterns.{locations-placed}
use Rattle.bech32_lookup.proofs.Valued.{valued_placed}

-- all locations of a list
all_placed : (s : List ℕ) (n : ℕ) → length s ≡ n → locations (placed s (λ i. i) n) ≡ s
all_placed s n size = locations-placed s (λ i. i) n (omega (arith, size)) ∙ take_all n s (omega (arith, size))

values_of : (g residue : List Fe32) (s : List ℕ) (values : List Fe32) (n : ℕ) → length s ≡ n → IsLeftBy g residue (valued s values)
    → HasRemainder fe32.ops g residue (placed s (coefficient fe32.ops values) n)
values_of g residue s values n size = subst (HasRemainder fe32.ops g residue) (valued_placed s values ∙ ap (placed s (coefficient fe32.ops values)) size)

-- ---- one

pub only_one : (s : List ℕ) → length s ≡ 1 → s ≡ slice_index s 0 ∷ []
only_one s size = sym (all_placed s 1 size)

-- ---- two

pub two_listed : (s : List ℕ) → length s ≡ 2 → slice_index s 0 ∷ slice_index s 1 ∷ [] ≡ s
two_listed s size = all_placed s 2 size

pub two_erased : (w : ℕ) (s : List ℕ) → length s ≡ 2 → slice_index s 0 < w → slice_index s 1 < w → slice_index s 0 ≢ slice_index s 1 → AreErasures w s
two_erased w s size one two differ = subst (AreErasures w) (two_listed s size) (record { once = ((differ, tt), (tt, tt)); below = (one, (two, tt)) })

pub two_left : (g residue : List Fe32) (s : List ℕ) (values : List Fe32) (x y : Fe32) → length s ≡ 2 → x ≡ coefficient fe32.ops values 0 → y ≡ coefficient fe32.ops values 1
    → IsLeftBy g residue (valued s values) → HasRemainder fe32.ops g residue ((slice_index s 0, x) ∷ (slice_index s 1, y) ∷ [])
two_left g residue s values x y size one two left =
    subst (HasRemainder fe32.ops g residue) (λ k. (slice_index s 0, sym one k) ∷ (slice_index s 1, sym two k) ∷ []) (values_of g residue s values 2 size left)

-- ---- three

pub three_listed : (s : List ℕ) → length s ≡ 3 → slice_index s 0 ∷ slice_index s 1 ∷ slice_index s 2 ∷ [] ≡ s
three_listed s size = all_placed s 3 size

pub three_erased : (w : ℕ) (s : List ℕ) → length s ≡ 3 → slice_index s 0 < w → slice_index s 1 < w → slice_index s 2 < w
    → slice_index s 0 ≢ slice_index s 1 → slice_index s 0 ≢ slice_index s 2 → slice_index s 1 ≢ slice_index s 2 → AreErasures w s
three_erased w s size one two three differ differ' differ'' =
    subst (AreErasures w) (three_listed s size) (record { once = ((differ, (differ', tt)), ((differ'', tt), (tt, tt))); below = (one, (two, (three, tt))) })

pub three_left : (g residue : List Fe32) (s : List ℕ) (values : List Fe32) (x y z : Fe32) → length s ≡ 3
    → x ≡ coefficient fe32.ops values 0 → y ≡ coefficient fe32.ops values 1 → z ≡ coefficient fe32.ops values 2
    → IsLeftBy g residue (valued s values) → HasRemainder fe32.ops g residue ((slice_index s 0, x) ∷ (slice_index s 1, y) ∷ (slice_index s 2, z) ∷ [])
three_left g residue s values x y z size one two three left =
    subst (HasRemainder fe32.ops g residue) (λ k. (slice_index s 0, sym one k) ∷ (slice_index s 1, sym two k) ∷ (slice_index s 2, sym three k) ∷ []) (values_of g residue s values 3 size left)
