-- What is found directly: one error, or the values at the erasures.
use Rattle.std.specs.Prelude.{◌≡◌, ◌≢◌, ◌<◌, ℕ, suc, List, [], ◌∷◌, length, Option, MatchOption}
use Rattle.bech32_gf.specs.Fe32.{ops, zero}
use Rattle.bech32_gf.specs.declared.gf32.Fe32.{Fe32}
use Rattle.bech32_poly.specs.Polynomial.{coefficient}
use Rattle.bech32_bch.specs.Pattern.{HasRemainder, locations}
use Rattle.bech32_lookup.specs.Equations.{placed}

-- an error below the window that alone has the residue as remainder, or None where there is none
abbrev pub IsErrorBelow : List Fe32 → ℕ → List Fe32 → Option (ℕ × Fe32) → Type 0
IsErrorBelow generator window residue found = MatchOption found
    ((i : ℕ) (v : Fe32) → i < window → HasRemainder ops generator residue ((i, v) ∷ []) → ⊥)
    (λ error. (error.0 < window) × ((error.1 ≢ zero)
    × HasRemainder ops generator residue (error ∷ [])))

-- the values behind the first one, at these locations, have the residue as remainder
abbrev pub AreValuesAt : List Fe32 → List Fe32 → List ℕ → List Fe32 → Type 0
AreValuesAt generator residue locations values = HasRemainder ops generator residue
    (placed locations (λ i. coefficient ops values (suc i)) (length locations))

-- such values, or None where no values have
abbrev pub AreErasedValues : List Fe32 → List Fe32 → List ℕ → Option (List Fe32) → Type 0
AreErasedValues generator residue locations found = MatchOption found
    ((value : ℕ → Fe32)
    → HasRemainder ops generator residue (placed locations value (length locations)) → ⊥)
    (λ values. AreValuesAt generator residue locations values)

-- a listing of these locations that has the residue as remainder, or None where there is none
abbrev pub IsErasedListing : List Fe32 → List Fe32 → List ℕ → Option (List (ℕ × Fe32)) → Type 0
IsErasedListing generator residue given found = MatchOption found
    ((value : ℕ → Fe32)
    → HasRemainder ops generator residue (placed given value (length given)) → ⊥)
    (λ listing. (locations listing ≡ given) × HasRemainder ops generator residue listing)
