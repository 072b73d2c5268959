-- Linear equations: rows of coefficients, and the values by which they have to be multiplied for
-- their sum to be zero.
use Rattle.std.specs.Prelude.{◌≡◌, ◌≢◌, ◌<◌, ◌++◌, ◌⊎◌, ℕ, zero, suc, List, [], ◌∷◌}
use Rattle.std.specs.Prelude.{slice_index, slice_index_or}
use Rattle.bech32_gf.specs.Fe32.{ops}
use Rattle.bech32_gf.specs.declared.gf32.Fe32.{Fe32}
use Rattle.bech32_gf.specs.Field.{Ops}
use Rattle.bech32_poly.specs.Polynomial.{coefficient}
use Rattle.bech32_lookup.specs.declared.erased.Row.{Row}

-- the sum of the first n terms, each times its value
abbrev pub weighted : {F : Type 0} → Ops F → (ℕ → F) → (ℕ → F) → ℕ → F
weighted field value term zero = field.zero
weighted field value term (suc n) =
    field.add (weighted field value term n) (field.mul (value n) (term n))

-- the sum of this many rows, each times its value, is zero at each place below the size
abbrev pub AreCancelled : {F : Type 0} → Ops F → (ℕ → ℕ → F) → ℕ → ℕ → (ℕ → F) → Type 0
AreCancelled field row count size value =
    (place : ℕ) → place < size → weighted field value (λ i. row i place) count ≡ field.zero

-- the last row has a coefficient below the size that is not zero, and no row before it has one at
-- that place any more
pub record IsPivot {F : Type 0} (field : Ops F) (before after : ℕ → ℕ → F) (last size : ℕ)
    : Type 0 where
  pub place : ℕ
  pub within : place < size
  pub not_zero : before last place ≢ field.zero
  pub cleared : (i : ℕ) → i < last → after i place ≡ field.zero

-- a multiple of the last row was added to each row before it, so that one place of these is zero,
-- unless the last row is zero itself
pub record IsEliminated {F : Type 0} (field : Ops F) (before after : ℕ → ℕ → F) (last size : ℕ)
    (factor : ℕ → F)
    : Type 0 where
  pub added : (i place : ℕ) → i < last → place < size
      → after i place ≡ field.add (before i place) (field.mul (factor i) (before last place))
  pub cleared : IsPivot field before after last size
      ⊎ ((place : ℕ) → place < size → before last place ≡ field.zero)

-- the coefficient of row i at a place
abbrev pub entry : List Row → ℕ → ℕ → Fe32
entry rows i place = coefficient ops (slice_index_or rows i (record { items = [] })).items place

-- the first n locations, each with its value
abbrev pub placed : {F : Type 0} → List ℕ → (ℕ → F) → ℕ → List (ℕ × F)
placed locations value zero = []
placed locations value (suc n) =
    placed locations value n ++ (slice_index locations n, value n) ∷ []
