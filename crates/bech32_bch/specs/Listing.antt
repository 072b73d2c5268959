-- In what order the errors of a pattern are listed.
use Rattle.std.specs.Prelude.{◌≡◌, ◌≢◌, ◌↔◌, ◌⊎◌, ◌<◌, ◌++◌, ℕ, List, [], ◌∷◌, map}
use Rattle.std.specs.List.{AllByRecursion}
use Rattle.bech32_gf.specs.Field.{Ops}
use Rattle.bech32_poly.specs.Distinct.{IsAmong}
use Rattle.bech32_poly.specs.Pattern.{value_of_pattern_at}
use Rattle.bech32_bch.specs.Pattern.{IsAlone, Solves}

-- location 0 comes before all others, and each other one before the smaller ones
abbrev pub ComesBefore : ℕ → ℕ → Type 0
ComesBefore one other = (0 < other) × ((one ≡ 0) ⊎ (other < one))

-- each location comes before all behind it: 0 first where it is one of them, the rest falling
abbrev pub IsInOrder : List ℕ → Type 0
IsInOrder [] = Unit {0}
IsInOrder (location ∷ rest) =
    AllByRecursion (λ other. ComesBefore location other) rest × IsInOrder rest

-- the erasures as they were given, and then the pattern's other locations in order, each with the
-- pattern's value
pub record IsListing {F : Type 0} (field : Ops F) (erasures : List ℕ) (pattern items : List (ℕ × F))
    : Type 0 where
  pub errors : List ℕ
  pub in_order : IsInOrder errors
  pub are_errors : (location : ℕ) → IsAmong location errors
      ↔ ((value_of_pattern_at field pattern location ≢ field.zero)
      × (IsAmong location erasures → ⊥))
  pub items_are : items ≡ map
      (λ location. (location, value_of_pattern_at field pattern location)) (erasures ++ errors)

-- the listing of a pattern that solves, and that no other pattern rivals
pub record IsSound {F : Type 0} (field : Ops F) (generator residue : List F)
    (erasures : List ℕ) (window bound : ℕ) (items : List (ℕ × F))
    : Type 0 where
  pub pattern : List (ℕ × F)
  pub solves : Solves field generator residue erasures window bound pattern
  pub listing : IsListing field erasures pattern items
  pub alone : IsAlone field generator residue erasures window pattern
