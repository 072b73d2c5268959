-- All patterns of few errors that explain a residue.
use Rattle.std.specs.Prelude.{◌≡◌, ◌<◌, ◌≤◌, ℕ, List, [], ◌∷◌, length}
use Rattle.std.specs.List.{AllByRecursion}
use Rattle.bech32_gf.specs.Fe32.{ops, value}
use Rattle.bech32_gf.specs.Field.{Ops}
use Rattle.bech32_gf.specs.declared.gf32.Fe32.{Fe32}
use Rattle.bech32_poly.specs.Distinct.{IsAmong}
use Rattle.bech32_poly.specs.Pattern.{value_of_pattern_at}
use Rattle.bech32_checksum.specs.Code.{Code}
use Rattle.bech32_bch.specs.Listing.{IsListing}
use Rattle.bech32_bch.specs.Pattern.{HasRemainder, IsPattern, errors_outside}
use Rattle.bech32_lookup.specs.Question.{Question}

-- the pattern lies below the window, has the residue as remainder and at most this many errors
-- outside the erasures, which are no more than the bound
pub record IsNear {F : Type 0} (field : Ops F) (generator residue : List F)
    (erasures : List ℕ) (window bound errors : ℕ) (pattern : List (ℕ × F))
    : Type 0 where
  pub is_pattern : IsPattern field window pattern
  pub remainder : HasRemainder field generator residue pattern
  pub few : errors_outside erasures pattern ≤ errors
  pub erased : length erasures ≤ bound

-- at the highest location outside the erasures where the two differ, the first has the lower value;
-- that of a location without an error is zero, the lowest of all
pub record IsEarlier {F : Type 0} (field : Ops F) (rank : F → ℕ) (erasures : List ℕ)
    (one other : List (ℕ × F))
    : Type 0 where
  pub location : ℕ
  pub outside : IsAmong location erasures → ⊥
  pub same_above : (higher : ℕ) → location < higher → (IsAmong higher erasures → ⊥)
      → value_of_pattern_at field one higher ≡ value_of_pattern_at field other higher
  pub lower : rank (value_of_pattern_at field one location)
      < rank (value_of_pattern_at field other location)

-- each is earlier than all behind it
abbrev pub AreRising : {A : Type 0} → (A → A → Type 0) → List A → Type 0
AreRising Earlier [] = Unit {0}
AreRising Earlier (item ∷ rest) = AllByRecursion (Earlier item) rest × AreRising Earlier rest

-- the listing of such a pattern
pub record IsNearListing {F : Type 0} (field : Ops F) (generator residue : List F)
    (erasures : List ℕ) (window bound errors : ℕ) (items : List (ℕ × F))
    : Type 0 where
  pub pattern : List (ℕ × F)
  pub near : IsNear field generator residue erasures window bound errors pattern
  pub listing : IsListing field erasures pattern items

-- one of the listings is that of the pattern
pub record IsListed {F : Type 0} (field : Ops F) (erasures : List ℕ)
    (listings : List (List (ℕ × F))) (pattern : List (ℕ × F))
    : Type 0 where
  pub items : List (ℕ × F)
  pub among : IsAmong items listings
  pub listing : IsListing field erasures pattern items

-- The listings of all such patterns and of no others, in rising order: first by the highest
-- location of an error outside the erasures, then by the value there, and then by the next error; a
-- pattern with no such errors comes first.
pub record IsNearestList {F : Type 0} (field : Ops F) (rank : F → ℕ) (generator residue : List F)
    (erasures : List ℕ) (window bound errors : ℕ) (listings : List (List (ℕ × F)))
    : Type 0 where
  pub each : AllByRecursion
      (IsNearListing field generator residue erasures window bound errors) listings
  pub all : (pattern : List (ℕ × F))
      → IsNear field generator residue erasures window bound errors pattern
      → IsListed field erasures listings pattern
  pub rising : AreRising (IsEarlier field rank erasures) listings

-- the same of what a corrector is asked, for at most this many errors outside the erasures
abbrev pub AreNearest : Code → ℕ → Question → ℕ → List (List (ℕ × Fe32)) → Type 0
AreNearest code bound question errors listings =
    IsNearestList ops value code.generator question.residue question.erasures question.window
    bound errors listings
