-- What the steps find that gather the patterns of few errors.
use Rattle.std.specs.Prelude.{◌≡◌, ◌≢◌, ◌<◌, ◌≤◌, ◌==◌, ◌++◌, ◌⊎◌, ℕ, cond, List, [], ◌∷◌}
use Rattle.std.specs.Prelude.{length, take, drop, Option}
use Rattle.std.specs.List.{AllByRecursion}
use Rattle.bech32_gf.specs.Field.{Ops}
use Rattle.bech32_gf.specs.declared.gf32.Fe32.{Fe32}
use Rattle.bech32_poly.specs.Distinct.{IsAmong}
use Rattle.bech32_bch.specs.Erasures.{AreErasures, with_erasures}
use Rattle.bech32_bch.specs.Listing.{IsInOrder}
use Rattle.bech32_bch.specs.Pattern.{HasRemainder, locations}
use Rattle.bech32_checksum.specs.Code.{Code}
use Rattle.bech32_lookup.specs.Question.{IsAnswerTo, Question}
use Rattle.bech32_near.specs.search.Nearest.{AreRising}

-- the errors with one at a higher location, in the order of a listing: location 0 stays the first
abbrev pub with_highest : {F : Type 0} → ℕ × F → List (ℕ × F) → List (ℕ × F)
with_highest error [] = error ∷ []
with_highest error (first ∷ rest) =
    cond (first.0 == 0) (first ∷ error ∷ rest) (error ∷ first ∷ rest)

-- a listing of this many erasures with an error at a higher location
abbrev pub raised : {F : Type 0} → ℕ → ℕ × F → List (ℕ × F) → List (ℕ × F)
raised erased error items = take erased items ++ with_highest error (drop erased items)

-- an error below the limit and outside the erasures
pub record IsOtherError {F : Type 0} (field : Ops F) (erasures : List ℕ) (limit : ℕ)
    (error : ℕ × F)
    : Type 0 where
  pub below : error.0 < limit
  pub outside : IsAmong error.0 erasures → ⊥
  pub not_zero : error.1 ≢ field.zero

-- a listing of the erasures and of at most this many errors, all below the limit, that has the
-- residue as remainder
pub record IsGathered {F : Type 0} (field : Ops F) (generator residue : List F)
    (erasures : List ℕ) (limit most : ℕ) (items : List (ℕ × F))
    : Type 0 where
  pub given : List (ℕ × F)
  pub errors : List (ℕ × F)
  pub parts : items ≡ given ++ errors
  pub placed : locations given ≡ erasures
  pub in_order : IsInOrder (locations errors)
  pub each : AllByRecursion (IsOtherError field erasures limit) errors
  pub few : length errors ≤ most
  pub remainder : HasRemainder field generator residue items

-- such a listing whose highest error is this one, with at most this many others
pub record HasHighest {F : Type 0} (field : Ops F) (generator residue : List F)
    (erasures : List ℕ) (error : ℕ × F) (others : ℕ) (items : List (ℕ × F))
    : Type 0 where
  pub given : List (ℕ × F)
  pub rest : List (ℕ × F)
  pub parts : items ≡ given ++ with_highest error rest
  pub placed : locations given ≡ erasures
  pub outside : IsAmong error.0 erasures → ⊥
  pub not_zero : error.1 ≢ field.zero
  pub in_order : IsInOrder (locations rest)
  pub each : AllByRecursion (IsOtherError field erasures error.0) rest
  pub few : length rest ≤ others
  pub remainder : HasRemainder field generator residue items

-- the highest error is at this location, whatever its value
abbrev pub HasHighestAt : {F : Type 0} → Ops F → List F → List F → List ℕ → ℕ → ℕ → List (ℕ × F)
    → Type 0
HasHighestAt {F} field generator residue erasures location others items =
    (value : F) × HasHighest field generator residue erasures (location, value) others items

-- the same with a value below a number
abbrev pub HasHighestBelow : {F : Type 0} → Ops F → (F → ℕ) → List F → List F → List ℕ
    → ℕ → ℕ → ℕ → List (ℕ × F) → Type 0
HasHighestBelow {F} field rank generator residue erasures location others n items =
    (value : F) × (rank value < n)
    × HasHighest field generator residue erasures (location, value) others items

-- the list has all that P holds of and nothing else, in rising order
pub record AreAll {A : Type 0} (Earlier : A → A → Type 0) (P : A → Type 0) (items : List A)
    : Type 0 where
  pub each : AllByRecursion P items
  pub all : (item : A) → P item → IsAmong item items
  pub rising : AreRising Earlier items

-- all that P holds of was put behind what was there
pub record AreAdded {A : Type 0} (Earlier : A → A → Type 0) (P : A → Type 0) (old new : List A)
    : Type 0 where
  pub more : List A
  pub behind : new ≡ old ++ more
  pub are_all : AreAll Earlier P more

-- the answer with a location as one more erasure, below an end that stands above all of these
pub record IsErasedAnswer (code : Code) (bound : ℕ) (question : Question) (location : ℕ)
    (answer : Option (List (ℕ × Fe32)))
    : Type 0 where
  pub end : ℕ
  pub above : location < end
  pub erasures : AreErasures end question.erasures
  pub answers : IsAnswerTo code bound (record {
    residue = question.residue;
    window = end;
    erasures = with_erasures question.erasures (location ∷ []);
  }) answer

-- the value is not zero, and the other errors are at most this many, all below the location
abbrev pub CanBeHighest : {F : Type 0} → F → ℕ → ℕ → ℕ × F → List (ℕ × F) → Type 0
CanBeHighest {F} zero location others error rest =
    (error.1 ≢ zero)
    × ((length rest ≤ others) × AllByRecursion (λ (q : ℕ × F). q.0 < location) rest)

-- what stands behind this many erasures of a listing was put behind the errors that are lower than
-- it, where it can be the highest error; else nothing was added
pub record IsTried {F : Type 0} (zero : F) (erased location others : ℕ) (listing : List (ℕ × F))
    (old new : List (List (ℕ × F)))
    : Type 0 where
  pub given : List (ℕ × F)
  pub error : ℕ × F
  pub rest : List (ℕ × F)
  pub parts : listing ≡ given ++ error ∷ rest
  pub size : length given ≡ erased
  pub added : CanBeHighest zero location others error rest
      → new ≡ old ++ (given ++ with_highest error rest) ∷ []
  pub left : (CanBeHighest zero location others error rest → ⊥) → new ≡ old
  pub either : CanBeHighest zero location others error rest
      ⊎ (CanBeHighest zero location others error rest → ⊥)
