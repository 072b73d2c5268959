-- Edits of lists of elements: two neighbours swapped, an element left out, one put in.
use Rattle.std.specs.Prelude.{◌≡◌, ◌≢◌, ◌⊎◌, ◌<◌, ℕ, List, [], ◌∷◌, ◌++◌, length}
use Rattle.std.specs.List.{AllByRecursion}
use Rattle.bech32_gf.specs.declared.gf32.Fe32.{Fe32}
use Rattle.bech32_poly.specs.Distinct.{IsAmong}
use Rattle.bech32_near.specs.declared.edits.edit.Change.{Change}
use Rattle.bech32_near.specs.declared.edits.edit.Change.TheVariants.{LeftOut, PutIn, Swapped}
use Rattle.bech32_near.specs.declared.edits.edit.Edit.{Edit}

-- the old list, which has these elements before and behind the place of the change, becomes the new
abbrev pub Becomes : Change → List Fe32 → List Fe32 → List Fe32 → List Fe32 → Type 0
Becomes (Swapped x y) front behind old new =
    (old ≡ front ++ x ∷ y ∷ behind) × (new ≡ front ++ y ∷ x ∷ behind)
Becomes (LeftOut x) front behind old new = (old ≡ front ++ x ∷ behind) × (new ≡ front ++ behind)
Becomes (PutIn x) front behind old new = (old ≡ front ++ behind) × (new ≡ front ++ x ∷ behind)

-- the edit makes the new list of the old one: its location is the number of elements behind
pub record IsEdit (edit : Edit) (old new : List Fe32) : Type 0 where
  pub front : List Fe32
  pub behind : List Fe32
  pub location_is : edit.location ≡ length behind
  pub becomes : Becomes edit.change front behind old new

-- the list begins with the element
abbrev pub StartsWith : Fe32 → List Fe32 → Type 0
StartsWith x behind = (rest : List Fe32) × (behind ≡ x ∷ rest)

-- of several edits that make one list, the one that is told: two that are swapped differ; the last
-- element of a run of equal ones is left out; an element is put in behind a run of the same
abbrev pub IsLast : Change → List Fe32 → Type 0
IsLast (Swapped x y) behind = x ≢ y
IsLast (LeftOut x) behind = ¬ StartsWith x behind
IsLast (PutIn x) behind = ¬ StartsWith x behind

-- the edit makes the new list, and is the one that is told
pub record IsToldEdit (edit : Edit) (old new : List Fe32) : Type 0 where
  pub edit_is : IsEdit edit old new
  pub last : IsLast edit.change edit_is.behind

-- swaps come first, then what leaves an element out, then what puts one in
abbrev pub kind : Change → ℕ
kind (Swapped x y) = 0
kind (LeftOut x) = 1
kind (PutIn x) = 2

-- the value of an element that is put in
abbrev pub value_put : Change → ℕ
value_put (Swapped x y) = 0
value_put (LeftOut x) = 0
value_put (PutIn x) = x.value

-- by kind, then by location, then by the value that is put in
abbrev pub IsBefore : Edit → Edit → Type 0
IsBefore x y =
    (kind x.change < kind y.change) ⊎ ((kind x.change ≡ kind y.change)
    × ((x.location < y.location) ⊎ ((x.location ≡ y.location)
    × (value_put x.change < value_put y.change))))

-- each is before all behind it
abbrev pub AreInOrder : List Edit → Type 0
AreInOrder [] = Unit {0}
AreInOrder (x ∷ xs) = AllByRecursion (IsBefore x) xs × AreInOrder xs

-- these are all the edits of which P holds, each once and in order
pub record AreAllOf (P : Edit → Type 0) (edits : List Edit) : Type 0 where
  pub each : AllByRecursion P edits
  pub all : (edit : Edit) → P edit → IsAmong edit edits
  pub in_order : AreInOrder edits
