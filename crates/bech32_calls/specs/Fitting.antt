-- As many as fit.
use Rattle.std.specs.Prelude.{◌<◌, ◌≤◌, ◌+◌, ℕ, List, length, flat_map, map, take}
use Rattle.bech32_encode.specs.Buffers.{IsPut}

-- this many, of all, are the most that fit
pub record IsMost (Fits : ℕ → Type 0) (all n : ℕ) : Type 0 where
  pub within : n ≤ all
  pub fits : Fits n
  pub full : n < all → ¬ Fits (n + 1)

-- the lists of this many items, the first, fit one behind another in a buffer of this many numbers
abbrev pub FirstFit : {A : Type 0} → (A → List ℕ) → List A → ℕ → ℕ → Type 0
FirstFit f items room n = length (flat_map f (take n items)) ≤ room

-- of each row its number, its place and its text, one behind another, are put into buffers
pub record PutsRows {R : Type 0} (kind place : R → ℕ) (text : R → List ℕ) (rows : List R)
    (kinds kinds' places places' texts texts' : List ℕ) : Type 0 where
  pub kinds_put : IsPut (map kind rows) kinds kinds' (length rows)
  pub places_put : IsPut (map place rows) places places' (length rows)
  pub texts_put : IsPut (flat_map text rows) texts texts' (length (flat_map text rows))

-- the first this many rows fit in buffers of these sizes
abbrev pub RowsFit : {R : Type 0} → (R → List ℕ) → List R → ℕ → ℕ → ℕ → ℕ → Type 0
RowsFit text rows kinds_room places_room texts_room n =
    (n ≤ kinds_room) × (n ≤ places_room) × FirstFit text rows texts_room n
