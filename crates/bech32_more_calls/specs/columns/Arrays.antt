-- Arrays in the buffers of a caller.
use Rattle.std.specs.Prelude.{◌≡◌, ◌≤◌, ◌<◌, ◌+◌, ◌++◌, ◌==◌}
use Rattle.std.specs.Prelude.{ℕ, List, [], ◌∷◌, if◌then◌else◌, length, take, drop, flat_map}

-- items stand at the front of a buffer, as many as there is room for, and the rest is as it was
abbrev pub Fills : {A : Type 0} → List A → List A → List A → Type 0
Fills items old new = new ≡ take (length old) (items ++ drop (length items) old)

-- bytes one behind another
abbrev pub concat_of : List (List ℕ) → List ℕ
concat_of items = flat_map (λ item. item) items

-- where each ends, if the first begins at a place
abbrev pub ends_from : ℕ → List (List ℕ) → List ℕ
ends_from at [] = []
ends_from at (item ∷ items) = (at + length item) ∷ ends_from (at + length item) items

-- the offsets of an array: where the first begins, and where each ends
abbrev pub offsets_of : List (List ℕ) → List ℕ
offsets_of items = 0 ∷ ends_from 0 items

-- nothing, where there is no room for offsets
abbrev pub if_wanted : List ℕ → List ℕ → List ℕ
if_wanted offsets bytes = if length offsets == 0 then [] else bytes

-- an array is put into buffers for its offsets and its bytes
pub record HoldsArray (items : List (List ℕ)) (offsets offsets' bytes bytes' : List ℕ)
    : Type 0 where
  pub places : Fills (offsets_of items) offsets offsets'
  pub content : Fills (concat_of items) bytes bytes'
  pub fits : length (concat_of items) ≤ length bytes
  pub small : length (concat_of items) < 2_147_483_648
