-- Edits of texts: a character changed, two neighbours swapped, a character left out, one put in.
use Rattle.std.specs.Prelude.{◌≡◌, ◌≢◌, ◌⊎◌, ◌<◌, ◌≤◌, ◌+◌, ℕ, List, ◌∷◌, ◌++◌}
use Rattle.std.specs.Prelude.{drop, get_or, length, slice_set, take}
use Rattle.bech32_descriptor.specs.Descriptor.{IsDescriptor}
use Rattle.bech32_descriptor.specs.Listings.{AreAllInOrder}
use Rattle.bech32_descriptor.specs.declared.edits.Change.{Change}
use Rattle.bech32_descriptor.specs.declared.edits.Change.TheVariants.{Changed, LeftOut, PutIn}
use Rattle.bech32_descriptor.specs.declared.edits.Change.TheVariants.{Swapped}
use Rattle.bech32_descriptor.specs.declared.edits.Edit.{Edit}

-- what a change at a place makes of a text
abbrev pub made_at : ℕ → Change → List ℕ → List ℕ
made_at i (Changed b) text = slice_set text i b
made_at i Swapped text =
    slice_set (slice_set text i (get_or text (i + 1) 0)) (i + 1) (get_or text i 0)
made_at i LeftOut text = take i text ++ drop (i + 1) text
made_at i (PutIn b) text = take i text ++ b ∷ drop i text

abbrev pub made : Edit → List ℕ → List ℕ
made edit text = made_at edit.place edit.change text

-- the byte at a place, which is within the text, is this one
abbrev pub IsAt : List ℕ → ℕ → ℕ → Type 0
IsAt text i b = (i < length text) × (get_or text i 0 ≡ b)

-- a character of a descriptor: these are the characters of ASCII from the space to `~`
abbrev pub IsPrinted : ℕ → Type 0
IsPrinted b = (32 ≤ b) × (b < 127)

-- the change can be made at the place, changes the text, and of several that make one text it is
-- the one that is told: the last of a run of equal characters is left out; a character is put in
-- behind a run of the same
abbrev pub IsToldAt : ℕ → Change → List ℕ → Type 0
IsToldAt i (Changed b) text = (i < length text) × IsPrinted b × (get_or text i 0 ≢ b)
IsToldAt i Swapped text =
    (i + 1 < length text) × (get_or text i 0 ≢ get_or text (i + 1) 0)
IsToldAt i LeftOut text = (i < length text) × ¬ IsAt text (i + 1) (get_or text i 0)
IsToldAt i (PutIn b) text = (i ≤ length text) × IsPrinted b × ¬ IsAt text i b

abbrev pub IsToldMend : Edit → List ℕ → Type 0
IsToldMend edit text = IsToldAt edit.place edit.change text

-- the edit is told, and makes a descriptor with its checksum
abbrev pub IsMend : List ℕ → Edit → Type 0
IsMend text edit = IsToldMend edit text × IsDescriptor (made edit text)

-- how many characters are changed
abbrev pub characters_changed : Change → ℕ
characters_changed (Changed b) = 1
characters_changed Swapped = 0
characters_changed LeftOut = 0
characters_changed (PutIn b) = 0

-- the same, and it changes no more characters than this
abbrev pub IsMendWithin : ℕ → List ℕ → Edit → Type 0
IsMendWithin most text edit = (characters_changed edit.change ≤ most) × IsMend text edit

-- one changed comes first, then two swapped, one left out, one put in
abbrev pub kind_of_change : Change → ℕ
kind_of_change (Changed b) = 0
kind_of_change Swapped = 1
kind_of_change LeftOut = 2
kind_of_change (PutIn b) = 3

-- the byte that is put somewhere
abbrev pub byte_put : Change → ℕ
byte_put (Changed b) = b
byte_put Swapped = 0
byte_put LeftOut = 0
byte_put (PutIn b) = b

-- by kind, then by place, then by the byte that is put there
abbrev pub IsMendBefore : Edit → Edit → Type 0
IsMendBefore x y =
    (kind_of_change x.change < kind_of_change y.change)
    ⊎ ((kind_of_change x.change ≡ kind_of_change y.change)
    × ((x.place < y.place) ⊎ ((x.place ≡ y.place)
    × (byte_put x.change < byte_put y.change))))

-- these are all the edits of which P holds, each once and in order
abbrev pub AreAllMends : (Edit → Type 0) → List Edit → Type 0
AreAllMends P edits = AreAllInOrder IsMendBefore P edits

-- behind the edits from before stand all of which P holds
abbrev pub AddsAllMends : (Edit → Type 0) → List Edit → List Edit → Type 0
AddsAllMends P old new = (edits : List Edit) × (new ≡ old ++ edits) × AreAllMends P edits

-- behind the edits from before stand all of which P holds, and then all of which Q holds
abbrev pub AddsTwoKinds : (Edit → Type 0) → (Edit → Type 0) → List Edit → List Edit → Type 0
AddsTwoKinds P Q old new =
    (first : List Edit) × (second : List Edit) × (new ≡ (old ++ first) ++ second)
    × AreAllMends P first × AreAllMends Q second
