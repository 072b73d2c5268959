-- What the search for two changed characters keeps.
use Rattle.std.specs.Prelude.{◌≡◌, ◌<◌, ◌+◌, ◌-◌, ℕ, List, if◌then◌else◌, get_or, length}
use Rattle.std.specs.Prelude.{nat_lt, slice_set}
use Rattle.bech32_gf.specs.Fe32 as fe32
use Rattle.bech32_descriptor.specs.Descriptor.{descriptor_payload, group}
use Rattle.bech32_descriptor.specs.Edits.{byte_put}
use Rattle.bech32_descriptor.specs.Marks.{IsMarked}
use Rattle.bech32_descriptor.specs.Pairs.{IsMendByTwo}
use Rattle.bech32_descriptor.specs.Walks.{IsMendOfKind, behind_group, behind_symbol, change_in}
use Rattle.bech32_descriptor.specs.Walks.{first_at, group_from, word_in}
use Rattle.bech32_descriptor.specs.declared.edits.Edit.{Edit}
use Rattle.bech32_descriptor.specs.declared.edits.TwoEdits.{TwoEdits}

-- the powers of x at which a change at a place of a text of a length adds to the symbol, and to
-- the number of the groups; in a checksum both are that of its element
abbrev pub symbol_power : ℕ → ℕ → ℕ
symbol_power n i = if nat_lt (i + 9) n then 8 + behind_symbol (n - 9) i else n - 1 - i

abbrev pub group_power : ℕ → ℕ → ℕ
group_power n i = if nat_lt (i + 9) n then 8 + behind_group (n - 9) i else n - 1 - i

-- what the number of the groups adds with each byte at a place before the mark, by its group
abbrev pub AreBases : List ℕ → List ℕ → ℕ → List ℕ → Type 0
AreBases rows text i bases = (b : ℕ) → i + 9 < length text
    → get_or bases (group b) 0 ≡ word_in rows (8 + behind_group (length text - 9) i)
    (fe32.add
    (fe32.element (group_from (slice_set (descriptor_payload text) i b) (first_at i)))
    (fe32.element (group_from (descriptor_payload text) (first_at i))))

-- what any byte at the place of any text of this length adds is marked
abbrev pub MarksChanges : List ℕ → List ℕ → ℕ → ℕ → Type 0
MarksChanges cells rows n i =
    (text : List ℕ) (b : ℕ) → length text ≡ n → IsMarked cells (change_in rows text i b)

-- that at any of the first places
abbrev pub MarksChangesBelow : List ℕ → List ℕ → ℕ → ℕ → Type 0
MarksChangesBelow cells rows n end = (i : ℕ) → i < end → MarksChanges cells rows n i

-- one character is changed, before a place
abbrev pub IsMendBelow : List ℕ → ℕ → Edit → Type 0
IsMendBelow text end edit = IsMendOfKind 0 text edit × (edit.place < end)

-- two characters are changed, the second one at this place
abbrev pub IsTwoAt : List ℕ → ℕ → TwoEdits → Type 0
IsTwoAt text i edits = IsMendByTwo text edits × (edits.second.place ≡ i)

-- and to this byte
abbrev pub IsTwoBy : List ℕ → ℕ → ℕ → TwoEdits → Type 0
IsTwoBy text i b edits = IsTwoAt text i edits × (byte_put edits.second.change ≡ b)

-- an edit beside another one further back
abbrev pub beside : Edit → Edit → TwoEdits
beside second first = record { first = first; second = second }
