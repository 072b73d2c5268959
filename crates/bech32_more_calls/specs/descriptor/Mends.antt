-- The descriptors that one edit makes of a text put into buffers, and why none are.
use Rattle.std.specs.Prelude.{◌≡◌, ◌<◌, ◌≤◌, ◌+◌, ◌*◌, ℕ, List, [], ◌∷◌, length, map, flat_map}
use Rattle.std.specs.Prelude.{take, true, false}
use Rattle.bech32_encode.specs.Buffers.{IsPut}
use Rattle.bech32_calls.specs.Fitting.{FirstFit, IsMost}
use Rattle.bech32_calls.specs.declared.listed.Listed.{Listed}
use Rattle.bech32_descriptor.specs.Mends.{AreMends, MayBeMended}
use Rattle.bech32_descriptor.specs.declared.edits.Change.{Change}
use Rattle.bech32_descriptor.specs.declared.edits.Change.TheVariants.{Changed, LeftOut, PutIn}
use Rattle.bech32_descriptor.specs.declared.edits.Change.TheVariants.{Swapped}
use Rattle.bech32_descriptor.specs.declared.edits.Edit.{Edit}
use Rattle.bech32_more_calls.specs.declared.descriptor.mends.MendRefusal.{MendRefusal}
use Rattle.bech32_more_calls.specs.declared.descriptor.mends.MendRefusal.TheVariants.{
  BadNumber,
  Memory,
}
use Rattle.bech32_more_calls.specs.declared.descriptor.mends.MendRefusal.TheVariants.{TooLong}

-- the number of what is done to a text
abbrev pub number_of_mend_change : Change → ℕ
number_of_mend_change Swapped = 1
number_of_mend_change LeftOut = 2
number_of_mend_change (PutIn b) = 3
number_of_mend_change (Changed b) = 4

-- the place of the second of two that are swapped, else the place itself
abbrev pub second_at : ℕ → Change → ℕ
second_at i Swapped = i + 1
second_at i LeftOut = i
second_at i (PutIn b) = i
second_at i (Changed b) = i

abbrev pub second_place : Edit → ℕ
second_place edit = second_at edit.place edit.change

abbrev pub places_of : Edit → List ℕ
places_of edit = edit.place ∷ second_place edit ∷ []

-- of each edit its number, its two places and the text that it makes, one behind another, are put
-- into buffers
pub record PutsEachMend (mends : List (Edit × List ℕ))
    (kinds kinds' places places' texts texts' : List ℕ) : Type 0 where
  pub kinds_put : IsPut (map (λ m. number_of_mend_change m.0.change) mends) kinds kinds'
      (length mends)
  pub places_put : IsPut (flat_map (λ m. places_of m.0) mends) places places'
      (length (flat_map (λ m. places_of m.0) mends))
  pub texts_put : IsPut (flat_map (λ m. m.1) mends) texts texts'
      (length (flat_map (λ m. m.1) mends))

-- this many, which are all, are put into buffers
pub record PutsMends (most : ℕ) (text kinds kinds' places places' texts texts' : List ℕ)
    (count : ℕ) : Type 0 where
  pub found : List (Edit × List ℕ)
  pub are : AreMends most text found
  pub count_is : count ≡ length found
  pub put : PutsEachMend found kinds kinds' places places' texts texts'

-- the first this many fit in buffers of these sizes
abbrev pub MendsFit : List (Edit × List ℕ) → ℕ → ℕ → ℕ → ℕ → Type 0
MendsFit found kinds_room places_room texts_room n =
    (n ≤ kinds_room) × (2 * n ≤ places_room) × FirstFit (λ m. m.1) found texts_room n

-- this many, which are all, do not fit in buffers: the most of them that fit, the first ones, are
-- put there
pub record PutsFirstMends (most : ℕ) (text kinds kinds' places places' texts texts' : List ℕ)
    (count : ℕ) : Type 0 where
  pub found : List (Edit × List ℕ)
  pub are : AreMends most text found
  pub count_is : count ≡ length found
  pub put_count : ℕ
  pub lacks : put_count < length found
  pub most_fit : IsMost (MendsFit found (length kinds) (length places) (length texts))
      (length found) put_count
  pub put : PutsEachMend (take put_count found) kinds kinds' places places' texts texts'

-- all or the first ones are put, and this is told of them
pub record ListsMends (most : ℕ) (text kinds kinds' places places' texts texts' : List ℕ)
    (listed : Listed) : Type 0 where
  pub all : listed.fit ≡ true
      → PutsMends most text kinds kinds' places places' texts texts' listed.count
  pub first : listed.fit ≡ false
      → PutsFirstMends most text kinds kinds' places places' texts texts' listed.count

-- why nothing is put into buffers, the first that applies: more than one character is to be
-- changed; the text is too long; or neither, descriptors may come from it, and the memory does not
-- suffice
abbrev pub IsMendFault : ℕ → List ℕ → MendRefusal → Type 0
IsMendFault most text BadNumber = 1 < most
IsMendFault most text TooLong = (most ≤ 1) × (7500 < length text)
IsMendFault most text Memory = (most ≤ 1) × MayBeMended 8 7500 text

abbrev pub number_of_mend : MendRefusal → ℕ
number_of_mend BadNumber = 4
number_of_mend TooLong = 89
number_of_mend Memory = 91
