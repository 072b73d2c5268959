-- The descriptors that two changed characters make of a text put into buffers.
use Rattle.std.specs.Prelude.{◌≡◌, ◌<◌, ◌≤◌, ◌*◌, ℕ, List, [], ◌∷◌, length, flat_map, take}
use Rattle.std.specs.Prelude.{true, false}
use Rattle.bech32_encode.specs.Buffers.{IsPut}
use Rattle.bech32_calls.specs.Fitting.{FirstFit, IsMost}
use Rattle.bech32_calls.specs.declared.listed.Listed.{Listed}
use Rattle.bech32_descriptor.specs.Mends.{MayBeMended}
use Rattle.bech32_descriptor.specs.Pairs.{AreTwoMends, max_length_for_two}
use Rattle.bech32_descriptor.specs.declared.edits.TwoEdits.{TwoEdits}
use Rattle.bech32_more_calls.specs.declared.descriptor.mends.MendRefusal.{MendRefusal}
use Rattle.bech32_more_calls.specs.declared.descriptor.mends.MendRefusal.TheVariants.{
  BadNumber,
  Memory,
}
use Rattle.bech32_more_calls.specs.declared.descriptor.mends.MendRefusal.TheVariants.{TooLong}

abbrev pub places_of_two : TwoEdits → List ℕ
places_of_two edits = edits.first.place ∷ edits.second.place ∷ []

-- of each two edits their places and the text that they make, one behind another, are put into
-- buffers
pub record PutsEachTwo (mends : List (TwoEdits × List ℕ)) (places places' texts texts' : List ℕ)
    : Type 0 where
  pub places_put : IsPut (flat_map (λ m. places_of_two m.0) mends) places places'
      (length (flat_map (λ m. places_of_two m.0) mends))
  pub texts_put : IsPut (flat_map (λ m. m.1) mends) texts texts'
      (length (flat_map (λ m. m.1) mends))

-- this many, which are all, are put into buffers
pub record PutsTwoMends (text places places' texts texts' : List ℕ) (count : ℕ) : Type 0 where
  pub found : List (TwoEdits × List ℕ)
  pub are : AreTwoMends text found
  pub count_is : count ≡ length found
  pub put : PutsEachTwo found places places' texts texts'

-- the first this many fit in buffers of these sizes
abbrev pub TwoMendsFit : List (TwoEdits × List ℕ) → ℕ → ℕ → ℕ → Type 0
TwoMendsFit found places_room texts_room n =
    (2 * n ≤ places_room) × FirstFit (λ m. m.1) found texts_room n

-- this many, which are all, do not fit in buffers: the most of them that fit, the first ones, are
-- put there
pub record PutsFirstTwoMends (text places places' texts texts' : List ℕ) (count : ℕ) : Type 0 where
  pub found : List (TwoEdits × List ℕ)
  pub are : AreTwoMends text found
  pub count_is : count ≡ length found
  pub put_count : ℕ
  pub lacks : put_count < length found
  pub most_fit : IsMost (TwoMendsFit found (length places) (length texts)) (length found) put_count
  pub put : PutsEachTwo (take put_count found) places places' texts texts'

-- all or the first ones are put, and this is told of them
pub record ListsTwoMends (text places places' texts texts' : List ℕ) (listed : Listed)
    : Type 0 where
  pub all : listed.fit ≡ true → PutsTwoMends text places places' texts texts' listed.count
  pub first : listed.fit ≡ false → PutsFirstTwoMends text places places' texts texts' listed.count

-- why nothing is put into buffers: the text is too long; or it is not, descriptors may come from
-- it, and the memory does not suffice
abbrev pub IsTwoMendFault : List ℕ → MendRefusal → Type 0
IsTwoMendFault text BadNumber = ⊥
IsTwoMendFault text TooLong = max_length_for_two < length text
IsTwoMendFault text Memory = MayBeMended 9 max_length_for_two text
