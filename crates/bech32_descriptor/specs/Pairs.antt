-- Texts of which two characters are changed.
use Rattle.std.specs.Prelude.{◌≡◌, ◌⊎◌, ◌<◌, ◌≤◌, ◌++◌, ◌+◌, ◌-◌, ◌*◌, ◌^◌, ℕ, List, length, map}
use Rattle.std.specs.List.{AllByRecursion}
use Rattle.bech32_descriptor.specs.Descriptor.{IsDescriptor}
use Rattle.bech32_descriptor.specs.Edits.{IsMendBefore, IsToldMend, kind_of_change, made}
use Rattle.bech32_descriptor.specs.Listings.{AreAllInOrder}
use Rattle.bech32_descriptor.specs.declared.edits.Edit.{Edit}
use Rattle.bech32_descriptor.specs.declared.edits.TwoEdits.{TwoEdits}

-- a character of the text is changed to another one of a descriptor's
abbrev pub IsChanged : List ℕ → Edit → Type 0
IsChanged text edit = (kind_of_change edit.change ≡ 0) × IsToldMend edit text

-- what two edits make of a text
abbrev pub made_by_two : TwoEdits → List ℕ → List ℕ
made_by_two edits text = made edits.first (made edits.second text)

-- each changes a character of the text, the first one nearer to the front, and both make a
-- descriptor with its checksum
pub record IsMendByTwo (text : List ℕ) (edits : TwoEdits) : Type 0 where
  pub apart : edits.first.place < edits.second.place
  pub first_changes : IsChanged text edits.first
  pub second_changes : IsChanged text edits.second
  pub right : IsDescriptor (made_by_two edits text)

-- by the second edits, and where they are the same by the first
abbrev pub IsTwoBefore : TwoEdits → TwoEdits → Type 0
IsTwoBefore x y =
    IsMendBefore x.second y.second
    ⊎ ((x.second ≡ y.second) × IsMendBefore x.first y.first)

-- these are all two edits of which P holds, each two once and in order
abbrev pub AreAllByTwo : (TwoEdits → Type 0) → List TwoEdits → Type 0
AreAllByTwo P edits = AreAllInOrder IsTwoBefore P edits

-- behind those from before stand all of which P holds
abbrev pub AddsAllByTwo : (TwoEdits → Type 0) → List TwoEdits → List TwoEdits → Type 0
AddsAllByTwo P old new = (edits : List TwoEdits) × (new ≡ old ++ edits) × AreAllByTwo P edits

-- the most characters of a text of which two are changed
abbrev pub max_length_for_two : ℕ
max_length_for_two = 1400

-- How many texts of n characters differ from one in two of them, and have characters where they may
-- stand. The most are of a text that has them there too. Of two before the mark each may be any of
-- 94 others, and there are (n - 9) * (n - 10) / 2 choices of two. Beside one of the checksum, which
-- may be any of 31 others, there are (n - 9) * 8 choices, and 28 of two of the checksum
abbrev pub tried_by_two : ℕ → ℕ
tried_by_two n =
    94 * 47 * ((n - 9) * (n - 10)) + 94 * 31 * 8 * (n - 9) + 31 * 31 * 28

-- a checksum accepts one text in 2^40. So, of 100 texts that are no mistyped descriptors, at most
-- one is expected to get an answer, where this many texts are tried for each
abbrev pub IsRarelyWrong : ℕ → Type 0
IsRarelyWrong count = 100 * count ≤ 2 ^ 40

-- the text is not too long, so that few others are tried; and these are all changes of two
-- characters that make a descriptor of it, each once and in order, and the texts that they make
pub record AreTwoMends (text : List ℕ) (found : List (TwoEdits × List ℕ)) : Type 0 where
  pub short : length text ≤ max_length_for_two
  pub rare : IsRarelyWrong (tried_by_two (length text))
  pub edits : AreAllByTwo (IsMendByTwo text) (map (λ m. m.0) found)
  pub texts : AllByRecursion (λ m. m.1 ≡ made_by_two m.0 text) found
