-- Addresses that are suggested put into buffers, and why none are.
use Rattle.std.specs.Prelude.{◌≡◌, ◌<◌, ◌≤◌, ◌⊎◌, ℕ, List, length, flat_map, take, Some}
use Rattle.std.specs.Str.{IsUtf8}
use Rattle.bech32_decode.specs.Text.{IsInGrammar, text_refusal}
use Rattle.bech32_hrp.specs.Hrp.{IsHrp}
use Rattle.bech32_suggest.specs.Suggestions.{AreSuggestions, IsTriedText, Suggested}
use Rattle.bech32_suggest.specs.Typed.{as_read, max_typed_length}
use Rattle.bech32_suggest.specs.declared.mendings.Mending.{Mending}
use Rattle.bech32_suggest.specs.declared.mendings.Mending.TheVariants.{LeftOut, PutIn, Replaced}
use Rattle.bech32_suggest.specs.declared.mendings.Mending.TheVariants.{Swapped, Unchanged}
use Rattle.caller_memory.specs.Memory.{IsKept}
use Rattle.caller_memory.specs.declared.memory.Memory.{Memory as Lent}
use Rattle.bech32_calls.specs.Faults.{IsPartFault}
use Rattle.bech32_calls.specs.Fitting.{IsMost, PutsRows, RowsFit}
use Rattle.bech32_calls.specs.declared.refusal.Refusal.{Refusal}
use Rattle.bech32_calls.specs.declared.refusal.Refusal.TheVariants.{NotUtf8, Memory, Text}

-- the number of what is done to a typed text
abbrev pub number_of_mending : Mending → ℕ
number_of_mending Unchanged = 0
number_of_mending Swapped = 1
number_of_mending LeftOut = 2
number_of_mending PutIn = 3
number_of_mending Replaced = 4

-- of each suggestion the number of what is done, its place and the address, one behind another, are
-- put into buffers
abbrev pub PutsSuggested : List Suggested
    → List ℕ → List ℕ → List ℕ → List ℕ → List ℕ → List ℕ → Type 0
PutsSuggested = PutsRows (λ s. number_of_mending s.1.0) (λ s. s.1.1) (λ s. s.0)

-- this many suggestions, which are all, are put into buffers
pub record PutsSuggestions (text hrp kinds kinds' places places' texts texts' : List ℕ)
    (count : ℕ) : Type 0 where
  pub is_hrp : IsHrp hrp
  pub found : List Suggested
  pub are : AreSuggestions text hrp found
  pub count_is : count ≡ length found
  pub put : PutsSuggested found kinds kinds' places places' texts texts'

-- the first this many suggestions fit in buffers of these sizes
abbrev pub SuggestionsFit : List Suggested → ℕ → ℕ → ℕ → ℕ → Type 0
SuggestionsFit = RowsFit (λ s. s.0)

-- this many suggestions, which are all, do not fit in buffers: the most of them that fit, the first
-- ones, are put there
pub record PutsFirstSuggestions (text hrp kinds kinds' places places' texts texts' : List ℕ)
    (count : ℕ) : Type 0 where
  pub is_hrp : IsHrp hrp
  pub found : List Suggested
  pub are : AreSuggestions text hrp found
  pub count_is : count ≡ length found
  pub put_count : ℕ
  pub lacks : put_count < length found
  pub most : IsMost (SuggestionsFit found (length kinds) (length places) (length texts))
      (length found) put_count
  pub put : PutsSuggested (take put_count found) kinds kinds' places places' texts texts'

-- this many suggestions, which are all, are more than a buffer of one of these sizes has room for,
-- or the addresses, one behind another, are longer
pub record LacksRoomForSuggestions (text hrp : List ℕ)
    (kinds_room places_room texts_room count : ℕ) : Type 0 where
  pub found : List Suggested
  pub are : AreSuggestions text hrp found
  pub count_is : count ≡ length found
  pub lacks : (kinds_room < count)
      ⊎ ((places_room < count) ⊎ (texts_room < length (flat_map (λ s. s.0) found)))

-- why nothing is suggested for bytes: they are not a text; or they are at most 91, and not in the
-- grammar as they are read; or texts are tried, and the memory does not suffice
abbrev pub IsTypedFault : List ℕ → Refusal → Type 0
IsTypedFault text NotUtf8 = ¬ (IsUtf8 text)
IsTypedFault text (Text e) =
    IsUtf8 text × (length text ≤ max_typed_length) × (text_refusal (as_read text) ≡ Some e)
IsTypedFault text Memory = IsTriedText text
IsTypedFault text _ = ⊥

-- the same where bytes may be no human-readable part, which is refused first
abbrev pub IsSuggestFault : List ℕ → List ℕ → Refusal → Type 0
IsSuggestFault text hrp e = IsPartFault hrp e ⊎ (IsHrp hrp × IsTypedFault text e)

-- the bytes are a text, of more than 91 of them or in the grammar as it is read
abbrev pub IsTyped : List ℕ → Type 0
IsTyped text = IsUtf8 text × ((max_typed_length < length text) ⊎ IsInGrammar (as_read text))

-- why nothing is put into buffers; or memory that had bytes did not come back: then nothing is said
-- but that both texts are read
abbrev pub IsSuggestFaultOrKept : List ℕ → List ℕ → Lent → Lent → Refusal → Type 0
IsSuggestFaultOrKept text hrp old new e =
    IsSuggestFault text hrp e
    ⊎ ((e ≡ Memory) × IsKept old new × IsHrp hrp × IsTyped text)
