-- The texts that one edit makes of a text put into buffers, and why none are.
use Rattle.std.specs.Prelude.{◌≡◌, ◌<◌, ◌⊎◌, ℕ, List, length, flat_map, take, Some}
use Rattle.std.specs.Str.{IsUtf8}
use Rattle.bech32_checksum.specs.Code.{Code}
use Rattle.bech32_decode.specs.Text.{IsInGrammar, text_refusal}
use Rattle.bech32_near.specs.edits.NearEdits.{AreNearEdits, IsEditsRefusal}
use Rattle.bech32_near.specs.declared.edits.edit.Change.{Change}
use Rattle.bech32_near.specs.declared.edits.edit.Change.TheVariants.{LeftOut, PutIn, Swapped}
use Rattle.bech32_near.specs.declared.edits.edit.Edit.{Edit}
use Rattle.bech32_near.specs.declared.edits.error.EditsError.TheVariants.{Memory as OutOfMemory}
use Rattle.caller_memory.specs.Memory.{IsKept}
use Rattle.caller_memory.specs.declared.memory.Memory.{Memory as Lent}
use Rattle.bech32_calls.specs.Checksums.{ForChecksum, IsFaultBy}
use Rattle.bech32_calls.specs.Fitting.{IsMost, PutsRows, RowsFit}
use Rattle.bech32_calls.specs.declared.refusal.Refusal.{Refusal}
use Rattle.bech32_calls.specs.declared.refusal.Refusal.TheVariants.{NotUtf8, Memory, Text}

-- the number of what is done to a text
abbrev pub number_of_change : Change → ℕ
number_of_change (Swapped x y) = 1
number_of_change (LeftOut x) = 2
number_of_change (PutIn x) = 3

-- of each edit its number, its location and the text that it makes, one behind another, are put
-- into buffers
abbrev pub PutsEach : List (Edit × List ℕ)
    → List ℕ → List ℕ → List ℕ → List ℕ → List ℕ → List ℕ → Type 0
PutsEach = PutsRows (λ m. number_of_change m.0.change) (λ m. m.0.location) (λ m. m.1)

-- this many edits, which are all that make a text that the checksum accepts, are put into buffers
pub record PutsEdits (text kinds kinds' locations locations' texts texts' : List ℕ)
    (count : ℕ) (code : Code) : Type 0 where
  pub grammar : IsInGrammar text
  pub found : List (Edit × List ℕ)
  pub near : AreNearEdits code text found
  pub count_is : count ≡ length found
  pub put : PutsEach found kinds kinds' locations locations' texts texts'

-- the first this many edits fit in buffers of these sizes
abbrev pub EditsFit : List (Edit × List ℕ) → ℕ → ℕ → ℕ → ℕ → Type 0
EditsFit = RowsFit (λ m. m.1)

-- this many edits, which are all that make a text that the checksum accepts, do not fit in buffers:
-- the most of them that fit, the first ones, are put there
pub record PutsFirstEdits (text kinds kinds' locations locations' texts texts' : List ℕ)
    (count : ℕ) (code : Code) : Type 0 where
  pub grammar : IsInGrammar text
  pub found : List (Edit × List ℕ)
  pub near : AreNearEdits code text found
  pub count_is : count ≡ length found
  pub put_count : ℕ
  pub lacks : put_count < length found
  pub most : IsMost (EditsFit found (length kinds) (length locations) (length texts))
      (length found) put_count
  pub put : PutsEach (take put_count found) kinds kinds' locations locations' texts texts'

-- this many edits, which are all that make a text that the checksum accepts, are more than a buffer
-- of one of these sizes has room for, or their texts, one behind another, are longer
pub record LacksRoomForEdits (text : List ℕ)
    (kinds_room locations_room texts_room count : ℕ) (code : Code) : Type 0 where
  pub found : List (Edit × List ℕ)
  pub near : AreNearEdits code text found
  pub count_is : count ≡ length found
  pub lacks : (kinds_room < count)
      ⊎ ((locations_room < count) ⊎ (texts_room < length (flat_map (λ m. m.1) found)))

-- why nothing is put into buffers: the bytes are not a text, or it is not in the grammar; or it
-- is, one edit at least makes a text that the checksum accepts, and the memory does not suffice
abbrev pub IsEditsFault : List ℕ → Code → Refusal → Type 0
IsEditsFault text code NotUtf8 = ¬ (IsUtf8 text)
IsEditsFault text code (Text e) = IsUtf8 text × (text_refusal text ≡ Some e)
IsEditsFault text code Memory = IsEditsRefusal code text OutOfMemory
IsEditsFault text code _ = ⊥

-- why nothing is put into buffers; or memory that had bytes did not come back: then nothing is said
-- but that the text is in the grammar
abbrev pub IsEditsFaultOrKept : ℕ → List ℕ → Lent → Lent → Refusal → Type 0
IsEditsFaultOrKept checksum text old new e =
    IsFaultBy checksum (IsEditsFault text) e
    ⊎ ((e ≡ Memory) × IsKept old new × ForChecksum checksum (λ _. IsInGrammar text))
