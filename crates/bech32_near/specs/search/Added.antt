-- What gathering puts behind the listings that were found, of a corrector's question.
use Rattle.std.specs.Prelude.{◌≡◌, ◌≢◌, ◌≤◌, ◌<◌, ◌^◌, ℕ, List, false, length, min}
use Rattle.bech32_bch.specs.Erasures.{has}
use Rattle.bech32_gf.specs.Fe32 as fe32
use Rattle.bech32_gf.specs.declared.gf32.Fe32.{Fe32}
use Rattle.bech32_checksum.specs.Code.{Code}
use Rattle.bech32_lookup.specs.Question.{Question}
use Rattle.bech32_near.specs.search.Nearest.{IsEarlier}
use Rattle.bech32_near.specs.search.Sketch.{IsTable}
use Rattle.bech32_near.specs.search.Steps.{AreAdded, HasHighest, HasHighestAt, IsGathered}
use Rattle.bech32_near.specs.declared.search.pairs.Table.{Table}

module _ (code : Code) (question : Question) where
  -- all listings with at most this many errors, all below the limit, and nothing else
  abbrev pub AddsGathered : (limit errors : ℕ) (old new : List (List (ℕ × Fe32))) → Type 0
  AddsGathered limit errors old new =
      AreAdded (IsEarlier fe32.ops fe32.value question.erasures)
      (IsGathered fe32.ops code.generator question.residue question.erasures limit errors)
      old new

  -- all listings with this highest error and at most this many others, and nothing else
  abbrev pub AddsHighest : (error : ℕ × Fe32) (others : ℕ) (old new : List (List (ℕ × Fe32)))
      → Type 0
  AddsHighest error others old new =
      AreAdded (IsEarlier fe32.ops fe32.value question.erasures)
      (HasHighest fe32.ops code.generator question.residue question.erasures error others)
      old new

  -- all listings whose highest error is at this location, with at most this many others, and
  -- nothing else
  abbrev pub AddsHighestAt : (location others : ℕ) (old new : List (List (ℕ × Fe32))) → Type 0
  AddsHighestAt location others old new =
      AreAdded (IsEarlier fe32.ops fe32.value question.erasures)
      (HasHighestAt fe32.ops code.generator question.residue question.erasures location others)
      old new

  -- the key is zero if there is a listing without errors
  abbrev pub IsBareKey : ℕ → Type 0
  IsBareKey key =
      (items : List (ℕ × Fe32))
      → IsGathered fe32.ops code.generator question.residue question.erasures 0 0 items → key ≡ 0

-- the error is within the window, at none of the erasures, and not zero
pub record StandsBeside (question : Question) (error : ℕ × Fe32) : Type 0 where
  pub within : error.0 < question.window
  pub outside : has question.erasures error.0 ≡ false
  pub not_zero : error.1 ≢ fe32.zero

-- a table of the sketches of all single errors by which errors are gathered: the erasures are
-- within the bound, and an entry has room for each location
pub record IsTableFor (code : Code) (bound checksum_length : ℕ) (question : Question)
    (rows : List (ℕ × ℕ)) (columns entries : List ℕ)
    : Type 0 where
  pub few : length question.erasures ≤ bound
  pub wide : question.window < 2 ^ 24
  pub table : IsTable (min checksum_length 12) code.generator question.erasures question.window
      rows columns entries

abbrev pub IsSketched : Code → (bound checksum_length : ℕ) → Question → Table → Type 0
IsSketched code bound checksum_length question t =
    IsTableFor code bound checksum_length question t.rows.now t.columns.now t.entries.now
