-- Texts that are listed in buffers, in memory that is lent.
use Rattle.std.specs.Prelude.{◌≡◌, ◌==◌, ◌<◌, ◌⊎◌, ℕ, List, length, flat_map, take, true, false}
use Rattle.std.specs.Prelude.{Result, Ok, Err, IfOk, MatchResult}
use Rattle.bech32_encode.specs.Buffers.{IsPut}
use Rattle.caller_memory.specs.Memory.{IsKept, LeavesMemory, memory_size}
use Rattle.caller_memory.specs.declared.memory.Memory.{Memory as Lent}
use Rattle.bech32_calls.specs.Fitting.{FirstFit, IsMost, PutsRows, RowsFit}
use Rattle.bech32_calls.specs.declared.listed.Listed.{Listed}
use Rattle.bech32_calls.specs.declared.refusal.Refusal.{Refusal}
use Rattle.bech32_calls.specs.declared.refusal.Refusal.TheVariants.{Memory}

-- where all texts were put, P holds of their number
abbrev pub IfAllPut : Result Listed Refusal → (ℕ → Type 0) → Type 0
IfAllPut r P = IfOk r (λ listed. listed.fit ≡ true → P listed.count)

-- where not all were put, P holds of their number
abbrev pub IfNotAllPut : Result Listed Refusal → (ℕ → Type 0) → Type 0
IfNotAllPut r P = IfOk r (λ listed. listed.fit ≡ false → P listed.count)

-- a call ends well, and P holds of what it tells
abbrev pub EndsWell : Result Listed Refusal → (Listed → Type 0) → Type 0
EndsWell r P = (listed : Listed) × (r ≡ Ok listed) × P listed

-- a call is refused for memory
abbrev pub LacksMemory : Result Listed Refusal → Type 0
LacksMemory r = r ≡ Err Memory

-- lent memory comes back; or the call is refused for memory, and what had bytes has none
abbrev pub ReturnsMemory : Lent → Lent → Result Listed Refusal → Type 0
ReturnsMemory old new r = MatchResult r
    (λ _. new ≡ old)
    (λ e. LeavesMemory old new ((e ≡ Memory) × (0 < memory_size old)))

-- lent memory comes back, and a call ends as it did before; or it does not come back, and the call
-- is refused for it
abbrev pub EndsWith : Lent → Lent → Result Listed Refusal → Result Listed Refusal → Type 0
EndsWith old new listed r = ((new ≡ old) × (r ≡ listed)) ⊎ (IsKept old new × LacksMemory r)

-- the texts of rows, all or the first that fit, are put into a buffer
pub record ListsTexts {R : Type 0} (text : R → List ℕ) (rows : List R)
    (old new : List ℕ) (listed : Listed) : Type 0 where
  pub count_is : listed.count ≡ length rows
  pub put_count : ℕ
  pub fit_is : listed.fit ≡ (put_count == length rows)
  pub most : IsMost (FirstFit text rows (length old)) (length rows) put_count
  pub put : IsPut (flat_map text (take put_count rows)) old new
      (length (flat_map text (take put_count rows)))

-- rows, all or the first that fit, are put into buffers
pub record ListsRows {R : Type 0} (kind place : R → ℕ) (text : R → List ℕ) (rows : List R)
    (kinds kinds' places places' texts texts' : List ℕ) (listed : Listed) : Type 0 where
  pub count_is : listed.count ≡ length rows
  pub put_count : ℕ
  pub fit_is : listed.fit ≡ (put_count == length rows)
  pub most : IsMost (RowsFit text rows (length kinds) (length places) (length texts))
      (length rows) put_count
  pub put : PutsRows kind place text (take put_count rows) kinds kinds' places places' texts texts'
