-- What a clause reads of a `Memory`.
use Rattle.std.specs.Prelude.{◌≡◌, ◌<◌, ◌⊎◌, ℕ}
use Rattle.caller_memory.specs.declared.memory.Memory.{Memory}

-- how many bytes it has
abbrev pub memory_size : Memory → ℕ
memory_size m = m.size

-- memory is as it was; or what is said of it holds, and it has no bytes
abbrev pub LeavesMemory : Memory → Memory → Type 0 → Type 0
LeavesMemory old new out_of_memory = (new ≡ old) ⊎ (out_of_memory × (memory_size new ≡ 0))

-- memory did not come back: it had bytes, and has none
abbrev pub IsKept : Memory → Memory → Type 0
IsKept old new = (0 < memory_size old) × (memory_size new ≡ 0)
