-- What a clause reads of a `Lent`.
use Rattle.std.specs.Prelude.{◌<◌, ◌≤◌, ◌*◌, ◌/◌, ◌^◌, ℕ}
use Rattle.caller_memory.specs.Memory.{memory_size}
use Rattle.caller_memory.specs.declared.lent.Lent.{Lent}
use Rattle.caller_memory.specs.declared.memory.Memory.{Memory}

-- the memory that it gives
abbrev pub lent_memory : Lent → Memory
lent_memory l = l.slot

-- a block of this many bytes, with this alignment, is at most the whole units of 16 bytes of a
-- memory
abbrev pub FitsIn : Memory → ℕ → ℕ → Type 0
FitsIn m size align = (size ≤ memory_size m / 16 * 16) × (size < 2 ^ 63) × (align ≤ 16)
