-- What a watched reader or writer keeps.
use Rattle.std.specs.Prelude.{ℕ, Bool}
use Rattle.std.specs.Borrow.{GName}
use Rattle.io_traits.specs.declared.Watched.{Watched}

-- the device
abbrev pub device_of : {D : Type 0} → Watched D → D
device_of w = w.device.now

-- the reference that it was made of: two states with one name watch the same device
abbrev pub reference_of : {D : Type 0} → Watched D → GName
reference_of w = w.device.ghost_name

-- the failed mark
abbrev pub is_marked : {D : Type 0} → Watched D → Bool
is_marked w = w.marked

-- the last flush succeeded, and no byte was taken since
abbrev pub was_flushed : {D : Type 0} → Watched D → Bool
was_flushed w = w.flushed

-- how many flushes succeeded
abbrev pub flush_count : {D : Type 0} → Watched D → ℕ
flush_count w = w.flushes

-- how many reads may still ask the device
abbrev pub reads_to_come : {D : Type 0} → Watched D → ℕ
reads_to_come w = w.reads_left
