use Rattle.std.proofs.Common.{◌≡◌, ◌<◌, ◌*◌, ℕ, length}
use Rattle.std.specs.List.{Contains}
use Rattle.bech32_near.specs.search.Sketch.{entry_number, five_of, key_of}
use Rattle.bech32_near.proofs.search.table.entries_of.Given as goal

abbrev pub invariant-loop-location : goal.invariant-loop-location
invariant-loop-location g l =
    length l.columns ≡ 5 * l.window → (location : ℕ) → location < l.location → (value : ℕ) → 0 < value → value < 32
    → Contains l.entries.items (entry_number (key_of (five_of l.columns l.window location) value) location value)
