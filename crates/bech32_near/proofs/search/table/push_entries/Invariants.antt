use Rattle.std.proofs.Common.{ℕ, ◌<◌}
use Rattle.std.specs.List.{Contains}
use Rattle.bech32_near.specs.search.Sketch.{entry_number, key_of}
use Rattle.bech32_near.proofs.search.table.push_entries.Given as goal

abbrev pub invariant-loop-value : goal.invariant-loop-value
invariant-loop-value g l = record {
  kept : (number : ℕ) → Contains l.fn.entries.items number → Contains l.entries.items number;
  new : (value : ℕ) → 0 < value → value < l.value → Contains l.entries.items (entry_number (key_of l.five value) l.location value);
}
