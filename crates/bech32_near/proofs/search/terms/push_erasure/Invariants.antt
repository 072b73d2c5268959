use Rattle.std.proofs.Common.{◌≡◌, ◌<◌, ℕ, min}
use Rattle.bech32_gf.specs.declared.gf32.Fe32.{Fe32}
use Rattle.bech32_near.specs.search.Sketch.{cleared_by, sketch_at}
use Rattle.bech32_near.proofs.search.terms.push_erasure.Given as goal

abbrev pub invariant-loop-value : goal.invariant-loop-value
invariant-loop-value g l = record {
  erased : (v : Fe32) → 0 < v.value → v.value < l.value → sketch_at l.rows.items (min g.Ck.Checksum.CHECKSUM_LENGTH 12) g.Ck.Checksum.code.generator l.location v ≡ 0;
  kept : (other : ℕ) → cleared_by l.fn.rows.items other ≡ 0 → cleared_by l.rows.items other ≡ 0;
}
