use Rattle.std.proofs.Common.{◌≡◌, ◌^◌, min}
use Rattle.bech32_gf.specs.Fe32 as fe32
use Rattle.bech32_near.specs.search.Sketch.{sketch_at}
use Rattle.bech32_near.proofs.Entries.{columns_up_to}
use Rattle.bech32_near.proofs.search.terms.columns_of.Given as goal

abbrev pub invariant-loop-i : goal.invariant-loop-i
invariant-loop-i g l =
    l.columns.items ≡ columns_up_to
    (λ i location. sketch_at l.rows (min g.Ck.Checksum.CHECKSUM_LENGTH 12) g.Ck.Checksum.code.generator location (fe32.element (2 ^ i)))
    l.window l.i
