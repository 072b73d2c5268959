use Rattle.std.proofs.Common.{min, take}
use Rattle.bech32_near.specs.search.Sketch.{AreForgotten}
use Rattle.bech32_near.proofs.search.terms.rows_of.Given as goal

abbrev pub invariant-loop-location : goal.invariant-loop-location
invariant-loop-location g l = AreForgotten l.rows.items (min g.Ck.Checksum.CHECKSUM_LENGTH 12) g.Ck.Checksum.code.generator (take l.location-index l.erasures)
