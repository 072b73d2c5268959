use Rattle.std.proofs.Common.{◌≡◌}
use Rattle.bech32_checksum.specs.Packed.{digit_of}
use Rattle.bech32_near.specs.search.Sketch.{packed_by}
use Rattle.bech32_near.proofs.search.terms.number_of.Given as goal

abbrev pub invariant-loop-i : goal.invariant-loop-i
invariant-loop-i g l = l.number ≡ packed_by l.size (λ n. (digit_of (g.Ck.MidstateRepr.PackedFe32.number l.row) n).value) l.i
