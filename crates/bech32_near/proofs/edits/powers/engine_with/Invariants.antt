use Rattle.std.proofs.Common.{replicate}
use Rattle.bech32_checksum.specs.Code.{IsResidueOf}
use Rattle.bech32_near.proofs.edits.powers.engine_with.Given as goal

abbrev pub invariant-loop-i : goal.invariant-loop-i
invariant-loop-i g l = IsResidueOf g.Ck.MidstateRepr.PackedFe32.number g.Ck.Checksum.code l.engine (replicate l._i l.element)
