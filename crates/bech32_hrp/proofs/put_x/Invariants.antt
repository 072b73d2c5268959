use Rattle.bech32_hrp.specs.Hrp.{graphic_or_x}
use Rattle.bech32_hrp.proofs.MappedInPlace.{IsMappedUpTo}
use Rattle.bech32_hrp.proofs.put_x.Given as goal

abbrev pub invariant-loop-b : goal.invariant-loop-b
invariant-loop-b l = IsMappedUpTo graphic_or_x l.b-index l.fn.bytes l.bytes
