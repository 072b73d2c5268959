use Rattle.std.proofs.Common.{take}
use Rattle.bech32_near.proofs.Highest.{IsHighest}
use Rattle.bech32_near.proofs.search.gathering.highest_of.Given as goal

abbrev pub invariant-loop-erasure : goal.invariant-loop-erasure
invariant-loop-erasure l = IsHighest l.location (take l.erasure-index l.erasures) l.erasures l.highest
