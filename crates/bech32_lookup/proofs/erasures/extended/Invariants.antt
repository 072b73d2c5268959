use Rattle.std.proofs.Common.{◌≡◌, take}
use Rattle.bech32_bch.specs.Erasures.{with_erasures}
use Rattle.bech32_lookup.proofs.erasures.extended.Given as goal

abbrev pub invariant-loop-location : goal.invariant-loop-location
invariant-loop-location g l = l.erasures ≡ with_erasures l.fn.erasures (take l.location-index l.more)
