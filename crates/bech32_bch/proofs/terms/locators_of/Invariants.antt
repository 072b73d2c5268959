use Rattle.std.proofs.Common.{◌≡◌, take}
use Rattle.bech32_bch.specs.Search.{locators}
use Rattle.bech32_bch.proofs.terms.locators_of.Given as goal

abbrev pub invariant-loop-location : goal.invariant-loop-location
invariant-loop-location g l = l.list ≡ locators g.K.Arithmetic.ops l.base (take l.location-index l.locations)
