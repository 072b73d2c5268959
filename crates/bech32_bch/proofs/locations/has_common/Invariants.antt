use Rattle.std.proofs.Common.{ℕ, take}
use Rattle.bech32_poly.specs.Distinct.{IsAmong}
use Rattle.bech32_bch.proofs.locations.has_common.Given as goal

abbrev pub invariant-loop-location : goal.invariant-loop-location
invariant-loop-location l = (i : ℕ) → IsAmong i (take l.location-index l.locations) → IsAmong i l.others → ⊥
