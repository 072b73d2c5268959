use Rattle.std.proofs.Common.{◌≡◌, length, true, false, ap, arith}
use Rattle.bech32_correction.proofs.in_place.listed.Goals as goal

refused : {P : Type 0} → false ≡ true → P
refused h = absurd (cc h)

pub unreachable-requires : goal.unreachable-requires
unreachable-requires c = refused (rw c.in-Err.is at (c.from_slice.ensures.in_place (omega (arith, c.as_slice.ensures.few))))
