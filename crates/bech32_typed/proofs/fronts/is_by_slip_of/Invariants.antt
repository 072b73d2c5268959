use Rattle.std.proofs.Common.{◌≡◌, false, map}
use Rattle.std.specs.List.{list_any, range_with_len}
use Rattle.bech32_typed.specs.Fronts.{stands_for}
use Rattle.bech32_typed.specs.Slips.{after_slip}
use Rattle.bech32_typed.proofs.fronts.is_by_slip_of.Given as goal

abbrev pub invariant-loop-i : goal.invariant-loop-i
invariant-loop-i l = list_any (λ frame. stands_for frame l.right) (map (after_slip l.slip l.front) (range_with_len 0 l.i)) ≡ false
