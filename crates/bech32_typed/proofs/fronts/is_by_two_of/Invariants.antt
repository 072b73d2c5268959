use Rattle.std.proofs.Common.{◌≡◌, false, map}
use Rattle.std.specs.List.{list_any, range_with_len}
use Rattle.bech32_typed.specs.Fronts.{is_by_one}
use Rattle.bech32_typed.specs.Slips.{after_slip}
use Rattle.bech32_typed.proofs.fronts.is_by_two_of.Given as goal

abbrev pub invariant-loop-i : goal.invariant-loop-i
invariant-loop-i l = list_any (is_by_one l.right) (map (after_slip l.slip l.front) (range_with_len 0 l.i)) ≡ false
