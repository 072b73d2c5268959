use Rattle.std.proofs.Common.{◌≡◌, ◌++◌, map}
use Rattle.std.specs.List.{filter, range_with_len}
use Rattle.bech32_typed.specs.Fronts.{front_of, is_front_by}
use Rattle.bech32_typed.proofs.fronts.push_fronts.Given as goal

abbrev pub invariant-loop-size : goal.invariant-loop-size
invariant-loop-size g l = l.found.items
    ≡ l.fn.found.items ++ map (front_of l.slips) (filter (is_front_by l.right l.text l.slips) (range_with_len 0 l.size))
