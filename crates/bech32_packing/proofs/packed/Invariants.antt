use Rattle.std.proofs.Common.{◌≡◌, take}
use Rattle.bech32_packing.specs.Words.{packed_times}
use Rattle.bech32_packing.proofs.packed.Given as goal

abbrev pub invariant-loop-element : goal.invariant-loop-element
invariant-loop-element l = l.word ≡ packed_times l.factor (take l.element-index l.elements)
