use Rattle.std.proofs.Common.{◌≡◌, ◌-◌, ◌%◌, vec_len}
use Rattle.bech32_bits.specs.Bits.{cut_in_fives}
use Rattle.bech32_bits.proofs.plain.padded_to_fives.Given as goal

abbrev pub invariant-loop-all : goal.invariant-loop-all
invariant-loop-all l = cut_in_fives l.all.items ≡ cut_in_fives l.initial.all.items

abbrev pub decreases-loop-all : goal.decreases-loop-all
decreases-loop-all l = (5 - vec_len l.all % 5) % 5
