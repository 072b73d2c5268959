use Rattle.std.proofs.Common.{◌≡◌, ◌/◌, get_or, bit_xor}
use Rattle.bech32_checksum.specs.Packed.{sum_of_words}
use Rattle.bech32_small.specs.declared.rows.TheConstants.{DIVIDED}
use Rattle.bech32_small.proofs.rows.divided_by_x.Given as goal

abbrev pub invariant-loop-i : goal.invariant-loop-i
invariant-loop-i l = l.divided ≡ bit_xor (l.fn.row / 32) (sum_of_words (λ i. get_or DIVIDED i 0) l.i l.low)
