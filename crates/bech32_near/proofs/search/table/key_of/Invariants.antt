use Rattle.std.proofs.Common.{◌≡◌, get_or}
use Rattle.bech32_checksum.specs.Packed.{sum_of_words}
use Rattle.bech32_near.proofs.search.table.key_of.Given as goal

abbrev pub invariant-loop-i : goal.invariant-loop-i
invariant-loop-i l = l.key ≡ sum_of_words (λ i. get_or l.five i 0) l.i l.value
