use Rattle.std.proofs.Common.{◌≡◌, drop}
use Rattle.bech32_checksum.specs.OneError.{leading}
use Rattle.bech32_checksum.proofs.checksums.ones.leading_of.Given as goal

abbrev pub invariant-loop-element : goal.invariant-loop-element
invariant-loop-element l = record { same : leading l.fn.list ≡ leading (drop l.element-index l.fn.list) }
