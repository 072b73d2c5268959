use Rattle.std.proofs.Common.{◌≡◌}
use Rattle.bech32_checksum.specs.Packed.{number_of_digits}
use Rattle.bech32_checksum.proofs.packed.PackedFe32.pack.Given as goal

abbrev pub invariant-loop-value : goal.invariant-loop-value
invariant-loop-value g l = g.Self.PackedFe32.number l.row ≡ number_of_digits l.yielded
