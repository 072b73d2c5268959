use Rattle.std.proofs.Common.{◌≡◌, ◌*◌, ◌++◌, take, drop}
use Rattle.bech32_bits.specs.Bits.{to_bytes}
use Rattle.bech32_gf.specs.Fe32.{elements_of}
use Rattle.bech32_decode.proofs.data_bytes.put_groups.Given as goal

abbrev pub invariant-loop-group : goal.invariant-loop-group
invariant-loop-group l =
    l.buffer ≡ to_bytes (elements_of (take (l.group * 8) l.characters)) ++ drop (l.group * 5) l.initial.buffer
