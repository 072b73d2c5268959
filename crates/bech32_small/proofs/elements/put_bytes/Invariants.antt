use Rattle.std.proofs.Common.{◌≡◌, ◌<◌, ◌++◌, ℕ, List, drop}
use Rattle.bech32_bits.specs.Bits.{bits, cut_in_eights, fe_bits, to_bytes}
use Rattle.bech32_encode.specs.Buffers.{PutsBehind}
use Rattle.bech32_gf.specs.Fe32.{elements_of}
use Rattle.bech32_small.proofs.elements.put_bytes.Given as goal

-- what was put, and the bytes of the bits that are held and of the characters to come
abbrev pub invariant-loop-c : goal.invariant-loop-c
invariant-loop-c l = record {
  few : l.left < 8;
  small : l.held < 1024;
  smaller : l.left < 3 → l.held < 32;
  put : (done : List ℕ)
      × (done ++ cut_in_eights (bits l.left l.held ++ fe_bits (elements_of (drop l.c-index l.characters))) ≡ to_bytes (elements_of l.characters))
      × PutsBehind done l.initial.buffer 0 l.buffer l.count;
}
