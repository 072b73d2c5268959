use Rattle.std.proofs.Common.{ℕ, map}
use Rattle.bech32_encode.specs.Buffers.{PutsBehind}
use Rattle.bech32_checksum.specs.Code.{IsResidueAfter, bech32m}
use Rattle.bech32_checksum.specs.Encoded.{char_of_element}
use Rattle.bech32_small.proofs.text.put_text.Given as goal

abbrev pub invariant-loop-fe : goal.invariant-loop-fe
invariant-loop-fe g l = record {
  text : PutsBehind (map char_of_element l.yielded) l.initial.buffer l.initial.count l.buffer l.count;
  residue : IsResidueAfter (λ (n : ℕ). n) bech32m l.initial.engine l.yielded l.engine;
}
