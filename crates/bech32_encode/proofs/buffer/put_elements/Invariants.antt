use Rattle.std.proofs.Common.{map}
use Rattle.bech32_encode.specs.Buffers.{PutsBehind}
use Rattle.bech32_checksum.specs.Code.{IsResidueAfter}
use Rattle.bech32_checksum.specs.Encoded.{char_of_element}
use Rattle.bech32_encode.proofs.buffer.put_elements.Given as goal

abbrev pub invariant-loop-fe : goal.invariant-loop-fe
invariant-loop-fe g l =
    let number = g.Ck.MidstateRepr.PackedFe32.number in
    let code = g.Ck.Checksum.code in
    record {
      text : PutsBehind (map char_of_element l.yielded) l.initial.buffer l.initial.count l.buffer l.count;
      residue : IsResidueAfter number code l.initial.engine l.yielded l.engine;
    }
