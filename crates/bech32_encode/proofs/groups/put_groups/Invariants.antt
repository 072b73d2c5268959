use Rattle.std.proofs.Common.{◌*◌, map, take}
use Rattle.bech32_bits.specs.Bits.{to_fes}
use Rattle.bech32_checksum.specs.Code.{IsResidueAfter}
use Rattle.bech32_checksum.specs.Encoded.{char_of_element}
use Rattle.bech32_encode.specs.Buffers.{PutsBehind}
use Rattle.bech32_encode.proofs.groups.put_groups.Given as goal

abbrev pub invariant-loop-group : goal.invariant-loop-group
invariant-loop-group g l =
    let fes = to_fes (take (l.group * 5) l.bytes) in
    record {
      text : PutsBehind (map char_of_element fes) l.initial.buffer l.initial.count l.buffer l.count;
      residue : IsResidueAfter g.Ck.MidstateRepr.PackedFe32.number g.Ck.Checksum.code l.initial.engine fes l.engine;
    }
