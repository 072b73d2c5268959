use Rattle.std.proofs.Common.{◌≡◌, ◌+◌, ◌*◌, ◌++◌, length, map, take, drop}
use Rattle.bech32_bits.specs.Bits.{to_fes}
use Rattle.bech32_checksum.specs.Code.{IsResidueAfter}
use Rattle.bech32_checksum.specs.Encoded.{char_of_element}
use Rattle.bech32_encode.proofs.groups.put_groups_in_room.Given as goal

abbrev pub invariant-loop-group : goal.invariant-loop-group
invariant-loop-group g l =
    let fes = to_fes (take (l.group * 5) l.bytes) in
    record {
      size : length fes ≡ l.group * 8;
      text : l.buffer ≡ take l.at l.initial.buffer ++ (map char_of_element fes ++ drop (l.at + l.group * 8) l.initial.buffer);
      residue : IsResidueAfter g.Ck.MidstateRepr.PackedFe32.number g.Ck.Checksum.code l.initial.engine fes l.engine;
    }
