use Rattle.std.proofs.Common.{◌*◌, ◌/◌, length, map, take}
use Rattle.std.proofs.lemmas.List.{take_rest}
use Rattle.bech32_bits.specs.Bits.{to_fes}
use Rattle.bech32_checksum.specs.Encoded.{char_of_element}
use Rattle.bech32_encode.proofs.WholeGroups.{all_fes, characters-append, residue_then}
use Rattle.bech32_encode.proofs.TextPieces.{puts_then}
use Rattle.bech32_encode.proofs.groups.put_bytes.Goals as goal

pub returns-clause-text : goal.returns-clause-text
returns-clause-text g c =
    let bytes = c.args.bytes.now in
    let n = length bytes / 5 * 5 in
    let all = all_fes bytes _ (take_rest bytes n) in
    puts_then (map char_of_element (to_fes (take n bytes))) _ (map char_of_element (to_fes bytes)) _ _ _ _ _ _
    (characters-append _ _ _ all) c.put_whole_groups-end.ensures.text c.put_last.ensures.text

pub returns-clause-residue : goal.returns-clause-residue
returns-clause-residue g c =
    let number = g.Ck.MidstateRepr.PackedFe32.number in
    let code = g.Ck.Checksum.code in
    let bytes = c.args.bytes.now in
    let n = length bytes / 5 * 5 in
    let all = all_fes bytes _ (take_rest bytes n) in
    residue_then number code (to_fes (take n bytes)) _ (to_fes bytes) _ _ _ all c.put_whole_groups-end.ensures.residue c.put_last.ensures.residue
