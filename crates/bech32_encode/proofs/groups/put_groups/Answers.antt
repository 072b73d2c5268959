use Rattle.std.proofs.Common.{◌≡◌, ◌<◌, ◌∙◌, ◌+◌, ◌*◌, ◌/◌, ◌++◌, List, length, map, take, ap, sym, arith}
use Rattle.std.proofs.lemmas.List.{take_rest}
use Rattle.bech32_gf.specs.declared.gf32.Fe32.{Fe32}
use Rattle.bech32_bits.specs.Bits.{to_fes}
use Rattle.bech32_checksum.specs.Encoded.{char_of_element}
use Rattle.bech32_encode.proofs.WholeGroups.{fes_more, characters-append, residue_then}
use Rattle.bech32_encode.proofs.TextPieces.{puts_then}
use Rattle.bech32_encode.proofs.groups.put_groups.Goals as goal

pub loop-group-preserved : goal.loop-group-preserved
loop-group-preserved g c =
    let number = g.Ck.MidstateRepr.PackedFe32.number in
    let code = g.Ck.Checksum.code in
    let i = c.loop-group.group in
    let bytes = c.args.bytes.now in
    let below : i < length bytes / 5 = omega arith in
    let before : List Fe32 = to_fes (take (i * 5) bytes) in
    let fes = c.eight_elements.result in
    let more = fes_more i bytes _ below (take_rest bytes (i * 5)) in
    let all : to_fes (take ((i + 1) * 5) bytes) ≡ before ++ fes =
    more ∙ ap (λ (xs : List Fe32). before ++ xs) (sym (c.eight_elements.ensures ∙ ap to_fes c.first_five-five.ensures)) in
    record {
      text = puts_then (map char_of_element before) (map char_of_element fes) (map char_of_element (to_fes (take ((i + 1) * 5) bytes))) _ _ _ _ _ _
          (characters-append before fes _ all) c.loop-group.invariant.text c.put_group-count.ensures.text;
      residue = residue_then number code before fes (to_fes (take ((i + 1) * 5) bytes)) _ _ _ all c.loop-group.invariant.residue c.put_group-count.ensures.residue;
    }
