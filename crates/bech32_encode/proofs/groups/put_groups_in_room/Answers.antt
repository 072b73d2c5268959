use Rattle.std.proofs.Common.{◌≡◌, ◌≤◌, ◌<◌, ◌∙◌, ◌+◌, ◌*◌, ◌/◌, ◌++◌, List, length, map, take, refl, ap, sym, arith, length-append}
use Rattle.std.proofs.lemmas.List.{take_rest, length-map}
use Rattle.bech32_gf.specs.declared.gf32.Fe32.{Fe32}
use Rattle.bech32_bits.specs.Bits.{to_fes}
use Rattle.bech32_checksum.specs.Encoded.{char_of_element}
use Rattle.bech32_encode.proofs.WholeGroups.{fes_more, characters-append, residue_then}
use Rattle.bech32_checksum.specs.Word.{word_elements}
use Rattle.bech32_encode.proofs.Placed.{placed_more}
use Rattle.bech32_encode.proofs.groups.put_groups_in_room.Goals as goal

pub loop-group-preserved : goal.loop-group-preserved
loop-group-preserved g c =
    let i = c.loop-group.group in
    let bytes = c.args.bytes.now in
    let below : i < length bytes / 5 = omega arith in
    let before : List Fe32 = to_fes (take (i * 5) bytes) in
    let fes : List Fe32 = word_elements c.word_of_front-word.result in
    let more = fes_more i bytes _ below (take_rest bytes (i * 5)) in
    let all : to_fes (take ((i + 1) * 5) bytes) ≡ before ++ fes =
    more ∙ ap (λ (xs : List Fe32). before ++ xs) (sym c.word_of_front-word.ensures.elements) in
    let inside : c.args.at ≤ length c.args.buffer.now = omega arith in
    record {
      size = ap length all ∙ length-append before fes ∙ (omega (arith, c.loop-group.invariant.size));
      text = placed_more (map char_of_element before) (map char_of_element fes) (map char_of_element (to_fes (take ((i + 1) * 5) bytes))) _ _ _
          c.args.at (i * 8) (c.args.at + i * 8) (c.args.at + (i + 1) * 8)
          inside (length-map before char_of_element ∙ c.loop-group.invariant.size) refl (omega arith)
          (characters-append before fes _ all) c.loop-group.invariant.text c.put_word.ensures;
      residue = residue_then g.Ck.MidstateRepr.PackedFe32.number g.Ck.Checksum.code before fes (to_fes (take ((i + 1) * 5) bytes)) _ _ _ all c.loop-group.invariant.residue c.input_word.ensures;
    }
