use Rattle.std.proofs.Common.{◌++◌, [], ◌∷◌, map, reverse, option_to_list, refl}
use Rattle.bech32_gf.specs.Fe32 as fe32
use Rattle.bech32_bits.specs.Bits.{to_fes}
use Rattle.bech32_checksum.specs.Encoded.{char_of_element}
use Rattle.bech32_encode.specs.TextFrom.{text_front}
use Rattle.bech32_checksum.specs.Packed.{digits}
use Rattle.bech32_encode.proofs.TextPieces.{puts_then, put_as_fits, encoded_pieces}
use Rattle.bech32_checksum.proofs.Digits.{length-tabulate}
use Rattle.bech32_encode.proofs.ChecksumEnds.{target-length}
use Rattle.bech32_encode.proofs.text.put_text_of_part.Goals as goal

pub returns : goal.returns
returns g c =
    let number = g.Ck.MidstateRepr.PackedFe32.number in
    let code = g.Ck.Checksum.code in
    let laws = g.met.Ck.Checksum in
    let hrp = c.args.part.now in
    let version = option_to_list c.args.version in
    let fes = to_fes c.args.bytes.now in
    let first = text_front hrp ++ map char_of_element version in
    let second = first ++ map char_of_element fes in
    let text = second ++ map char_of_element (reverse (digits c.CHECKSUM_LENGTH.result (number c.residue.result.now))) in (
      text,
      encoded_pieces number code g.Ck.Checksum.CHECKSUM_LENGTH laws.degree_law (target-length g.Ck.Checksum.code _ _ laws.code_law (length-tabulate _ _) laws.degree_law)
          hrp version fes c.input_target_residue.new.self c.residue.result.now c.CHECKSUM_LENGTH.result c.residue.ensures.value c.CHECKSUM_LENGTH.ensures
          (c.input_target_residue.ensures _ (c.put_bytes-end.ensures.residue _ (c.put_version-start.ensures.residue _ (c.input_part.ensures (fe32.one ∷ []) c.new-engine.ensures)))),
      put_as_fits text c.args.buffer.now c.put_row.new.buffer c.put_row.result
          (puts_then second _ text _ _ _ _ _ _ refl
          (puts_then first _ second _ _ _ _ _ _ refl
          (puts_then (text_front hrp) _ first _ _ _ _ _ _ refl c.put_front_of-front.ensures c.put_version-start.ensures.text) c.put_bytes-end.ensures.text)
          c.put_row.ensures),
    )
