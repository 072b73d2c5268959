use Rattle.std.proofs.Common.{◌≡◌, ◌∙◌, [], Bool, List, map, length, reverse, ap, sym, subst, refl}
use Rattle.bech32_gf.specs.declared.gf32.Fe32.{Fe32}
use Rattle.bech32_checksum.specs.Encoded.{char_of_element}
use Rattle.bech32_checksum.specs.Packed.{digits}
use Rattle.bech32_encode.specs.Buffers.{PutsBehind}
use Rattle.bech32_encode.specs.TextLeft.{checksum_left}
use Rattle.bech32_encode.proofs.ChecksumEnds.{then_checksum-end}
use Rattle.bech32_encode.proofs.TextPieces.{puts_none}
use Rattle.bech32_encode.proofs.pieces.put_end.Goals as goal

pub returns-then-last-clause-text : goal.returns-then-last-clause-text
returns-then-last-clause-text g c =
    let number = g.Ck.MidstateRepr.PackedFe32.number in
    let code = g.Ck.Checksum.code in
    let before = c.args.engine.now in
    let d = c.CHECKSUM_LENGTH.result in
    let size : length code.generator ≡ d = g.met.Ck.Checksum.degree_law ∙ sym c.CHECKSUM_LENGTH.ensures in
    let is : checksum_left number code c.args.last before ≡ reverse (digits d (number c.residue.result.now)) =
    ap (λ (b : Bool). checksum_left number code b before) c.if-last.true
    ∙ then_checksum-end number code before c.input_target_residue.new.self d [] c.input_target_residue.ensures size refl
    ∙ ap (λ q. reverse (digits d (number q))) (sym c.residue.ensures.value) in
    subst (λ (l : List Fe32). PutsBehind (map char_of_element l) c.args.buffer.now c.args.count c.put_row.new.buffer c.put_row.result) (sym is) c.put_row.ensures

pub returns-else-last-clause-text : goal.returns-else-last-clause-text
returns-else-last-clause-text g c =
    let number = g.Ck.MidstateRepr.PackedFe32.number in
    let code = g.Ck.Checksum.code in
    let before = c.args.engine.now in
    puts_none (map char_of_element (checksum_left number code c.args.last before)) c.args.buffer.now c.args.count
    (ap (λ (b : Bool). map char_of_element (checksum_left number code b before)) c.if-last.false)
