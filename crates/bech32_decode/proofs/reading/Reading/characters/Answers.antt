use Rattle.std.proofs.Common.{◌-◌, length, drop, sym, arith, length-drop}
use Rattle.std.proofs.lemmas.List.{take-append-drop}
use Rattle.bech32_decode.proofs.Letters.{is_data-take}
use Rattle.bech32_decode.proofs.reading.Reading.characters.Goals as goal

pub returns-clause-before : goal.returns-clause-before
returns-clause-before g c =
    let degree = g.met.Ck.Checksum.degree_law in
    let a = c.CHECKSUM_LENGTH.ensures in
    let fits = c.requires in
    let bytes = c.args.self.now.data_part.now in
    let n = length bytes - c.CHECKSUM_LENGTH.result in
    let rest = length-drop n bytes in
    record { checksum = drop n bytes; data_part_is = sym (take-append-drop n bytes); size = omega arith }

pub returns-clause-of_alphabet : goal.returns-clause-of_alphabet
returns-clause-of_alphabet g c = is_data-take _ c.args.self.now.data_part.now c.args.self.now.is_reading.grammar.data_bytes
