use Rattle.std.proofs.Common.{◌≡◌, ◌-◌, length, drop, refl, sym, arith, length-drop}
use Rattle.std.proofs.lemmas.List.{take-append-drop}
use Rattle.bech32_decode.proofs.Letters.{is_data-take}
use Rattle.bech32_decode.proofs.unchecked.UncheckedHrpstring.remove_checksum.Goals as goal

pub overflow_sub-end : goal.overflow_sub-end
overflow_sub-end g c =
    let degree = g.met.Ck.Checksum.degree_law in
    let a = c.CHECKSUM_LENGTH.ensures in
    let fits = c.requires in
    omega arith

pub invariant_of-result : goal.invariant_of-result
invariant_of-result g c = record { of_alphabet = is_data-take _ c.args.self.data_part_ascii.now c.args.self.of_alphabet }

pub returns : goal.returns
returns g c =
    let degree = g.met.Ck.Checksum.degree_law in
    let a = c.CHECKSUM_LENGTH.ensures in
    let fits = c.requires in
    let bytes = c.args.self.data_part_ascii.now in
    let n = length bytes - c.CHECKSUM_LENGTH.result in
    let rest : length (drop n bytes) ≡ length bytes - n = length-drop n bytes in
    record {
      hrp = refl;
      characters = record { checksum = drop n bytes; data_part_is = sym (take-append-drop n bytes); size = omega arith };
      text_length = refl;
    }
