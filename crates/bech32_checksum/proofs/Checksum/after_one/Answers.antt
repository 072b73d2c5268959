use Rattle.std.proofs.Common.{◌<◌, ◌*◌}
use Rattle.std.proofs.lemmas.Nat.{xor_lt}
use Rattle.bech32_checksum.proofs.Input.{input_result, clear_after}
use Rattle.bech32_checksum.proofs.Checksum.after_one.Goals as goal

pub returns : goal.returns
returns g c =
    let number = g.Self.MidstateRepr.PackedFe32.number in
    let degree = g.Self.Checksum.CHECKSUM_LENGTH in
    let width = g.Self.MidstateRepr.PackedFe32.WIDTH in
    let laws = g.met.Self.Checksum.packing_laws in
    let pushed = c.mul_by_x_then_add-xn.new.self in
    let small : c.to_u8.result < 32 = rw c.to_u8.ensures c.args.element.in_field in
    let shifted = clear_after degree width (number c.args.residue) (number pushed) c.to_u8.result
    laws.empty (g.met.Self.MidstateRepr.PackedFe32.empty_law pushed) (rw c.CHECKSUM_LENGTH.ensures at c.mul_by_x_then_add-xn.ensures.others)
    laws.fits small in
    record {
      clear = rw (g.met.Self.MidstateRepr.PackedFe32.bitxor_law _ _ _ c.bitxor.ensures) (xor_lt (5 * degree) _ _ shifted c.generator_times.ensures.row.clear);
      after = λ p h.
          input_result g.Self.Checksum.code.generator p degree width
          (number c.args.residue) (number pushed) (number c.generator_times.result) (number c.bitxor.result)
          c.mul_by_x_then_add-xn.result c.args.element
          g.met.Self.Checksum.degree_law laws.fits
          (rw c.CHECKSUM_LENGTH.ensures at c.mul_by_x_then_add-xn.ensures.highest) (rw (c.CHECKSUM_LENGTH.ensures, c.to_u8.ensures) at c.mul_by_x_then_add-xn.ensures.others)
          (rw c.from_low_bits.ensures at c.generator_times.ensures.row.elements_are)
          (g.met.Self.MidstateRepr.PackedFe32.sum_law _ _ _ c.bitxor.ensures) h;
    }
