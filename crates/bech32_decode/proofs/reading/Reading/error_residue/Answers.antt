use Rattle.std.proofs.Common.{◌∙◌, ◌<◌, ◌*◌, ◌^◌, ℕ, List, length, arith, refl, ap, sym}
use Rattle.std.proofs.lemmas.Nat.{xor_lt}
use Rattle.std.proofs.lemmas.List.{length-set}
use Rattle.bech32_gf.specs.Fe32 as fe32
use Rattle.bech32_gf.specs.Fe32.{element, elements_of}
use Rattle.bech32_gf.specs.declared.gf32.Fe32.{Fe32}
use Rattle.bech32_gf.specs.laws.Fe32Laws.{is_field}
use Rattle.bech32_poly.specs.Polynomial.{coefficient}
use Rattle.bech32_poly.proofs.Lists.{coefficient-add}
use Rattle.bech32_checksum.specs.Code.{Code}
use Rattle.bech32_checksum.specs.Packed.{digit_of}
use Rattle.bech32_checksum.proofs.DigitRows.{coefficient-digits}
use Rattle.bech32_refusals.proofs.Coefficients.{coefficient-replicate, element-digit_of, read-more, rest-less, read-all}
use Rattle.bech32_decode.proofs.reading.Reading.error_residue.Goals as goal

pub loop-place-init : goal.loop-place-init
loop-place-init g c = record {
  size = refl;
  done = λ n h. absurd (omega arith);
  rest = λ n h. coefficient-replicate 25 n _;
}

pub loop-place-preserved : goal.loop-place-preserved
loop-place-preserved g c =
    let number = g.Ck.MidstateRepr.PackedFe32.number c.bitxor-packed.result in
    let wide = g.met.Ck.MidstateRepr.PackedFe32.wide_law in
    let fits = g.met.Ck.Checksum.packing_laws.fits in
    let end = c.CHECKSUM_LENGTH-place-end.ensures in
    let size = c.loop-place.invariant.size in
    let there : c.loop-place.place < length c.loop-place.residue = omega arith in
    record {
      size = length-set _ _ _ ∙ size;
      done = read-more c.loop-place.residue number c.loop-place.place c.from_low_bits.result there
          (c.from_low_bits.ensures ∙ ap element c.unpack.ensures.value ∙ element-digit_of number c.loop-place.place) c.loop-place.invariant.done;
      rest = rest-less c.loop-place.residue c.loop-place.place c.from_low_bits.result c.loop-place.invariant.rest;
    }

pub returns : goal.returns
returns g c = λ n.
    let laws = g.met.Ck.Checksum in
    let words = g.met.Ck.MidstateRepr.PackedFe32 in
    let number = g.Ck.MidstateRepr.PackedFe32.number in
    let code = g.Ck.Checksum.code in
    let d = g.Ck.Checksum.CHECKSUM_LENGTH in
    let s = c.args.self.now in
    let target = g.Ck.Checksum.TARGET_RESIDUE in
    let packed = c.bitxor-packed.result in
    let word = c.TARGET_RESIDUE.result in
    let word_is = ap number c.TARGET_RESIDUE.ensures in
    let left = s.is_reading.leaves in
    let small : number packed < 2 ^ (5 * d) =
    rw (words.bitxor_law s.residue word packed c.bitxor-packed.ensures) (xor_lt (5 * d) (number s.residue) (number word) (rw laws.degree_law at s.is_reading.clear) (rw word_is laws.packing_laws.target_clear)) in
    let end = c.CHECKSUM_LENGTH-place-end.ensures in
    let read = read-all c.loop-place.residue (number packed) d small
    (λ n h. c.loop-place.invariant.done n (omega arith))
    (λ n h. c.loop-place.invariant.rest n (omega arith)) n in
    let remainder_at = ap (λ (l : List Fe32). coefficient fe32.ops l n) (sym left) ∙ coefficient-digits (length code.generator) (number s.residue) n s.is_reading.clear in
    let target_at = ap (λ (k : Code). coefficient fe32.ops k.target n) laws.code_law ∙ coefficient-digits d (number target) n laws.packing_laws.target_clear in
    read
    ∙ words.sum_law s.residue word packed c.bitxor-packed.ensures n
    ∙ ap (λ (k : ℕ). fe32.add (digit_of (number s.residue) n) (digit_of k n)) word_is
    ∙ sym (coefficient-add is_field _ code.target n
    ∙ ap (λ (x : Fe32). fe32.add x (coefficient fe32.ops code.target n)) remainder_at
    ∙ ap (fe32.add (digit_of (number s.residue) n)) target_at)
