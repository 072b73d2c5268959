use Rattle.std.proofs.Common.{◌≡◌, ◌<◌, ◌*◌, ℕ, sym, ◌∙◌, ap, arith, get_or, length, bit_xor}
use Rattle.std.proofs.lemmas.Option.{slice_get-get_or, get_or_from_slice_get}
use Rattle.std.proofs.lemmas.Nat.{xor_lt}
use Rattle.std.proofs.Math.Pow.{pow_pos}
use lib.Bits.{xor_self}
use Rattle.bech32_gf.specs.Fe32 as fe32
use Rattle.bech32_poly.specs.Polynomial.{scale}
use Rattle.bech32_checksum.specs.Code.{Code}
use Rattle.bech32_checksum.specs.Packed.{digit_of}
use Rattle.bech32_checksum.proofs.Words.{word_digit}
use Rattle.bech32_checksum.proofs.PartialProduct.{zero_digit, added, kept, scaled_word, word-added, word-kept}
use Rattle.bech32_checksum.proofs.Checksum.generator_times.Goals as goal
use Rattle.bech32_checksum.proofs.Checksum.generator_times.Goals.{then-bits-i-eq1, else-bits-i-eq1}

pub loop-i-init : goal.loop-i-init
loop-i-init g c =
    let number = g.Self.MidstateRepr.PackedFe32.number in
    let one = g.Self.MidstateRepr.PackedFe32.ONE in
    let zero_there : number c.bitxor-sum.result ≡ 0 =
    g.met.Self.MidstateRepr.PackedFe32.bitxor_law c.ONE.result c.ONE-2.result c.bitxor-sum.result c.bitxor-sum.ensures
    ∙ (ap (λ x. bit_xor (number x) (number c.ONE-2.result)) c.ONE.ensures
    ∙ (ap (λ x. bit_xor (number one) (number x)) c.ONE-2.ensures ∙ xor_self (number one))) in
    record {
      clear = rw zero_there (pow_pos (5 * g.Self.Checksum.CHECKSUM_LENGTH));
      digits = λ n. ap (λ m. digit_of m n) zero_there ∙ zero_digit n;
      words = zero_there;
    }

pub loop-i-preserved : goal.loop-i-preserved
loop-i-preserved g c = elim c.if-bits-i-eq1.branch [
  | then-bits-i-eq1 w ↦
      let number = g.Self.MidstateRepr.PackedFe32.number in
      let words = g.Self.Checksum.GENERATOR_SH in
      let target = g.Self.Checksum.TARGET_RESIDUE in
      let i : ℕ = c.loop-i.i in
      let five : length words ≡ 5 = g.met.Self.Checksum.packing_laws.five in
      let here : i < length words = rw five (omega arith) in
      let read = get_or w.GENERATOR_SH.result i w.index-GENERATOR_SH-i.result in
      let word : read ≡ get_or words i target =
      ap (λ xs. get_or xs i w.index-GENERATOR_SH-i.result) w.GENERATOR_SH.ensures
      ∙ get_or_from_slice_get words i (get_or words i target) w.index-GENERATOR_SH-i.result (slice_get-get_or words i target here) in
      let sum : number w.bitxor-sum-then-bits-i-eq1.result ≡ bit_xor (number c.loop-i.sum) (number read) =
      g.met.Self.MidstateRepr.PackedFe32.bitxor_law c.loop-i.sum read w.bitxor-sum-then-bits-i-eq1.result w.bitxor-sum-then-bits-i-eq1.ensures in
      let total : number c.if-bits-i-eq1.sum ≡ bit_xor (number c.loop-i.sum) (number (get_or words i target)) =
      ap number w.sum-is ∙ (sum ∙ ap (λ x. bit_xor (number c.loop-i.sum) (number x)) word) in
      record {
        clear = rw total (xor_lt (5 * g.Self.Checksum.CHECKSUM_LENGTH) _ _ c.loop-i.invariant.clear (g.met.Self.Checksum.packing_laws.words_clear i (get_or words i target) (slice_get-get_or words i target here)));
        digits = λ n.
            let first = digit_of (number (get_or words 0 target)) n in
            ap (λ x. digit_of (number x) n) w.sum-is
            ∙ (g.met.Self.MidstateRepr.PackedFe32.sum_law c.loop-i.sum read w.bitxor-sum-then-bits-i-eq1.result w.bitxor-sum-then-bits-i-eq1.ensures n
            ∙ (ap (λ x. fe32.add (digit_of (number c.loop-i.sum) n) (digit_of (number x) n)) word
            ∙ (ap (λ x. fe32.add (digit_of (number c.loop-i.sum) n) x) (word_digit _ number words target g.met.Self.Checksum.packing_laws.shifts i here n)
            ∙ added i c.to_u8-bits.result (digit_of (number c.loop-i.sum) n) first w.if-bits-i-eq1.true (c.loop-i.invariant.digits n))));
        words =
            word-added (λ j. number (get_or words j target)) i c.to_u8-bits.result (number c.loop-i.sum) (number c.if-bits-i-eq1.sum)
            w.if-bits-i-eq1.true c.loop-i.invariant.words total;
      }
  | else-bits-i-eq1 w ↦ rw w.sum-is (record {
    clear = c.loop-i.invariant.clear;
    digits = λ n. kept c.loop-i.i c.to_u8-bits.result _ _ w.if-bits-i-eq1.false (c.loop-i.invariant.digits n);
    words =
        word-kept (λ j. g.Self.MidstateRepr.PackedFe32.number (get_or g.Self.Checksum.GENERATOR_SH j g.Self.Checksum.TARGET_RESIDUE))
        c.loop-i.i c.to_u8-bits.result _ w.if-bits-i-eq1.false c.loop-i.invariant.words;
  })
]

pub returns : goal.returns
returns g c =
    let five : c.loop-i.i ≡ 5 = omega arith in
    record {
      row = record {
        elements_are = scaled_word g.Self.Checksum.CHECKSUM_LENGTH (g.Self.MidstateRepr.PackedFe32.number c.loop-i.sum)
            (g.Self.MidstateRepr.PackedFe32.number (get_or g.Self.Checksum.GENERATOR_SH 0 g.Self.Checksum.TARGET_RESIDUE)) c.args.element
            (rw (five, c.to_u8-bits.ensures) at c.loop-i.invariant.digits)
            ∙ ap (λ (k : Code). scale fe32.ops c.args.element k.generator) (sym g.met.Self.Checksum.code_law);
        clear = c.loop-i.invariant.clear;
      };
      words = rw (five, c.to_u8-bits.ensures) at c.loop-i.invariant.words;
    }
