use Rattle.std.specs.Prelude.{◌≢◌}
use Rattle.std.proofs.Common.{◌≡◌, ◌<◌, ◌/◌, length, get_or, sym, ap, subst, ◌∙◌, arith}
use Rattle.bech32_gf.specs.Fe32 as fe32
use Rattle.bech32_gf.specs.declared.gf32.Fe32.{Fe32}
use Rattle.bech32_checksum.specs.Code.{bech32}
use Rattle.bech32_checksum.specs.OneError.{IsOnlyError, key, leading}
use Rattle.bech32_checksum.specs.declared.checksums.locations.TheConstants.{ANSWERS, KEYS}
use Rattle.bech32_checksum.proofs.OneError.{element_of_product, found, key_is, looked_up, low_bits, not_zero_by_eq, slot, slot-lt}
use Rattle.bech32_checksum.proofs.checksums.ones.one_error_by_tables.Goals as goal

pub returns-then-slot-key : goal.returns-then-slot-key
returns-then-slot-key c i v below left =
    let l = c.args.residue.now in
    let size : length l ≡ 6 = omega arith in
    let k : c.packed_multiple-key.result ≡ key l =
    key_is l c.leading_of-first.result c.inverse_of.result c.packed_multiple-key.result c.leading_of-first.ensures c.inverse_of.ensures c.packed_multiple-key.ensures.value in
    let some : leading l ≢ fe32.zero =
    λ z. not_zero_by_eq c.leading_of-first.result c.eq.result c.eq.ensures c.if-eq.false (c.leading_of-first.ensures ∙ z) in
    let there = looked_up l i v size some below left in
    let same : get_or KEYS (slot c.packed_multiple-key.result) 0 ≡ c.packed_multiple-key.result =
    subst (λ n. get_or KEYS (slot n) 0 ≡ n) (sym k) there.0 in
    let here : get_or KEYS c.slot_of-slot.result 0 ≡ c.packed_multiple-key.result = ap (λ h. get_or KEYS h 0) c.slot_of-slot.ensures ∙ same in
    absurd (omega (arith, here))

pub returns : goal.returns
returns c =
    let l = c.args.residue.now in
    let size : length l ≡ 6 = omega arith in
    let k : c.packed_multiple-key.result ≡ key l =
    key_is l c.leading_of-first.result c.inverse_of.result c.packed_multiple-key.result c.leading_of-first.ensures c.inverse_of.ensures c.packed_multiple-key.ensures.value in
    let some : leading l ≢ fe32.zero =
    λ z. not_zero_by_eq c.leading_of-first.result c.eq.result c.eq.ensures c.if-eq.false (c.leading_of-first.ensures ∙ z) in
    let here : get_or KEYS c.slot_of-slot.result 0 ≡ c.packed_multiple-key.result = omega arith in
    let small : c.slot_of-slot.result < 1024 = subst (λ h. h < 1024) (sym c.slot_of-slot.ensures) (slot-lt c.packed_multiple-key.result) in
    let all = found l c.slot_of-slot.result size some small (here ∙ k) in
    let value : c.from_low_bits-2.result ≡ fe32.mul (leading l) (fe32.element (get_or ANSWERS c.slot_of-slot.result 0)) =
    c.from_low_bits-2.ensures ∙ ap fe32.element c.product_value-value.ensures.value ∙ element_of_product c.leading_of-first.result c.from_low_bits.result
    ∙ ap (λ x. fe32.mul x c.from_low_bits.result) c.leading_of-first.ensures
    ∙ ap (fe32.mul (leading l)) (c.from_low_bits.ensures ∙ low_bits (get_or ANSWERS c.slot_of-slot.result 0)) in
    subst (λ (v : Fe32). IsOnlyError bech32.generator 1023 l (get_or ANSWERS c.slot_of-slot.result 0 / 32, v)) (sym value)
    (record {
      below = all.0;
      not_zero = all.1;
      leaves = all.2;
      only = λ i v below left.
          sym (looked_up l i v size some below left).1 ∙ ap (λ n. get_or ANSWERS (slot n) 0 / 32) (sym k) ∙ ap (λ h. get_or ANSWERS h 0 / 32) (sym c.slot_of-slot.ensures);
    })
