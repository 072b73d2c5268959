use Rattle.std.proofs.Common.{◌≡◌, ◌<◌, ◌≤◌, ◌+◌, ◌-◌, ◌*◌, ◌^◌, ℕ, ap, subst, sym, ◌∙◌, arith, lt_of_lt_of_le}
use Rattle.std.proofs.Math.Pow.{pow_mono}
use Rattle.bech32_gf.specs.Fe32 as fe32
use Rattle.bech32_gf.specs.declared.gf32.Fe32.{Fe32}
use Rattle.bech32_poly.specs.Polynomial.{scale}
use Rattle.bech32_checksum.specs.Packed.{IsRowOf, digit_of, digits}
use Rattle.bech32_encode.proofs.TextPieces.{element-digit_of}
use Rattle.bech32_small.proofs.Scaled.{scaled-lt, scaled-more, scaled_row, scaled_upto, scaled_value}
use Rattle.bech32_small.proofs.rows.times.Goals as goal

-- the first elements, packed, have room for one more
less : (e : Fe32) (row n : ℕ) → n ≤ 5 → scaled_upto e row n < 2 ^ 25
less e row n few = lt_of_lt_of_le (scaled-lt e row n) (pow_mono {j = 25} (omega (arith, few)))

pub overflow_mul-product : goal.overflow_mul-product
overflow_mul-product c =
    let small : scaled_upto c.args.element c.args.row c.loop-i.i < 2 ^ 25 = less c.args.element c.args.row c.loop-i.i (omega arith) in
    omega (arith, small, c.loop-i.invariant)

pub overflow_add-product : goal.overflow_add-product
overflow_add-product c =
    let small : scaled_upto c.args.element c.args.row c.loop-i.i < 2 ^ 25 = less c.args.element c.args.row c.loop-i.i (omega arith) in
    omega (arith, small, c.loop-i.invariant, c.from.ensures, c.to_u8.ensures, c.mul.result.in_field)

pub loop-i-preserved : goal.loop-i-preserved
loop-i-preserved c =
    let digit : c.from_low_bits-digit.result ≡ digit_of c.args.row (5 - c.loop-i.i) =
    c.from_low_bits-digit.ensures ∙ ap fe32.element c.unpack.ensures.value ∙ element-digit_of c.args.row (5 - c.loop-i.i) in
    let value : c.from.result ≡ scaled_value c.args.element c.args.row c.loop-i.i =
    c.from.ensures ∙ c.to_u8.ensures ∙ ap (λ (x : Fe32). x.value) (c.mul.ensures ∙ ap (λ (x : Fe32). fe32.mul x c.args.element) digit) in
    ap (λ n. n * 32 + c.from.result) c.loop-i.invariant
    ∙ ap (λ n. scaled_upto c.args.element c.args.row c.loop-i.i * 32 + n) value
    ∙ sym (scaled-more c.args.element c.args.row c.loop-i.i)

pub returns : goal.returns
returns c =
    let end : 6 ≡ c.loop-i.i = omega arith in
    subst (IsRowOf 6 (scale fe32.ops c.args.element (digits 6 c.args.row)))
    (ap (scaled_upto c.args.element c.args.row) end ∙ sym c.loop-i.invariant)
    (scaled_row c.args.element c.args.row)
