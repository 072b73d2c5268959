use Rattle.std.proofs.Common.{◌≡◌, ◌<◌, ℕ, ap, ◌∙◌, arith}
use Rattle.bech32_checksum.specs.Packed.{digit_of}
use Rattle.bech32_near.specs.search.Sketch.{packed_by}
use Rattle.bech32_near.proofs.Sketches.{packed_by-next, packed_by-room}
use Rattle.bech32_near.proofs.search.terms.number_of.Goals as goal

pub overflow_mul-number : goal.overflow_mul-number
overflow_mul-number g c =
    let few : c.loop-i.i < 12 = omega (arith, c.sketch_size-size.ensures, c.loop-i-test.true) in
    let room = packed_by-room c.sketch_size-size.result (λ n. (digit_of (g.Ck.MidstateRepr.PackedFe32.number c.args.row.now) n).value) c.loop-i.i c.loop-i.number (λ n. (digit_of (g.Ck.MidstateRepr.PackedFe32.number c.args.row.now) n).in_field) few c.loop-i.invariant in
    omega (arith, room)

pub overflow_add-number : goal.overflow_add-number
overflow_add-number g c =
    let few : c.loop-i.i < 12 = omega (arith, c.sketch_size-size.ensures, c.loop-i-test.true) in
    let room = packed_by-room c.sketch_size-size.result (λ n. (digit_of (g.Ck.MidstateRepr.PackedFe32.number c.args.row.now) n).value) c.loop-i.i c.loop-i.number (λ n. (digit_of (g.Ck.MidstateRepr.PackedFe32.number c.args.row.now) n).in_field) few c.loop-i.invariant in
    omega (arith, room, c.from.ensures, c.unpack.ensures.below)

pub loop-i-preserved : goal.loop-i-preserved
loop-i-preserved g c =
    packed_by-next c.sketch_size-size.result (λ n. (digit_of (g.Ck.MidstateRepr.PackedFe32.number c.args.row.now) n).value) c.loop-i.i c.loop-i.number c.from.result c.loop-i.invariant (c.from.ensures ∙ c.unpack.ensures.value)

pub returns : goal.returns
returns g c =
    let f : ℕ → ℕ = λ n. (digit_of (g.Ck.MidstateRepr.PackedFe32.number c.args.row.now) n).value in
    let end : c.loop-i.i ≡ c.sketch_size-size.result = omega arith in
    c.loop-i.invariant ∙ ap (packed_by c.sketch_size-size.result f) end ∙ ap (λ n. packed_by n f n) c.sketch_size-size.ensures
