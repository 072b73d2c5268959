use Rattle.std.proofs.Common.{◌≡◌, ◌<◌, ◌-◌, ℕ, ap, ◌∙◌, arith}
use Rattle.bech32_gf.specs.Fe32 as fe32
use Rattle.bech32_poly.specs.Polynomial.{coefficient}
use Rattle.bech32_near.specs.search.Sketch.{packed_by}
use Rattle.bech32_near.proofs.Sketches.{packed_by-next, packed_by-room}
use Rattle.bech32_near.proofs.search.terms.packed.Goals as goal

pub overflow_mul-number : goal.overflow_mul-number
overflow_mul-number c =
    let room = packed_by-room c.args.size (λ n. (coefficient fe32.ops c.args.list.now n).value) c.loop-i.i c.loop-i.number (λ n. (coefficient fe32.ops c.args.list.now n).in_field) (omega (arith, c.requires, c.loop-i-test.true)) c.loop-i.invariant in
    omega (arith, room)

pub overflow_add-number : goal.overflow_add-number
overflow_add-number c =
    let n : ℕ = c.args.size - 1 - c.loop-i.i in
    let digit : c.value_at.result < 32 = omega (arith, c.value_at.ensures, (coefficient fe32.ops c.args.list.now n).in_field) in
    let room = packed_by-room c.args.size (λ n. (coefficient fe32.ops c.args.list.now n).value) c.loop-i.i c.loop-i.number (λ n. (coefficient fe32.ops c.args.list.now n).in_field) (omega (arith, c.requires, c.loop-i-test.true)) c.loop-i.invariant in
    omega (arith, room, c.from.ensures, digit)

pub loop-i-preserved : goal.loop-i-preserved
loop-i-preserved c =
    packed_by-next c.args.size (λ n. (coefficient fe32.ops c.args.list.now n).value) c.loop-i.i c.loop-i.number c.from.result c.loop-i.invariant (c.from.ensures ∙ c.value_at.ensures)

pub returns : goal.returns
returns c =
    let end : c.loop-i.i ≡ c.args.size = omega arith in
    c.loop-i.invariant ∙ ap (packed_by c.args.size (λ n. (coefficient fe32.ops c.args.list.now n).value)) end
