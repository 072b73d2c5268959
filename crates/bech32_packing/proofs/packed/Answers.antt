use Rattle.std.proofs.Common.{◌≡◌, ◌<◌, ◌+◌, ◌*◌, [], ◌∷◌, ◌++◌, length, take, ap, sym, ◌∙◌, arith, rules}
use Rattle.std.proofs.lemmas.List.{length-take-le, take_more}
use Rattle.bech32_gf.specs.Fe32 as fe32
use Rattle.bech32_packing.specs.Words.{packed_times}
use Rattle.bech32_packing.proofs.Packing.{packed_more, room}
use Rattle.bech32_packing.proofs.packed.Goals as goal

pub overflow_mul-word : goal.overflow_mul-word
overflow_mul-word c =
    let es = c.args.elements.now in
    let i = c.loop-element.element-index in
    let size : length (take i es) ≡ i = length-take-le i es (omega (arith, c.loop-element-test.true)) in
    let enough = room c.args.factor (take i es) (omega (arith, size, c.requires, c.loop-element-test.true)) in
    omega (arith, c.loop-element.invariant, enough)

pub overflow_add-word : goal.overflow_add-word
overflow_add-word c =
    let es = c.args.elements.now in
    let i = c.loop-element.element-index in
    let size : length (take i es) ≡ i = length-take-le i es (omega (arith, c.loop-element-test.true)) in
    let enough = room c.args.factor (take i es) (omega (arith, size, c.requires, c.loop-element-test.true)) in
    let digit : c.to_u8.result < 32 = omega (arith, c.to_u8.ensures, c.mul.result.in_field) in
    omega (arith, c.loop-element.invariant, enough, digit)

pub loop-element-preserved : goal.loop-element-preserved
loop-element-preserved c =
    let es = c.args.elements.now in
    let i = c.loop-element.element-index in
    let item = c.element-item.result in
    let factor = c.args.factor in
    let up = ap (packed_times factor) (take_more es i item c.loop-element-test.true ∙ ap (λ y. take i es ++ (y ∷ [])) (sym c.element-item.is)) ∙ packed_more factor (take i es) item in
    let digit : c.to_u8.result ≡ (fe32.mul item factor).value = search rules in
    ap (λ w. w * 32 + c.to_u8.result) c.loop-element.invariant ∙ ap (λ v. packed_times factor (take i es) * 32 + v) digit ∙ sym up
