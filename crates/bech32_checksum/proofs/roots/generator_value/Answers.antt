use Rattle.std.proofs.Common.{◌≡◌, ◌<◌, ◌-◌, ℕ, suc, length, get_or, sym, ◌∙◌, ap, arith}
use Rattle.bech32_gf.specs.Fe32 as fe32
use Rattle.bech32_checksum.specs.Code.{Code}
use Rattle.bech32_checksum.proofs.RootTests.{value_from, value_from-degree, value_from-place, first_word, coefficient_of_digit}
use Rattle.bech32_checksum.proofs.roots.generator_value.Goals as goal

pub loop-place-init : goal.loop-place-init
loop-place-init g c =
    let o = g.Ck.CorrectionField.Arithmetic.ops in
    let embed = g.Ck.CorrectionField.Extension.embed in
    let code = g.Ck.Checksum.code in
    let law = g.met.Ck.CorrectionField.Arithmetic in
    c.one-value.ensures
    ∙ sym (value_from-degree o embed c.args.x law.laws code.generator)
    ∙ ap (λ n. value_from o embed c.args.x n code.generator) (g.met.Ck.Checksum.degree_law ∙ sym c.CHECKSUM_LENGTH-place.ensures)

pub loop-place-preserved : goal.loop-place-preserved
loop-place-preserved g c =
    let o = g.Ck.CorrectionField.Arithmetic.ops in
    let embed = g.Ck.CorrectionField.Extension.embed in
    let code = g.Ck.Checksum.code in
    let degree = g.Ck.Checksum.CHECKSUM_LENGTH in
    let number = g.Ck.MidstateRepr.PackedFe32.number in
    let words = g.Ck.Checksum.GENERATOR_SH in
    let x = c.args.x in
    let place : ℕ = c.loop-place.place - 1 in
    let degree_read : c.CHECKSUM_LENGTH-place.result ≡ degree = c.CHECKSUM_LENGTH-place.ensures in
    let below : place < degree = omega arith in
    let next : c.loop-place.place ≡ suc place = omega arith in
    let size : length code.generator ≡ degree = g.met.Ck.Checksum.degree_law in
    let word = get_or words 0 g.Ck.Checksum.TARGET_RESIDUE in
    let read : get_or c.GENERATOR_SH.result 0 c.index-GENERATOR_SH-0.result ≡ word =
    first_word words _ _ _ g.met.Ck.Checksum.packing_laws.five c.GENERATOR_SH.ensures in
    let within : place < length code.generator = omega arith in
    let coefficient : get_or code.generator place fe32.zero ≡ fe32.element c.unpack.result =
    coefficient_of_digit code.generator degree (number word) place c.unpack.result
    (ap (λ (k : Code). k.generator) g.met.Ck.Checksum.code_law) below c.unpack.ensures.below (rw read at c.unpack.ensures.value) in
    c.plus-value.ensures
    ∙ ap (λ y. o.add y c.times.result)
    (c.lift.ensures ∙ ap embed (c.from_low_bits-coefficient.ensures ∙ sym coefficient))
    ∙ ap (o.add (embed (get_or code.generator place fe32.zero)))
    (c.times.ensures ∙ ap (o.mul x) (c.loop-place.invariant ∙ ap (λ n. value_from o embed x n code.generator) next))
    ∙ sym (value_from-place o embed x code.generator place within)
