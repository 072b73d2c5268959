use Rattle.std.proofs.Common.{◌<◌, ◌^◌, length, take, get_or, arith}
use Rattle.std.proofs.lemmas.List.{length-take-le}
use Rattle.bech32_hrp.specs.Hrp.{is_graphic, is_lower, is_upper}
use Rattle.bech32_decode.proofs.PartCases.{letter_count-le, letter_count-more, list_all-more}
use Rattle.bech32_decode.proofs.reading.front_of.Goals as goal

pub overflow_add-front : goal.overflow_add-front
overflow_add-front c =
    let i = c.loop-front.front.length in
    let text = c.args.text.now in
    let size = length-take-le i text c.loop-front.invariant.bound in
    omega (arith, size, letter_count-le is_lower (take i text), letter_count-le is_upper (take i text), c.loop-front.invariant.counts, c.loop-front.invariant.few, c.if-case-ge16777216.false)

pub loop-front-preserved : goal.loop-front-preserved
loop-front-preserved c =
    let i = c.loop-front.front.length in
    let text = c.args.text.now in
    let below : i < length text = omega arith in
    let b = get_or text i 0 in
    let small : c.part_case-case.result < 2 ^ 24 = omega (arith, c.if-case-ge16777216.false) in
    let letters = c.part_case-case.ensures.letters small in
    record {
      bound = omega (arith, below);
      few = omega arith;
      graphic = list_all-more is_graphic text i below c.loop-front.invariant.graphic (c.part_case-case.ensures.graphic small);
      counts = omega (arith, letters, letter_count-more is_lower text i below, letter_count-more is_upper text i below, c.loop-front.invariant.counts);
    }
