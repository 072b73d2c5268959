use Rattle.std.proofs.Common.{◌∙◌, replicate, subst, ap}
use Rattle.bech32_gf.specs.Fe32 as fe32
use Rattle.bech32_gf.specs.declared.gf32.Fe32.{Fe32 as Element}
use Rattle.bech32_near.specs.edits.Walks.{IsWordOf, times_power}
use Rattle.bech32_near.proofs.Sums.{add-raised, add-replicate, all_bits, itself, of_bits}
use Rattle.bech32_near.proofs.edits.powers.Powers.times.Goals as goal

pub returns : goal.returns
returns g c n count h =
    let number = g.Ck.MidstateRepr.PackedFe32.number in
    let code = g.Ck.Checksum.code in
    let one = c.word_of-one.ensures _ h.of_one in
    let nothing =
    add-raised n (replicate count (fe32.element 1)) (replicate count (fe32.element 1))
    ∙ ap (times_power n) (add-replicate count (fe32.element 1) (fe32.element 1) ∙ ap (replicate count) (itself (fe32.element 1))) in
    let start = subst (IsWordOf number code c.sum_of-none.result) nothing (c.sum_of-none.ensures _ _ one one) in
    let first = c.sum_if-sum.ensures n count _ _ start one in
    let second = c.sum_if-sum-2.ensures n count _ _ first (c.word_of.ensures _ h.of_two) in
    let third = c.sum_if-sum-3.ensures n count _ _ second (c.word_of-2.ensures _ h.of_four) in
    let fourth = c.sum_if-sum-4.ensures n count _ _ third (c.word_of-3.ensures _ h.of_eight) in
    let fifth = c.sum_if.ensures n count _ _ fourth (c.word_of-4.ensures _ h.of_sixteen) in
    subst (λ (x : Element). IsWordOf number code c.sum_if.result (times_power n (replicate count x))) (ap of_bits c.to_u8-bits.ensures ∙ all_bits c.args.element) fifth
