use Rattle.std.proofs.Common.{◌≡◌, ◌≤◌, ◌∙◌, ◌++◌, ℕ, List, length, map, drop, ap, take_all, arith}
use Rattle.bech32_gf.specs.Fe32.{elements_of, value}
use Rattle.bech32.proofs.Values.{value_more}
use Rattle.bech32.proofs.elements.put_elements.Goals as goal

pub loop-place-preserved : goal.loop-place-preserved
loop-place-preserved c =
    value_more c.args.characters.now c.args.buffer.now c.loop-place.buffer c.loop-place.place c.to_u8.result
    c.loop-place-test.true c.requires.room (c.to_u8.ensures ∙ ap value c.from_char_unchecked.ensures) c.loop-place.invariant

pub returns-clause-buffer : goal.returns-clause-buffer
returns-clause-buffer c =
    let cs = c.args.characters.now in
    let i = c.loop-place.place in
    let all : length cs ≤ i = omega arith in
    let end : i ≡ length cs = omega arith in
    c.loop-place.invariant
    ∙ ap (λ (l : List ℕ). map value (elements_of l) ++ drop i c.args.buffer.now) (take_all i cs all)
    ∙ ap (λ (k : ℕ). map value (elements_of cs) ++ drop k c.args.buffer.now) end
