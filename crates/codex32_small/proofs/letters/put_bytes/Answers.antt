use Rattle.std.proofs.Common.{◌≡◌, ◌+◌, ◌<◌, ◌≤◌, ◌++◌, ◌∷◌, [], ℕ, suc, List, length, map, take, set, sym, ap, ◌∙◌, arith, length-append}
use Rattle.std.proofs.lemmas.List.{append-nil, map-append, take_all}
use Rattle.std.specs.Iterator.Adapters.{copied_steps}
use Rattle.std.specs.Slice.Iter.{iter_steps}
use Rattle.bech32_bits.specs.Bits.{to_fes}
use Rattle.bech32_bits.specs.BytesToFes.{fes_gives, fes_source}
use Rattle.bech32_bits.proofs.ListSources.{ShowsRest-copied, copied_rest, from_slice, to_come-step}
use Rattle.bech32_checksum.specs.Encoded.{char_of_element}
use Rattle.bech32_gf.specs.declared.gf32.Fe32.{Fe32}
use Rattle.codex32_steady.proofs.Written.{length-written, take_set}
use Rattle.codex32_small.proofs.letters.put_bytes.Goals as goal

-- where one element more is given, there is room for it
fits : (all yielded : List Fe32) (x : Fe32) (left left' : List Fe32) → all ≡ yielded ++ left → left ≡ x ∷ left' → length yielded < length all
fits all yielded x left left' given step =
    let whole : length all ≡ length yielded + length left = ap length given ∙ length-append yielded left in
    let one : length left ≡ suc (length left') = ap length step in
    omega (arith, whole, one)

pub bounds-target-count : goal.bounds-target-count
bounds-target-count c =
    let made = c.bytes_to_fes-element-items.ensures in
    let given = from_slice fes_source fes_gives to_fes c.args.bytes.now _ _ _ _ _ _ c.iter.ensures.rest c.copied.ensures.source made.source made.fresh made.gives c.into_iter-element-iterator.ensures.into_iter_gives c.loop-element.yielded_by in
    let step = to_come-step (copied_steps iter_steps) copied_rest ShowsRest-copied fes_source fes_gives _ _ _ c.in-Some.ensures.steps in
    let room : length c.loop-element.yielded < length (to_fes c.args.bytes.now) = fits (to_fes c.args.bytes.now) c.loop-element.yielded c.in-Some.element _ _ given step in
    omega (arith, room, c.loop-element.invariant.counted, c.loop-element.invariant.size, c.requires)

pub loop-element-preserved : goal.loop-element-preserved
loop-element-preserved c =
    let made = c.bytes_to_fes-element-items.ensures in
    let given = from_slice fes_source fes_gives to_fes c.args.bytes.now _ _ _ _ _ _ c.iter.ensures.rest c.copied.ensures.source made.source made.fresh made.gives c.into_iter-element-iterator.ensures.into_iter_gives c.loop-element.yielded_by in
    let step = to_come-step (copied_steps iter_steps) copied_rest ShowsRest-copied fes_source fes_gives _ _ _ c.in-Some.ensures.steps in
    let x = c.in-Some.element in
    let room : length c.loop-element.yielded < length (to_fes c.args.bytes.now) = fits (to_fes c.args.bytes.now) c.loop-element.yielded x _ _ given step in
    let count : ℕ = c.loop-element.count in
    let within : count < length c.loop-element.target = omega (arith, room, c.loop-element.invariant.counted, c.loop-element.invariant.size, c.requires) in
    let e : count + 1 ≡ suc count = omega arith in
    let v : ℕ = c.character_of.result in
    record {
      size = length-written c.loop-element.target count v ∙ c.loop-element.invariant.size;
      counted = omega (arith, c.loop-element.invariant.counted, length-append c.loop-element.yielded (x ∷ []));
      so_far =
          ap (λ (k : ℕ). take k (set c.loop-element.target count v)) e
          ∙ take_set c.loop-element.target count v within
          ∙ ap (λ (u : List ℕ). u ++ (v ∷ [])) c.loop-element.invariant.so_far
          ∙ ap (λ (n : ℕ). map char_of_element c.loop-element.yielded ++ (n ∷ [])) c.character_of.ensures
          ∙ sym (map-append char_of_element c.loop-element.yielded (x ∷ []));
    }

pub returns : goal.returns
returns c =
    let made = c.bytes_to_fes-element-items.ensures in
    let given = from_slice fes_source fes_gives to_fes c.args.bytes.now _ _ _ _ _ _ c.iter.ensures.rest c.copied.ensures.source made.source made.fresh made.gives c.into_iter-element-iterator.ensures.into_iter_gives c.loop-element.yielded_by in
    let step = to_come-step (copied_steps iter_steps) copied_rest ShowsRest-copied fes_source fes_gives _ _ _ c.in-None.ensures.steps in
    let all : to_fes c.args.bytes.now ≡ c.loop-element.yielded = given ∙ ap (λ (u : List Fe32). c.loop-element.yielded ++ u) step ∙ append-nil c.loop-element.yielded in
    let end : length c.loop-element.target ≤ c.loop-element.count =
    omega (arith, c.loop-element.invariant.size, c.requires, c.loop-element.invariant.counted, ap length all) in
    sym (take_all c.loop-element.count c.loop-element.target end) ∙ c.loop-element.invariant.so_far ∙ ap (map char_of_element) (sym all)
