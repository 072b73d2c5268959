use Rattle.std.proofs.Common.{◌≡◌, ◌<◌, ◌+◌, ◌++◌, ◌∷◌, ◌∙◌, [], ℕ, List, suc, length, map, reverse, set, take, get_or, ap, sym, arith}
use Rattle.std.proofs.lemmas.List.{get_or-reverse, length-reverse, map-append, take_all, take_more}
use Rattle.bech32_checksum.specs.Encoded.{char_of_element}
use Rattle.bech32_gf.specs.declared.gf32.Fe32.{Fe32}
use Rattle.codex32_steady.proofs.Written.{length-written, take_set}
use Rattle.codex32_small.proofs.register.put_reversed.Goals as goal

pub loop-i-preserved : goal.loop-i-preserved
loop-i-preserved c =
    let xs : List Fe32 = c.args.elements.now in
    let ys : List Fe32 = reverse xs in
    let i : ℕ = c.loop-i.i in
    let v : ℕ = c.character_of.result in
    let target = c.loop-i.target in
    let x : Fe32 = c.index-elements-elements.result in
    let within : i < length xs = omega (arith, c.loop-i-test.true) in
    let inside : i < length ys = omega (arith, within, length-reverse xs) in
    let read : x ≡ get_or ys i x =
    c.index-elements-elements.is ∙ sym (get_or-reverse xs i x within) in
    let is : v ≡ char_of_element (get_or ys i x) = c.character_of.ensures ∙ ap char_of_element read in
    let e : i + 1 ≡ suc i = omega arith in
    record {
      size = length-written target i v ∙ c.loop-i.invariant.size;
      so_far =
          ap (λ (k : ℕ). take k (set target i v)) e
          ∙ take_set target i v (omega (arith, within, c.loop-i.invariant.size, c.requires))
          ∙ ap (λ (u : List ℕ). u ++ (v ∷ [])) c.loop-i.invariant.so_far
          ∙ ap (λ (n : ℕ). map char_of_element (take i ys) ++ (n ∷ [])) is
          ∙ sym (map-append char_of_element (take i ys) (get_or ys i x ∷ []))
          ∙ ap (map char_of_element) (sym (take_more ys i x inside));
    }

pub returns : goal.returns
returns c =
    let xs : List Fe32 = c.args.elements.now in
    let i : ℕ = c.loop-i.i in
    sym (take_all i c.loop-i.target (omega (arith, c.loop-i-test.false, c.loop-i.invariant.size, c.requires)))
    ∙ c.loop-i.invariant.so_far
    ∙ ap (map char_of_element) (take_all i (reverse xs) (omega (arith, c.loop-i-test.false, length-reverse xs)))
