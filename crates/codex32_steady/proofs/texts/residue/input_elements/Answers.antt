use Rattle.std.proofs.Common.{◌≡◌, ◌<◌, ◌+◌, ◌∷◌, ◌∙◌, ℕ, List, length, get_or, take, sym, ap, subst, arith}
use Rattle.std.proofs.Math.ListN.{get_or-map}
use Rattle.std.proofs.lemmas.List.{length-map, take_all}
use Rattle.bech32_gf.specs.Fe32.{element_of, elements_of}
use Rattle.bech32_gf.specs.declared.gf32.Fe32.{Fe32 as Element}
use Rattle.bech32_poly.specs.Polynomial.{appended}
use Rattle.bech32_poly.proofs.Appended.{appended-take_more}
use Rattle.bech32_checksum.specs.Code.{IsResidueAfter, IsResidueOf}
use Rattle.codex32_steady.proofs.texts.residue.input_elements.Goals as goal

pub loop-c-init : goal.loop-c-init
loop-c-init g c = λ p h. h

pub loop-c-preserved : goal.loop-c-preserved
loop-c-preserved g c = λ p h.
    let number = g.Ck.MidstateRepr.PackedFe32.number in
    let code = g.Ck.Checksum.code in
    let characters = c.args.characters.now in
    let xs = elements_of characters in
    let i : ℕ = c.loop-c.c-index in
    let within : i < length xs = omega (arith, length-map characters element_of, c.loop-c-test.true) in
    let read : get_or xs i (element_of 0) ≡ c.element_of_character.result = get_or-map element_of characters i 0 ∙ sym c.element_of_character.ensures in
    let more : appended p (take (i + 1) xs) ≡ c.element_of_character.result ∷ appended p (take i xs) =
    appended-take_more p xs i (element_of 0) within ∙ ap (λ (y : Element). y ∷ appended p (take i xs)) read in
    subst (λ (q : List Element). IsResidueOf number code c.input_fe.new.self q) (sym more)
    (c.input_fe.ensures (appended p (take i xs)) (c.loop-c.invariant p h))

pub returns : goal.returns
returns g c =
    let number = g.Ck.MidstateRepr.PackedFe32.number in
    let code = g.Ck.Checksum.code in
    let xs = elements_of c.args.characters.now in
    let all : take c.loop-c.c-index xs ≡ xs = take_all c.loop-c.c-index xs (omega (arith, length-map c.args.characters.now element_of, c.loop-c-test.false)) in
    subst (λ (l : List Element). IsResidueAfter number code c.args.engine.now l c.loop-c.engine) all c.loop-c.invariant
