use Rattle.std.proofs.Common.{◌≡◌, ◌<◌, ◌∙◌, [], ℕ, List, length, get_or, take, sym, ap, arith}
use Rattle.std.proofs.Math.ListN.{get_or-map}
use Rattle.std.proofs.lemmas.List.{get_or_default, length-map, take_all}
use Rattle.bech32_gf.specs.Fe32 as fe32
use Rattle.bech32_gf.specs.Fe32.{element_of, elements_of}
use Rattle.bech32_gf.specs.declared.gf32.Fe32.{Fe32}
use Rattle.bech32_checksum.specs.TextPolynomial.{text_polynomial}
use Rattle.bech32_poly.specs.Division.{remainder_of}
use Rattle.bech32_poly.specs.Polynomial.{appended}
use Rattle.codex32_steady.specs.texts.Parts.{ms}
use Rattle.codex32_small.specs.Code.{code_of_kind}
use Rattle.codex32_small.proofs.Checksums.{length-remainder, polynomial-parts, remainder-more}
use Rattle.codex32_small.proofs.register.put_remainder.Goals as goal

pub loop-c-init : goal.loop-c-init
loop-c-init c = c.put_start.ensures

pub take_in-requires : goal.take_in-requires
take_in-requires c = ap (λ (r : List Fe32). length r) c.loop-c.invariant ∙ length-remainder c.args.kind (appended (text_polynomial ms []) (take c.loop-c.c-index (elements_of c.args.characters.now)))

pub loop-c-preserved : goal.loop-c-preserved
loop-c-preserved c =
    let characters = c.args.characters.now in
    let xs : List Fe32 = elements_of characters in
    let i : ℕ = c.loop-c.c-index in
    let x : Fe32 = c.element_of_character.result in
    let within : i < length xs = omega (arith, length-map characters element_of, c.loop-c-test.true) in
    let here : i < length characters = omega (arith, c.loop-c-test.true) in
    let read : x ≡ get_or xs i fe32.zero =
    c.element_of_character.ensures ∙ sym (get_or-map element_of characters i 0) ∙ get_or_default xs i (element_of 0) fe32.zero within in
    remainder-more c.args.kind (text_polynomial ms []) xs c.loop-c.rest _ i x within read c.loop-c.invariant c.take_in.ensures

pub returns : goal.returns
returns c =
    let characters = c.args.characters.now in
    let xs : List Fe32 = elements_of characters in
    let all : take c.loop-c.c-index xs ≡ xs = take_all c.loop-c.c-index xs (omega (arith, length-map characters element_of, c.loop-c-test.false)) in
    c.loop-c.invariant
    ∙ ap (λ (l : List Fe32). remainder_of fe32.ops (code_of_kind c.args.kind).generator (appended (text_polynomial ms []) l)) all
    ∙ ap (remainder_of fe32.ops (code_of_kind c.args.kind).generator) (polynomial-parts ms [] xs)
