use Rattle.std.proofs.Common.{◌≡◌, ◌+◌, ◌<◌, ℕ, length, take, get_or, set, arith, refl, sym, subst}
use Rattle.std.proofs.lemmas.List.{take_all}
use Rattle.bech32_gf.specs.Fe32 as fe32
use Rattle.bech32_gf.specs.Fe32.{element_of, elements_of}
use Rattle.bech32_gf.specs.laws.Fe32Laws.{is_field}
use Rattle.bech32_poly.specs.Polynomial.{add, scale}
use Rattle.bech32_poly.proofs.LongDivision.{nothing_taken_off, place_written}
use Rattle.codex32_steady.proofs.Written.{length-mapped, map_or}
use Rattle.codex32_steady.proofs.shares.derive.add_multiple.Goals as goal

pub loop-i-init : goal.loop-i-init
loop-i-init c = sym (nothing_taken_off is_field c.args.target.now c.args.factor 0 (omega arith))

pub loop-i-preserved : goal.loop-i-preserved
loop-i-preserved c =
    let i : ℕ = c.loop-i.i in
    let characters = c.args.characters.now in
    let within : i < length characters = omega arith in
    let inside : i < length (elements_of characters) = omega (arith, within, length-mapped element_of characters) in
    let room : 0 + i < length c.args.target.now = omega (arith, within, c.requires.size) in
    let e : 0 + i ≡ i = omega arith in
    let o = fe32.ops in
    let y = element_of (get_or characters i 0) in
    subst (λ k. set c.loop-i.target k c.plus.result ≡ add o c.args.target.now (scale o c.args.factor (take (i + 1) (elements_of characters)))) e
    (place_written is_field c.args.target.now (elements_of characters) c.loop-i.target c.args.factor c.index-target-i.result y c.multiple_of_character.result c.plus.result 0 i inside room
    c.loop-i.invariant (subst (λ k. c.index-target-i.result ≡ get_or c.loop-i.target k c.index-target-i.result) (sym e) c.index-target-i.is)
    (map_or element_of characters i y 0 within refl) c.multiple_of_character.ensures c.plus.ensures)

pub returns : goal.returns
returns c =
    let characters = c.args.characters.now in
    subst (λ u. c.loop-i.target ≡ add fe32.ops c.args.target.now (scale fe32.ops c.args.factor u))
    (take_all c.loop-i.i (elements_of characters) (omega (arith, length-mapped element_of characters))) c.loop-i.invariant
