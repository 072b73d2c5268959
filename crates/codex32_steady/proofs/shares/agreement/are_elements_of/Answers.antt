use Rattle.std.proofs.Common.{◌≡◌, ◌≢◌, ◌<◌, ◌+◌, ◌&&◌, ◌++◌, ◌∷◌, [], ℕ, List, Bool, true, false, length, take, get_or, eqb, sym, ap, ◌∙◌, refl, arith, eq-eqb}
use Rattle.std.proofs.lemmas.Bool.{eqb-true}
use Rattle.std.proofs.lemmas.List.{take_all, take_more, get_or_default}
use Rattle.bech32_gf.specs.Fe32 as fe32
use Rattle.bech32_gf.specs.Fe32.{element_of, elements_of, zero}
use Rattle.bech32_gf.specs.declared.gf32.Fe32.{Fe32}
use Rattle.codex32_steady.proofs.Written.{length-mapped, map_or}
use Rattle.codex32_steady.proofs.shares.agreement.are_elements_of.Goals as goal

-- lists differ at some place
abbrev Differ : List Fe32 → List Fe32 → Type 0
Differ xs ys = (m : ℕ) × (get_or xs m zero ≢ get_or ys m zero)

step : (xs ys : List Fe32) (i : ℕ) (x y : Fe32) (s e : Bool) → i < length xs → i < length ys → x ≡ get_or xs i x → y ≡ get_or ys i y
    → e ≡ eqb x.value y.value → (s ≡ true → take i xs ≡ take i ys) → (s ≡ false → Differ xs ys)
    → ((s && e) ≡ true → take (i + 1) xs ≡ take (i + 1) ys) × ((s && e) ≡ false → Differ xs ys)
step xs ys i x y false e hx hy rx ry is alike apart = (λ t. absurd cc, λ _. apart refl)
step xs ys i x y true true hx hy rx ry is alike apart = (
  λ _.
      let equal : x ≡ y = fe32.path x y (eqb-true x.value y.value (sym is)) in
      take_more xs i x hx
      ∙ ap (λ u. u ++ (get_or xs i x ∷ [])) (alike refl)
      ∙ ap (λ z. take i ys ++ (z ∷ [])) (sym rx ∙ equal ∙ ry)
      ∙ sym (take_more ys i y hy),
  λ t. absurd cc,
)
step xs ys i x y true false hx hy rx ry is alike apart = (
  λ t. absurd cc,
  λ _. (
    i,
    λ same.
        let equal : x ≡ y = rx ∙ get_or_default xs i x zero hx ∙ same ∙ get_or_default ys i zero y hy ∙ sym ry in
        let yes : eqb x.value y.value ≡ true = eq-eqb x.value y.value (ap (λ (z : Fe32). z.value) equal) in
        absurd cc,
  ),
)

pub loop-i-preserved : goal.loop-i-preserved
loop-i-preserved c =
    let i : ℕ = c.loop-i.i in
    let characters = c.args.characters.now in
    let within : i < length characters = c.loop-i-test.true in
    let y = c.element_of_character.result in
    let stepped = step c.args.elements.now (elements_of characters) i c.index-elements-i.result y c.loop-i.same c.eq-same.result
    (omega (arith, within, c.requires.size)) (omega (arith, within, length-mapped element_of characters)) c.index-elements-i.is
    (map_or element_of characters i y 0 within c.element_of_character.ensures) c.eq-same.ensures c.loop-i.invariant.alike c.loop-i.invariant.apart in
    record { alike = stepped.0; apart = stepped.1 }

found : (xs ys : List Fe32) (s : Bool) → (s ≡ false → Differ xs ys) → xs ≡ ys → s ≡ true
found xs ys true apart same = refl
found xs ys false apart same = let d = apart refl in absurd (d.1 (ap (λ (zs : List Fe32). get_or zs d.0 zero) same))

pub returns : goal.returns
returns c =
    let xs = c.args.elements.now in
    let ys = elements_of c.args.characters.now in (
      λ yes.
          sym (take_all c.loop-i.i xs (omega (arith, c.loop-i-test.false, c.requires.size)))
          ∙ c.loop-i.invariant.alike yes
          ∙ take_all c.loop-i.i ys (omega (arith, c.loop-i-test.false, length-mapped element_of c.args.characters.now)),
      λ same. found xs ys c.loop-i.same c.loop-i.invariant.apart same,
    )
