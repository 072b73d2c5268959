-- Squares in the field of 32 elements.
use Rattle.std.specs.Prelude.{◌≡◌, ◌==◌}
use Rattle.std.proofs.Common.{refl}
use Rattle.std.proofs.lemmas.Bool.{eqb-true}
use Rattle.bech32_gf.specs.Gf32.{product}
use Rattle.bech32_gf.specs.laws.Below.{each_below-at}
use Rattle.bech32_gf_ext.specs.laws.CharacteristicTwo.{HasCharacteristicTwo}
use Rattle.bech32_gf.specs.Fe32 as fe32
use Rattle.bech32_gf.specs.laws.Fe32Laws as fe32_laws
use Rattle.bech32_gf.specs.declared.gf32.Fe32.{Fe32}

pub even : HasCharacteristicTwo fe32.ops
even = fe32_laws.is_field.add_neg

-- the square
abbrev pub square : Fe32 → Fe32
square x = fe32.mul x x

-- five squarings give an element back
pub five_squares : (x : Fe32) → square (square (square (square (square x)))) ≡ x
unfolding product
five_squares x =
    fe32.path (square (square (square (square (square x))))) x
    (eqb-true _ _ (each_below-at 32 (λ a.
    let b = product a a in
    let c = product b b in
    let d = product c c in
    let e = product d d in
    product e e == a) refl x.value x.in_field))
