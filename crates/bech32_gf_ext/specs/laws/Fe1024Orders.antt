-- The orders of the elements of the field of 1024 elements.
use Rattle.std.specs.Prelude.{◌≡◌, ◌≢◌, true, false, [], ◌∷◌}
use Rattle.std.proofs.Common.{refl, ap, sym, ◌∙◌, arith}
use Rattle.bech32_gf.specs.Field.{power, IsOrder, ListsDivisors, IsPositiveI64}
use Rattle.bech32_gf.specs.laws.Orders.{IsOrder-from_tests, differ}
use Rattle.bech32_gf.specs.laws.Orders.{power-map, power_by_squares-power}
use Rattle.bech32_gf.specs.laws.FieldLaws.{power-suc, power-mul}
use Rattle.bech32_gf.specs.laws.Divisors.{ListsDivisors-from_tests}
use Rattle.bech32_gf_ext.specs.laws.CharacteristicTwo as even_field
use Rattle.bech32_gf_ext.specs.Quadratic as quadratic
use Rattle.bech32_gf.specs.Fe32 as fe32
use Rattle.bech32_gf.specs.laws.Fe32Laws as fe32_laws
use Rattle.bech32_gf_ext.specs.laws.Fe32Squares.{even, square, five_squares}
use Rattle.bech32_gf_ext.specs.Fe1024 as fe1024
use Rattle.bech32_gf_ext.specs.Fe1024.{pair, low, high, norm, embed, mul, divisors}
use Rattle.bech32_gf_ext.specs.laws.Fe1024Laws.{parts, same_parts, norm-not_zero}
use Rattle.bech32_gf_ext.specs.laws.Fe1024Laws.{is_field, embed-mul}
use Rattle.bech32_gf.specs.Gf32.{product}
use Rattle.bech32_gf.specs.declared.gf32.Fe32.{Fe32}
use Rattle.bech32_gf_ext.specs.declared.Fe32Ext.{Fe32Ext}

-- the square
abbrev squared : Fe32Ext 2 → Fe32Ext 2
squared x = mul x x

one_squaring : (a b : Fe32) → squared (pair a b) ≡ pair (fe32.add (square a) (square b)) (square b)
unfolding mul
one_squaring a b = same_parts refl (quadratic.square₁ fe32_laws.is_field even a b)

two_squarings : (a b : Fe32)
    → squared (squared (pair a b)) ≡ pair (square (square a)) (square (square b))
two_squarings a b =
    ap squared (one_squaring a b)
    ∙ one_squaring (fe32.add (square a) (square b)) (square b)
    ∙ same_parts (even_field.square_less fe32_laws.is_field even (square a) (square b)) refl

-- five squarings give the conjugate
five_squarings : (a b : Fe32)
    → squared (squared (squared (squared (squared (pair a b))))) ≡ pair (fe32.add a b) b
five_squarings a b =
    ap (λ (x : Fe32Ext 2). squared (squared (squared x))) (two_squarings a b)
    ∙ ap squared (two_squarings (square (square a)) (square (square b)))
    ∙ one_squaring (square (square (square (square a)))) (square (square (square (square b))))
    ∙ same_parts (λ i. fe32.add (five_squares a i) (five_squares b i)) (five_squares b)

power-32 : (a b : Fe32) → power fe1024.ops (pair a b) 32 ≡ pair (fe32.add a b) b
power-32 a b =
    sym (power_by_squares-power is_field (pair a b)
    (false ∷ false ∷ false ∷ false ∷ false ∷ true ∷ []))
    ∙ is_field.mul_one (squared (squared (squared (squared (squared (pair a b))))))
    ∙ five_squarings a b

-- so the 33rd power is the norm
power-33 : (a b : Fe32) → power fe1024.ops (pair a b) 33 ≡ embed (quadratic.norm fe32.ops a b)
unfolding mul
power-33 a b =
    power-suc is_field (pair a b) 32
    ∙ ap (mul (pair a b)) (power-32 a b)
    ∙ same_parts (quadratic.conjugate₀ fe32_laws.is_field even a b)
    (quadratic.conjugate₁ fe32_laws.is_field even a b)

-- each element but zero to the order is one
pub power-order : (x : Fe32Ext 2) → x ≢ fe1024.zero → power fe1024.ops x 1023 ≡ fe1024.one
power-order x h =
    power-mul is_field x 33 31
    ∙ ap (λ (y : Fe32Ext 2). power fe1024.ops y 31)
    (ap (λ (y : Fe32Ext 2). power fe1024.ops y 33) (sym (parts x)) ∙ power-33 (low x) (high x))
    ∙ sym (power-map fe32.ops fe1024.ops embed refl embed-mul (norm x) 31)
    ∙ ap embed (fe32_laws.power-order (norm x) (norm-not_zero x h))

-- the divisors of the order
pub lists_divisors : ListsDivisors 1023 divisors
lists_divisors =
    ListsDivisors-from_tests 1023 32 divisors (omega arith) (omega arith) refl refl refl

-- the powers of the generator at 1023 over 3, 11 and 31
power-341 : power fe1024.ops fe1024.generator 341 ≢ fe1024.one
unfolding mul product
power-341 h =
    let bits = true ∷ false ∷ true ∷ false ∷ true ∷ false ∷ true ∷ false ∷ true ∷ [] in
    differ 1 0 refl
    (ap (λ (x : Fe32Ext 2). (high x).value)
    (power_by_squares-power is_field fe1024.generator bits ∙ h))

power-93 : power fe1024.ops fe1024.generator 93 ≢ fe1024.one
unfolding mul product
power-93 h =
    let bits = true ∷ false ∷ true ∷ true ∷ true ∷ false ∷ true ∷ [] in
    differ 15 0 refl
    (ap (λ (x : Fe32Ext 2). (high x).value)
    (power_by_squares-power is_field fe1024.generator bits ∙ h))

power-33_of_generator : power fe1024.ops fe1024.generator 33 ≢ fe1024.one
unfolding mul product
power-33_of_generator h =
    let bits = true ∷ false ∷ false ∷ false ∷ false ∷ true ∷ [] in
    differ 25 1 refl
    (ap (λ (x : Fe32Ext 2). (low x).value)
    (power_by_squares-power is_field fe1024.generator bits ∙ h))

generator-not_zero : fe1024.generator ≢ fe1024.zero
generator-not_zero h = differ 1 0 refl (ap (λ (x : Fe32Ext 2). (low x).value) h)

-- the generator has order 1023
pub generator-order : IsOrder fe1024.ops fe1024.generator 1023
generator-order =
    IsOrder-from_tests is_field fe1024.generator 1023 divisors
    (341 ∷ 93 ∷ 33 ∷ []) (omega arith) lists_divisors refl
    (power-order fe1024.generator generator-not_zero)
    (power-341, (power-93, (power-33_of_generator, tt)))

pub fits : IsPositiveI64 2 × IsPositiveI64 1023
fits = (
  record { positive = omega arith; below = omega arith },
  record { positive = omega arith; below = omega arith },
)
