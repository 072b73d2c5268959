-- The orders of the elements of the field of 32768 elements.
use Rattle.std.specs.Prelude.{◌≡◌, ◌≢◌, true, false, [], ◌∷◌}
use Rattle.std.proofs.Common.{refl, ap, sym, ◌∙◌, arith}
use Rattle.bech32_gf.specs.Field.{power, IsOrder, ListsDivisors, IsPositiveI64}
use Rattle.bech32_gf.specs.laws.Orders.{IsOrder-from_tests, differ}
use Rattle.bech32_gf.specs.laws.Orders.{power-map, power_by_squares-power}
use Rattle.bech32_gf.specs.laws.FieldLaws.{power-suc, power-add, power-mul}
use Rattle.bech32_gf.specs.laws.Divisors.{ListsDivisors-from_tests}
use Rattle.bech32_gf_ext.specs.laws.CharacteristicTwo as even_field
use Rattle.bech32_gf_ext.specs.Cubic as cubic
use Rattle.bech32_gf.specs.Fe32 as fe32
use Rattle.bech32_gf.specs.laws.Fe32Laws as fe32_laws
use Rattle.bech32_gf_ext.specs.laws.Fe32Squares.{even, square, five_squares}
use Rattle.bech32_gf_ext.specs.Fe32768 as fe32768
use Rattle.bech32_gf_ext.specs.Fe32768.{triple, low, middle, high, norm, embed, mul, divisors}
use Rattle.bech32_gf_ext.specs.laws.Fe32768Laws.{parts, same_parts, norm-not_zero}
use Rattle.bech32_gf_ext.specs.laws.Fe32768Laws.{is_field, embed-mul}
use Rattle.bech32_gf.specs.Gf32.{product}
use Rattle.bech32_gf.specs.declared.gf32.Fe32.{Fe32}
use Rattle.bech32_gf_ext.specs.declared.Fe32Ext.{Fe32Ext}

-- the square
abbrev pub squared : Fe32Ext 3 → Fe32Ext 3
squared x = mul x x

square-add : (a b : Fe32) → square (fe32.add a b) ≡ fe32.add (square a) (square b)
square-add a b = even_field.square_of_sum fe32_laws.is_field even a b

square-less : (a b : Fe32) → fe32.add (square (fe32.add a b)) (square b) ≡ square a
square-less a b = even_field.square_less fe32_laws.is_field even a b

one_squaring : (a b c : Fe32)
    → squared (triple a b c) ≡ triple (square a) (square c) (fe32.add (square b) (square c))
unfolding mul
one_squaring a b c =
    same_parts
    (cubic.square₀ fe32_laws.is_field even a b c)
    (cubic.square₁ fe32_laws.is_field even a b c)
    (cubic.square₂ fe32_laws.is_field even a b c)

two_squarings : (a b c : Fe32)
    → squared (squared (triple a b c))
    ≡ triple (square (square a))
    (fe32.add (square (square b)) (square (square c))) (square (square b))
two_squarings a b c =
    ap squared (one_squaring a b c)
    ∙ one_squaring (square a) (square c) (fe32.add (square b) (square c))
    ∙ same_parts refl (square-add (square b) (square c))
    (fe32_laws.is_field.add_comm (square (square c)) (square (fe32.add (square b) (square c)))
    ∙ square-less (square b) (square c))

three_squarings : (a b c : Fe32)
    → squared (squared (squared (triple a b c)))
    ≡ triple (square (square (square a))) (square (square (square b))) (square (square (square c)))
three_squarings a b c =
    ap squared (two_squarings a b c)
    ∙ one_squaring (square (square a))
    (fe32.add (square (square b)) (square (square c))) (square (square b))
    ∙ same_parts refl refl
    (ap (λ (w : Fe32). fe32.add (square w) (square (square (square b))))
    (fe32_laws.is_field.add_comm (square (square b)) (square (square c)))
    ∙ square-less (square (square c)) (square (square b)))

-- five squarings give the conjugate
five_squarings : (a b c : Fe32)
    → squared (squared (squared (squared (squared (triple a b c))))) ≡ triple a (fe32.add b c) b
five_squarings a b c =
    ap (λ (x : Fe32Ext 3). squared (squared (squared x))) (two_squarings a b c)
    ∙ three_squarings (square (square a))
    (fe32.add (square (square b)) (square (square c))) (square (square b))
    ∙ same_parts (five_squares a)
    (ap (λ (w : Fe32). square (square w)) (square-add (square (square b)) (square (square c)))
    ∙ ap square (square-add (square (square (square b))) (square (square (square c))))
    ∙ square-add (square (square (square (square b)))) (square (square (square (square c))))
    ∙ (λ i. fe32.add (five_squares b i) (five_squares c i)))
    (five_squares b)

power-32 : (a b c : Fe32) → power fe32768.ops (triple a b c) 32 ≡ triple a (fe32.add b c) b
power-32 a b c =
    sym (power_by_squares-power is_field (triple a b c)
    (false ∷ false ∷ false ∷ false ∷ false ∷ true ∷ []))
    ∙ is_field.mul_one (squared (squared (squared (squared (squared (triple a b c))))))
    ∙ five_squarings a b c

taken_away : (b c : Fe32) → fe32.add (fe32.add b c) b ≡ c
taken_away b c =
    fe32_laws.is_field.add_comm (fe32.add b c) b
    ∙ even_field.add_twice_more fe32_laws.is_field even b c

power-1024 : (a b c : Fe32) → power fe32768.ops (triple a b c) 1024 ≡ triple a c (fe32.add b c)
power-1024 a b c =
    power-mul is_field (triple a b c) 32 32
    ∙ ap (λ (x : Fe32Ext 3). power fe32768.ops x 32) (power-32 a b c)
    ∙ power-32 a (fe32.add b c) b
    ∙ same_parts refl (taken_away b c) refl

-- so the power at 1 + 32 + 1024 is the norm
power-1057 : (a b c : Fe32)
    → power fe32768.ops (triple a b c) 1057 ≡ embed (cubic.norm fe32.ops a b c)
unfolding mul
power-1057 a b c =
    power-suc is_field (triple a b c) 1056
    ∙ ap (mul (triple a b c))
    (power-add is_field (triple a b c) 32 1024
    ∙ (λ i. mul (power-32 a b c i) (power-1024 a b c i))
    ∙ same_parts
    (cubic.conjugates₀ fe32_laws.is_field even a b c)
    (cubic.conjugates₁ fe32_laws.is_field even a b c)
    (cubic.conjugates₂ fe32_laws.is_field even a b c))
    ∙ same_parts refl (cubic.norm₁ fe32_laws.is_field even a b c)
    (cubic.norm₂ fe32_laws.is_field even a b c)

-- each element but zero to the order is one
pub power-order : (x : Fe32Ext 3) → x ≢ fe32768.zero → power fe32768.ops x 32767 ≡ fe32768.one
power-order x h =
    power-mul is_field x 1057 31
    ∙ ap (λ (y : Fe32Ext 3). power fe32768.ops y 31)
    (ap (λ (y : Fe32Ext 3). power fe32768.ops y 1057) (sym (parts x))
    ∙ power-1057 (low x) (middle x) (high x))
    ∙ sym (power-map fe32.ops fe32768.ops embed refl embed-mul (norm x) 31)
    ∙ ap embed (fe32_laws.power-order (norm x) (norm-not_zero x h))

-- the divisors of the order
pub lists_divisors : ListsDivisors 32767 divisors
lists_divisors =
    ListsDivisors-from_tests 32767 182 divisors (omega arith) (omega arith) refl refl refl

-- the powers of the generator at 32767 over 7, 31 and 151
power-4681 : power fe32768.ops fe32768.generator 4681 ≢ fe32768.one
unfolding mul product
power-4681 h =
    let bits =
    true ∷ false ∷ false ∷ true ∷ false ∷ false ∷ true
    ∷ false ∷ false ∷ true ∷ false ∷ false ∷ true ∷ [] in
    differ 0 1 refl
    (ap (λ (x : Fe32Ext 3). (low x).value)
    (power_by_squares-power is_field fe32768.generator bits ∙ h))

power-1057_of_generator : power fe32768.ops fe32768.generator 1057 ≢ fe32768.one
unfolding mul product
power-1057_of_generator h =
    let bits =
    true ∷ false ∷ false ∷ false ∷ false ∷ true ∷ false ∷ false ∷ false ∷ false ∷ true ∷ [] in
    differ 23 1 refl
    (ap (λ (x : Fe32Ext 3). (low x).value)
    (power_by_squares-power is_field fe32768.generator bits ∙ h))

power-217 : power fe32768.ops fe32768.generator 217 ≢ fe32768.one
unfolding mul product
power-217 h =
    let bits = true ∷ false ∷ false ∷ true ∷ true ∷ false ∷ true ∷ true ∷ [] in
    differ 26 1 refl
    (ap (λ (x : Fe32Ext 3). (low x).value)
    (power_by_squares-power is_field fe32768.generator bits ∙ h))

generator-not_zero : fe32768.generator ≢ fe32768.zero
generator-not_zero h = differ 29 0 refl (ap (λ (x : Fe32Ext 3). (low x).value) h)

-- the generator has order 32767
pub generator-order : IsOrder fe32768.ops fe32768.generator 32767
generator-order =
    IsOrder-from_tests is_field fe32768.generator 32767 divisors
    (4681 ∷ 1057 ∷ 217 ∷ []) (omega arith) lists_divisors refl
    (power-order fe32768.generator generator-not_zero)
    (power-4681, (power-1057_of_generator, (power-217, tt)))

pub fits : IsPositiveI64 2 × IsPositiveI64 32767
fits = (
  record { positive = omega arith; below = omega arith },
  record { positive = omega arith; below = omega arith },
)
