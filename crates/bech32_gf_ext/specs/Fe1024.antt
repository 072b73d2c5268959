-- The field of 1024 elements: pairs a + b z of elements of GF(32), with z^2 = z + 1.
use Rattle.std.specs.Prelude.{◌==◌, ℕ, List, [], ◌∷◌, Option, Some, None, if◌then◌else◌}
use Rattle.std.proofs.Common.{refl}
use Rattle.bech32_gf.specs.Field.{Ops}
use Rattle.bech32_gf.specs.Fe32 as fe32
use Rattle.bech32_gf_ext.specs.Fe32Ext.{ext_coefficient}
use Rattle.bech32_gf_ext.specs.Quadratic as quadratic
use Rattle.bech32_gf.specs.declared.gf32.Fe32.{Fe32}
use Rattle.bech32_gf_ext.specs.declared.Fe32Ext.{Fe32Ext}

-- the element a + b z
abbrev pub pair : Fe32 → Fe32 → Fe32Ext 2
pair a b = record { inner = a ∷ b ∷ []; full = refl }

-- the coefficients of an element a + b z
abbrev pub low : Fe32Ext 2 → Fe32
low x = ext_coefficient x 0

abbrev pub high : Fe32Ext 2 → Fe32
high x = ext_coefficient x 1

-- the sum, place by place
unfoldable pub add : Fe32Ext 2 → Fe32Ext 2 → Fe32Ext 2
add x y = pair (fe32.add (low x) (low y)) (fe32.add (high x) (high y))

-- the product of the polynomials, with z^2 replaced by z + 1
unfoldable pub mul : Fe32Ext 2 → Fe32Ext 2 → Fe32Ext 2
mul x y =
    pair (quadratic.product₀ fe32.ops (low x) (high x) (low y) (high y))
    (quadratic.product₁ fe32.ops (low x) (high x) (low y) (high y))

-- the product of an element with its conjugate
abbrev pub norm : Fe32Ext 2 → Fe32
norm x = quadratic.norm fe32.ops (low x) (high x)

-- the inverse: the conjugate (a + b) + b z over the norm
unfoldable pub inv : Fe32Ext 2 → Fe32Ext 2
inv x =
    let scale = fe32.inv (norm x) in
    pair (fe32.mul (fe32.add (low x) (high x)) scale) (fe32.mul (high x) scale)

-- an element of GF(32), as one of this field
abbrev pub embed : Fe32 → Fe32Ext 2
embed a = pair a fe32.zero

-- the element of GF(32) that this is, if it is one
abbrev pub retract : Fe32Ext 2 → Option Fe32
retract x = if (high x).value == 0 then Some (low x) else None

abbrev pub zero : Fe32Ext 2
zero = pair fe32.zero fe32.zero

abbrev pub one : Fe32Ext 2
one = pair fe32.one fe32.zero

-- the element [P, H], which has order 1023
abbrev pub generator : Fe32Ext 2
generator = pair (fe32.element 1) (fe32.element 23)

-- z, and z + 1, which is its square
abbrev pub ext_elem : Fe32Ext 2
ext_elem = pair fe32.zero fe32.one

abbrev pub polynomial : Fe32Ext 2
polynomial = pair fe32.one fe32.one

abbrev pub ops : Ops (Fe32Ext 2)
ops = record { zero = zero; one = one; add = add; mul = mul; neg = λ x. x; inv = inv }

-- the divisors of the order 1023
abbrev pub divisors : List ℕ
divisors = 1 ∷ 3 ∷ 11 ∷ 31 ∷ 33 ∷ 93 ∷ 341 ∷ 1023 ∷ []
