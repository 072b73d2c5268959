-- The field of 32768 elements: triples a + b z + c z^2 of elements of GF(32), with z^3 = z + 1.
use Rattle.std.specs.Prelude.{◌==◌, ◌&&◌, ℕ, List, [], ◌∷◌, Option, Some, None, if◌then◌else◌}
use Rattle.std.proofs.Common.{refl}
use Rattle.bech32_gf.specs.Field.{Ops}
use Rattle.bech32_gf.specs.Fe32 as fe32
use Rattle.bech32_gf_ext.specs.Fe32Ext.{ext_coefficient}
use Rattle.bech32_gf_ext.specs.Cubic as cubic
use Rattle.bech32_gf.specs.declared.gf32.Fe32.{Fe32}
use Rattle.bech32_gf_ext.specs.declared.Fe32Ext.{Fe32Ext}

-- the element a + b z + c z^2
abbrev pub triple : Fe32 → Fe32 → Fe32 → Fe32Ext 3
triple a b c = record { inner = a ∷ b ∷ c ∷ []; full = refl }

-- the coefficients of an element a + b z + c z^2
abbrev pub low : Fe32Ext 3 → Fe32
low x = ext_coefficient x 0

abbrev pub middle : Fe32Ext 3 → Fe32
middle x = ext_coefficient x 1

abbrev pub high : Fe32Ext 3 → Fe32
high x = ext_coefficient x 2

-- the sum, place by place
unfoldable pub add : Fe32Ext 3 → Fe32Ext 3 → Fe32Ext 3
add x y =
    triple (fe32.add (low x) (low y)) (fe32.add (middle x) (middle y)) (fe32.add (high x) (high y))

-- the product of the polynomials, with z^3 replaced by z + 1
unfoldable pub mul : Fe32Ext 3 → Fe32Ext 3 → Fe32Ext 3
mul x y =
    triple (cubic.product₀ fe32.ops (low x) (middle x) (high x) (low y) (middle y) (high y))
    (cubic.product₁ fe32.ops (low x) (middle x) (high x) (low y) (middle y) (high y))
    (cubic.product₂ fe32.ops (low x) (middle x) (high x) (low y) (middle y) (high y))

-- the product of an element with its two conjugates
abbrev pub norm : Fe32Ext 3 → Fe32
norm x = cubic.norm fe32.ops (low x) (middle x) (high x)

-- the inverse: the product of the two conjugates over the norm
unfoldable pub inv : Fe32Ext 3 → Fe32Ext 3
inv x =
    let scale = fe32.inv (norm x) in
    triple (fe32.mul (cubic.adjugate₀ fe32.ops (low x) (middle x) (high x)) scale)
    (fe32.mul (cubic.adjugate₁ fe32.ops (low x) (middle x) (high x)) scale)
    (fe32.mul (cubic.adjugate₂ fe32.ops (low x) (middle x) (high x)) scale)

-- an element of GF(32), as one of this field
abbrev pub embed : Fe32 → Fe32Ext 3
embed a = triple a fe32.zero fe32.zero

-- the element of GF(32) that this is, if it is one
abbrev pub retract : Fe32Ext 3 → Option Fe32
retract x = if (middle x).value == 0 && (high x).value == 0 then Some (low x) else None

abbrev pub zero : Fe32Ext 3
zero = triple fe32.zero fe32.zero fe32.zero

abbrev pub one : Fe32Ext 3
one = triple fe32.one fe32.zero fe32.zero

-- the element [A, C, Q], which has order 32767
abbrev pub generator : Fe32Ext 3
generator = triple (fe32.element 29) (fe32.element 24) fe32.zero

-- z, and z + 1, which is its cube
abbrev pub ext_elem : Fe32Ext 3
ext_elem = triple fe32.zero fe32.one fe32.zero

abbrev pub polynomial : Fe32Ext 3
polynomial = triple fe32.one fe32.one fe32.zero

abbrev pub ops : Ops (Fe32Ext 3)
ops = record { zero = zero; one = one; add = add; mul = mul; neg = λ x. x; inv = inv }

-- the divisors of the order 32767
abbrev pub divisors : List ℕ
divisors = 1 ∷ 7 ∷ 31 ∷ 151 ∷ 217 ∷ 1057 ∷ 4681 ∷ 32767 ∷ []
