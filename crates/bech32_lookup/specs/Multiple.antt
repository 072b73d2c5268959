-- A packed row times an element, and what tells that a list is not such a product.
use Rattle.std.specs.Prelude.{◌≡◌, ◌-◌, ℕ, List, [], ◌∷◌, length}
use Rattle.bech32_gf.specs.Fe32 as fe32
use Rattle.bech32_gf.specs.declared.gf32.Fe32.{Fe32}
use Rattle.bech32_checksum.specs.Packed.{digit_of}
use Rattle.bech32_poly.specs.Polynomial.{coefficient}

-- the coefficients of the list are the digits of the number times the element
abbrev pub IsMultiple : ℕ → List Fe32 → Fe32 → Type 0
IsMultiple number list factor =
    (n : ℕ) → fe32.mul factor (digit_of number n) ≡ coefficient fe32.ops list n

-- a polynomial whose product with another one has a remainder by the generator without constant
-- term, if the list is an element times the remainder of the other one
abbrev pub screen : List Fe32 → List Fe32 → List Fe32
screen generator list =
    fe32.mul (coefficient fe32.ops generator 0) (coefficient fe32.ops list (length generator - 1))
    ∷ coefficient fe32.ops list 0 ∷ []
