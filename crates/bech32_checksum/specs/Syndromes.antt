-- The values of a residue at the roots of the generator of BIP-173, as numbers.
use Rattle.std.specs.Prelude.{ℕ, ◌+◌, ◌*◌, List}
use Rattle.bech32_gf.specs.Field.{power}
use Rattle.bech32_gf.specs.declared.gf32.Fe32.{Fe32}
use Rattle.bech32_gf_ext.specs.Fe1024 as fe1024
use Rattle.bech32_gf_ext.specs.declared.Fe32Ext.{Fe32Ext}
use Rattle.bech32_poly.specs.Embedding.{value_in}
use Rattle.bech32_checksum.specs.Packed.{digit_of}
use Rattle.bech32_checksum.specs.laws.RootLaws.{base}

-- the element a + b z whose coefficients are the digits 2 j and 2 j + 1 of a number
abbrev pub pair_at : ℕ → ℕ → Fe32Ext 2
pair_at number j = fe1024.pair (digit_of number (2 * j)) (digit_of number (2 * j + 1))

-- the value of a residue at the power 24 + j of the base
abbrev pub syndrome : List Fe32 → ℕ → Fe32Ext 2
syndrome residue j = value_in fe1024.ops fe1024.embed residue (power fe1024.ops base (24 + j))

-- the sum of the syndrome behind one and of that one times a power of the base
abbrev pub sum_beside : List Fe32 → ℕ → ℕ → Fe32Ext 2
sum_beside residue location j =
    fe1024.add (syndrome residue (j + 1))
    (fe1024.mul (syndrome residue j) (power fe1024.ops base location))

-- what an error at a location adds to that sum of the first two syndromes
abbrev pub error_sum : Fe32 → ℕ → ℕ → Fe32Ext 2
error_sum value location other =
    fe1024.mul (fe1024.mul (fe1024.embed value) (power fe1024.ops (power fe1024.ops base other) 24))
    (fe1024.add (power fe1024.ops base location) (power fe1024.ops base other))
