-- The packed words of a generator and a target.
use Rattle.std.specs.Prelude.{ℕ, List, map, reverse, if◌then◌else◌, nat_le}
use Rattle.bech32_gf.specs.Fe32 as fe32
use Rattle.bech32_gf.specs.declared.gf32.Fe32.{Fe32}
use Rattle.bech32_checksum.specs.Code.{Code}
use Rattle.bech32_checksum.specs.Packed.{number_of_digits}

-- the products of elements and a factor as the digits of a number, from the highest
abbrev pub packed_times : Fe32 → List Fe32 → ℕ
packed_times factor elements = number_of_digits (map (λ x. (fe32.mul x factor).value) elements)

-- how many elements fit: six into a u32, twelve into a u64, twenty-five into a u128
abbrev pub width_of : ℕ → ℕ
width_of degree = if nat_le degree 6 then 6 else (if nat_le degree 12 then 12 else 25)

-- the code of a generator and a target that are written with the highest coefficient first, the
-- generator without its leading one
abbrev pub code_of_written : List Fe32 → List Fe32 → ℕ → Code
code_of_written generator target code_length =
    record { generator = reverse generator; target = reverse target; code_length = code_length }
