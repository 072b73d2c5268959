-- The integers that words are packed into.
use Rattle.std.specs.Prelude.{ℕ, List, codes, if◌then◌else◌, nat_le}

-- the smallest of u32, u64 and u128 into which this many elements fit: six, twelve and twenty-five
abbrev pub representation : ℕ → List ℕ
representation degree =
    if nat_le degree 6 then codes "u32"
    else (if nat_le degree 12 then codes "u64" else codes "u128")

-- the number of its hexadecimal digits
abbrev pub hex_digits : ℕ → ℕ
hex_digits degree = if nat_le degree 6 then 8 else (if nat_le degree 12 then 16 else 32)
