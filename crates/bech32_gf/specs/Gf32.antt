-- The field of 32 elements on their values, 0 to 31 (BIP-173, section Checksum design), whose
-- modulus is x^5 + x^3 + 1.
use Rattle.std.specs.Prelude.{ℕ, zero, suc, ◌+◌, ◌*◌, ◌/◌, ◌%◌, ◌^◌, ◌==◌, if◌then◌else◌, bit_xor}

-- the sum of a shifted by i, for each set bit i of b below n
abbrev pub shifted_sum : ℕ → ℕ → ℕ → ℕ
shifted_sum zero a b = 0
shifted_sum (suc i) a b =
    bit_xor (shifted_sum i a b) (if (b / 2 ^ i) % 2 == 1 then a * 2 ^ i else 0)

-- n, reduced by 41 from bit k + 4 down to five bits
abbrev pub reduced : ℕ → ℕ → ℕ
reduced zero n = n
reduced (suc k) n = reduced k (if (n / 2 ^ (k + 5)) % 2 == 1 then bit_xor n (41 * 2 ^ k) else n)

-- the product of two values
unfoldable pub product : ℕ → ℕ → ℕ
product a b = reduced 4 (shifted_sum 5 a b)

-- the product of n copies of a
unfoldable pub product_of : ℕ → ℕ → ℕ
product_of a zero = 1
product_of a (suc n) = product a (product_of a n)

-- the inverse of a value other than 0, as its 30th power, and 0 for 0
unfoldable pub inverse : ℕ → ℕ
inverse a = product_of a 30
