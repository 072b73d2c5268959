-- Numbers as rows of digits of five bits, digit i for x^i, as BIP-173 (Checksum) packs a remainder.
use Rattle.std.specs.Prelude.{◌≡◌, ◌<◌, ℕ, zero, suc, ◌+◌, ◌-◌, ◌/◌, ◌%◌, ◌^◌}
use Rattle.std.specs.Prelude.{◌*◌, ◌==◌, List, [], ◌∷◌, length, map, reverse}
use Rattle.std.specs.Prelude.{bit_xor, if◌then◌else◌}
use Rattle.bech32_gf.specs.Fe32.{element}
use Rattle.bech32_gf.specs.declared.gf32.Fe32.{Fe32}

-- digit n of a number
abbrev pub digit_of : ℕ → ℕ → Fe32
digit_of number n = element (number / 2 ^ (5 * n))

-- the first n values of f
abbrev pub tabulate : {A : Type 0} → ℕ → (ℕ → A) → List A
tabulate zero f = []
tabulate (suc n) f = f 0 ∷ tabulate n (λ i. f (suc i))

-- the lowest n digits of a number, the lowest first
abbrev pub digits : ℕ → ℕ → List Fe32
digits n number = tabulate n (digit_of number)

-- the number whose digits, from the highest, are those of a list
abbrev pub number_of_digits : List ℕ → ℕ
number_of_digits [] = 0
number_of_digits (digit ∷ lower) = digit * 2 ^ (5 * length lower) + number_of_digits lower

-- the number packs these values: the first is its highest digit
pub record Packs (values : List ℕ) (number : ℕ) : Type 0 where
  pub number_is : number ≡ number_of_digits values
  pub digits_are : digits (length values) number ≡ map element (reverse values)

-- no bit of a number is set above its lowest n digits
abbrev pub HasDigits : ℕ → ℕ → Type 0
HasDigits n number = number < 2 ^ (5 * n)

-- the lowest n digits of a number are these elements, the one of x^0 first,
-- and no bit is set above them
pub record IsRowOf (n : ℕ) (elements : List Fe32) (number : ℕ) : Type 0 where
  pub elements_are : digits n number ≡ elements
  pub clear : HasDigits n number

-- the sum of words, the one at place i for each set bit i of a number below n
abbrev pub sum_of_words : (ℕ → ℕ) → ℕ → ℕ → ℕ
sum_of_words word zero bits = 0
sum_of_words word (suc n) bits =
    bit_xor (sum_of_words word n bits) (if (bits / 2 ^ n) % 2 == 1 then word n else 0)

-- the highest of the n digits of a number
abbrev pub highest_digit : ℕ → ℕ → ℕ
highest_digit n number = number / 2 ^ (5 * (n - 1))

-- n digits of a number: those below the highest, each a place higher, and a new lowest one
abbrev pub pushed_digits : ℕ → ℕ → ℕ → ℕ
pushed_digits n number digit = (number % 2 ^ (5 * (n - 1))) * 32 + digit
