-- The elements of the field of 32, their sums and products.
use Rattle.std.specs.Prelude.{◌≡◌, ◌<◌, ℕ, ◌%◌, bit_xor, List, map}
use Rattle.std.specs.Coded.{le_prop}
use Rattle.std.proofs.Common.{arith}
use Rattle.std.proofs.lemmas.Nat.{xor_lt}
use mathlib.Core.HLevel.{is_prop→PathP}
use Rattle.bech32_gf.specs.Field.{Ops}
use Rattle.bech32_gf.specs.Gf32.{product, inverse}
use Rattle.bech32_gf.specs.laws.Gf32Laws.{product-lt, inverse-lt}
use Rattle.bech32_gf.specs.Alphabet.{value_of, value_of-lt}
use Rattle.bech32_gf.specs.declared.gf32.Fe32.{Fe32}

-- the value of an element, from 0 to 31
abbrev pub value : Fe32 → ℕ
value x = x.value

-- two elements of one value are equal
pub path : (x y : Fe32) → x.value ≡ y.value → x ≡ y
path x y e =
    λ i. record {
      value = e i;
      in_field = is_prop→PathP (λ j. e j < 32) (λ j. le_prop) x.in_field y.in_field i;
    }

pub mod_32-lt : (n : ℕ) → n % 32 < 32
mod_32-lt n = omega arith

-- the element of a number's lowest five bits
abbrev pub element : ℕ → Fe32
element n = record { value = n % 32; in_field = mod_32-lt n }

abbrev pub add : Fe32 → Fe32 → Fe32
add x y = record {
  value = bit_xor x.value y.value;
  in_field = xor_lt 5 x.value y.value x.in_field y.in_field;
}

abbrev pub mul : Fe32 → Fe32 → Fe32
mul x y = record {
  value = product x.value y.value;
  in_field = product-lt x.value y.value x.in_field y.in_field;
}

abbrev pub inv : Fe32 → Fe32
inv x = record { value = inverse x.value; in_field = inverse-lt x.value x.in_field }

abbrev pub zero : Fe32
zero = element 0

abbrev pub one : Fe32
one = element 1

abbrev pub generator : Fe32
generator = element 2

abbrev pub ops : Ops Fe32
ops = record { zero = zero; one = one; add = add; mul = mul; neg = λ x. x; inv = inv }

-- the element of a character of the alphabet, in either case (zero of any other)
abbrev pub element_of : ℕ → Fe32
element_of c = record { value = value_of c; in_field = value_of-lt c }

-- the elements of characters
abbrev pub elements_of : List ℕ → List Fe32
elements_of characters = map element_of characters
