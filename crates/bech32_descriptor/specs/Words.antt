-- Packed remainders.
use Rattle.std.specs.Prelude.{◌+◌, ◌*◌, ◌/◌, ◌%◌, ◌^◌, ℕ, List}
use Rattle.bech32_gf.specs.declared.gf32.Fe32.{Fe32}
use Rattle.bech32_checksum.specs.Code.{IsResidueOf}
use Rattle.bech32_checksum.specs.Packed.{HasDigits}
use Rattle.bech32_descriptor.specs.Code.{descriptor}
use Rattle.bech32_descriptor.specs.Descriptor.{place_of}

-- the number is the remainder of the polynomial, packed, and has no bit above it
pub record IsWordOfSymbols (word : ℕ) (p : List Fe32) : Type 0 where
  pub residue : IsResidueOf (λ (x : ℕ). x) descriptor word p
  pub clear : HasDigits 8 word

-- three places in their groups, and the number of the groups, as a word of four elements
abbrev pub number_of_three : ℕ → ℕ → ℕ → ℕ
number_of_three a b c =
    (place_of a % 32 * 2 ^ 15 + 9 * (place_of a / 32))
    + (place_of b % 32 * 2 ^ 10 + 3 * (place_of b / 32))
    + (place_of c % 32 * 2 ^ 5 + place_of c / 32)
