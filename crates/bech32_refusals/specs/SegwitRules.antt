-- The numbers of segwit addresses, and their rule on the length of a program.
use Rattle.std.specs.Prelude.{◌≡◌, ◌≢◌, ◌<◌, ◌≤◌, ◌⊎◌, ℕ}
use Rattle.bech32_gf.specs.Fe32.{value}
use Rattle.bech32_gf.specs.declared.gf32.Fe32.{Fe32}
use Rattle.bech32_refusals.specs.declared.segwit.WitnessLengthError.{WitnessLengthError}
use Rattle.bech32_refusals.specs.declared.segwit.WitnessLengthError.TheVariants.{TooShort, TooLong}
use Rattle.bech32_refusals.specs.declared.segwit.WitnessLengthError.TheVariants.{InvalidSegwitV0}

-- the most characters of an address (BIP-173, Bech32)
abbrev pub max_address_length : ℕ
max_address_length = 90

-- the highest witness version (BIP-173, Segwit address format)
abbrev pub max_witness_version : ℕ
max_witness_version = 16

-- the fewest bytes of a program (BIP-173, Segwit address format)
abbrev pub min_program_length : ℕ
min_program_length = 2

-- the most bytes of a program (BIP-173, Segwit address format)
abbrev pub max_program_length : ℕ
max_program_length = 40

-- the bytes of a program of version 0 that is the hash of a key (BIP-141, Witness program)
abbrev pub key_hash_length : ℕ
key_hash_length = 20

-- the bytes of a program of version 0 that is the hash of a script (BIP-141, Witness program)
abbrev pub script_hash_length : ℕ
script_hash_length = 32

-- a program of this version may have n bytes
pub record IsProgramLength (version : Fe32) (n : ℕ) : Type 0 where
  pub not_short : min_program_length ≤ n
  pub not_long : n ≤ max_program_length
  pub of_version_0 : value version ≡ 0 → (n ≡ key_hash_length) ⊎ (n ≡ script_hash_length)

-- why it may not: the first of three faults
abbrev pub IsLengthRefusal : Fe32 → ℕ → WitnessLengthError → Type 0
IsLengthRefusal version n TooShort = n < min_program_length
IsLengthRefusal version n TooLong = max_program_length < n
IsLengthRefusal version n InvalidSegwitV0 =
    (value version ≡ 0) × (min_program_length ≤ n) × (n ≤ max_program_length)
    × (n ≢ key_hash_length) × (n ≢ script_hash_length)
