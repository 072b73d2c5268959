-- Codes that differ from Bech32 in their target and their code length alone (BIP-173, BIP-350).
use Rattle.std.specs.Prelude.{◌≡◌, ℕ, Some}
use Rattle.bech32_checksum.specs.Code.{Code, bech32}
use Rattle.bech32_checksum.specs.Packed.{HasDigits, digits}
use Rattle.bech32_calls.specs.Checksums.{code_of_number}

-- the code has the generator of Bech32, and this number packs its target
pub record PacksTarget (target : ℕ) (code : Code) : Type 0 where
  pub generator : code.generator ≡ bech32.generator
  pub target_is : code.target ≡ digits 6 target

-- a number stands for a code for texts of up to 1,023 characters, whose target another packs
pub record IsTargetOf (checksum target : ℕ) : Type 0 where
  pub code : Code
  pub code_is : code_of_number checksum ≡ Some code
  pub packs : PacksTarget target code
  pub length_is : code.code_length ≡ 1023
  pub clear : HasDigits 6 target
