-- A checksum put into a buffer, and the numbers of refusals.
use Rattle.std.specs.Prelude.{◌≡◌, ◌<◌, ℕ, List, None, Some, position}
use Rattle.bech32_encode.specs.Buffers.{IsPut}
use Rattle.bech32_descriptor.specs.Descriptor.{IsChecksum, is_stranger}
use Rattle.bech32_descriptor.specs.declared.error.CheckError.{CheckError}
use Rattle.bech32_descriptor.specs.declared.error.CheckError.TheVariants.{InvalidCharacter}
use Rattle.bech32_descriptor.specs.declared.error.CheckError.TheVariants.{NoChecksum, WrongChecksum}
use Rattle.bech32_more_calls.specs.declared.descriptor.checks.PutError.{PutError}
use Rattle.bech32_more_calls.specs.declared.descriptor.checks.PutError.TheVariants.{
  Character,
  NoRoom,
}

-- the checksum of a descriptor is put at the front of a buffer
pub record PutsChecksum (text old new : List ℕ) : Type 0 where
  pub checksum : List ℕ
  pub is : IsChecksum text checksum
  pub put : IsPut checksum old new 8

-- why it is not, the first that applies
abbrev pub IsPutFault : List ℕ → ℕ → PutError → Type 0
IsPutFault text room (Character i) = position is_stranger text ≡ Some i
IsPutFault text room NoRoom = (position is_stranger text ≡ None) × (room < 8)

-- the numbers of refusals
abbrev pub number_of_put : PutError → ℕ
number_of_put (Character i) = 80
number_of_put NoRoom = 92

abbrev pub number_of_check : CheckError → ℕ
number_of_check NoChecksum = 88
number_of_check (InvalidCharacter i) = 80
number_of_check WrongChecksum = 33
