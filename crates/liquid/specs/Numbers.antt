-- The numbers of refusals of confidential addresses. An error that carries another has its number.
use Rattle.std.specs.Prelude.{ℕ}
use Rattle.bech32_numbers.specs.Numbers.{number_of_checksum_error, number_of_length_error}
use Rattle.bech32_numbers.specs.Numbers.{number_of_padding_error, number_of_text_error}
use Rattle.liquid.specs.declared.error.DecodeError.{DecodeError}
use Rattle.liquid.specs.declared.error.DecodeError.TheVariants.{
  Unchecked,
  NoData,
  InvalidWitnessVersion,
  UnsupportedVersion,
  Checksum,
  Padding,
  NoBlindingKey,
  WitnessLength,
}
use Rattle.liquid.specs.declared.error.EncodeError.{EncodeError}
use Rattle.liquid.specs.declared.error.EncodeError.TheVariants.{
  WitnessVersion,
  UnsupportedVersion as UnsupportedProgram,
  WitnessLength as NoProgramLength,
  Memory,
}

-- of a text that is not a confidential address
abbrev pub number_of_confidential_error : DecodeError → ℕ
number_of_confidential_error (Unchecked e) = number_of_text_error e
number_of_confidential_error NoData = 42
number_of_confidential_error (InvalidWitnessVersion v) = 43
number_of_confidential_error (UnsupportedVersion v) = 70
number_of_confidential_error (Checksum e) = number_of_checksum_error e
number_of_confidential_error (Padding e) = number_of_padding_error e
number_of_confidential_error NoBlindingKey = 79
number_of_confidential_error (WitnessLength e) = number_of_length_error e

-- of a confidential address that is not written
abbrev pub number_of_confidential_encode_error : EncodeError → ℕ
number_of_confidential_encode_error (WitnessVersion v) = 52
number_of_confidential_encode_error (UnsupportedProgram v) = 70
number_of_confidential_encode_error (NoProgramLength e) = number_of_length_error e
number_of_confidential_encode_error Memory = 91
