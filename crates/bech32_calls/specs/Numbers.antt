-- The numbers of refusals: those of `bech32_numbers`, with 2 for bytes that are not a text, 4 for a
-- number that is not taken, 67 for a byte that is no element, 91 for lent memory that does not
-- suffice, and 92 for a buffer that is too small.
use Rattle.std.specs.Prelude.{ℕ}
use Rattle.bech32_refusals.specs.declared.texts.EncodeError.TheVariants.{TooLong as LongText}
use Rattle.bech32_numbers.specs.Numbers.{number_of_hrp_error, number_of_text_error}
use Rattle.bech32_numbers.specs.Numbers.{number_of_checksum_error}
use Rattle.bech32_numbers.specs.Numbers.{number_of_address_error, number_of_no_correction}
use Rattle.bech32_numbers.specs.Numbers.{number_of_padding_error}
use Rattle.bech32_numbers.specs.Numbers.{number_of_encode_error, number_of_segwit_encode_error}
use Rattle.bech32_calls.specs.declared.refusal.Refusal.{Refusal}
use Rattle.bech32_calls.specs.declared.refusal.Refusal.TheVariants.{NotUtf8, BadNumber, NoRoom}
use Rattle.bech32_calls.specs.declared.refusal.Refusal.TheVariants.{BadElement, Padding}
use Rattle.bech32_calls.specs.declared.refusal.Refusal.TheVariants.{NoCorrection, Memory}
use Rattle.bech32_calls.specs.declared.refusal.Refusal.TheVariants.{Hrp, TooLong, Text, Checksum}
use Rattle.bech32_calls.specs.declared.refusal.Refusal.TheVariants.{NoAddress, Address}

-- of any refusal
abbrev pub number_of : Refusal → ℕ
number_of NotUtf8 = 2
number_of BadNumber = 4
number_of (BadElement place) = 67
number_of NoRoom = 92
number_of NoCorrection = number_of_no_correction
number_of Memory = 91
number_of (Hrp e) = number_of_hrp_error e
number_of (TooLong e) = number_of_encode_error (LongText e)
number_of (Text e) = number_of_text_error e
number_of (Checksum e) = number_of_checksum_error e
number_of (Padding e) = number_of_padding_error e
number_of (NoAddress e) = number_of_segwit_encode_error e
number_of (Address e) = number_of_address_error e
