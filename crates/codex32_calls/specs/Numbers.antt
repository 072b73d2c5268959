-- The numbers of refusals: those of `codex32::numbers`, with 2 for bytes that are not a text, 4 for
-- lengths that are not those of texts, 21 and 22 for characters that are no payload, 34 where there
-- is no nearest text, and 92 for a buffer that is too small.
use Rattle.std.specs.Prelude.{ℕ}
use Rattle.codex32.specs.Numbers.{number_of_codex32_error, number_of_derive_error}
use Rattle.codex32.specs.Numbers.{number_of_codex32_encode_error, number_of_header_error}
use Rattle.codex32.specs.Numbers.{number_of_payload_error, number_of_split_error}
use Rattle.codex32_calls.specs.declared.refusal.Refusal.{Refusal}
use Rattle.codex32_calls.specs.declared.refusal.Refusal.TheVariants.{NotUtf8, BadLengths, Text}
use Rattle.codex32_calls.specs.declared.refusal.Refusal.TheVariants.{InvalidCharacter, MixedCase}
use Rattle.codex32_calls.specs.declared.refusal.Refusal.TheVariants.{Header, Payload, Encode}
use Rattle.codex32_calls.specs.declared.refusal.Refusal.TheVariants.{Derive, Split}
use Rattle.codex32_calls.specs.declared.refusal.Refusal.TheVariants.{NoNearest, NoRoom}

abbrev pub number_of_codex32_refusal : Refusal → ℕ
number_of_codex32_refusal NotUtf8 = 2
number_of_codex32_refusal BadLengths = 4
number_of_codex32_refusal InvalidCharacter = 21
number_of_codex32_refusal MixedCase = 22
number_of_codex32_refusal (Text e) = number_of_codex32_error e
number_of_codex32_refusal (Header e) = number_of_header_error e
number_of_codex32_refusal (Payload e) = number_of_payload_error e
number_of_codex32_refusal (Encode e) = number_of_codex32_encode_error e
number_of_codex32_refusal (Derive e) = number_of_derive_error e
number_of_codex32_refusal (Split e) = number_of_split_error e
number_of_codex32_refusal NoNearest = 34
number_of_codex32_refusal NoRoom = 92
