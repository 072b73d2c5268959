-- The numbers of refusals: those of `codex32::numbers`, with 4 and 5 for words that are not read; 1
-- to 3 are those of `line_program`.
use Rattle.std.specs.Prelude.{ℕ}
use Rattle.codex32.specs.Numbers.{number_of_codex32_error, number_of_derive_error}
use Rattle.codex32.specs.Numbers.{number_of_codex32_encode_error, number_of_header_error}
use Rattle.codex32.specs.Numbers.{number_of_payload_error, number_of_split_error}
use Rattle.c32_replies.specs.declared.refusal.Refusal.{Refusal}
use Rattle.c32_replies.specs.declared.refusal.Refusal.TheVariants.{BadNumber, BadHex, Header}
use Rattle.c32_replies.specs.declared.refusal.Refusal.TheVariants.{Text, Payload, Encode, Derive}
use Rattle.c32_replies.specs.declared.refusal.Refusal.TheVariants.{Split}

-- of any refusal
abbrev pub number_of_codex32_reply : Refusal → ℕ
number_of_codex32_reply BadNumber = 4
number_of_codex32_reply BadHex = 5
number_of_codex32_reply (Header e) = number_of_header_error e
number_of_codex32_reply (Text e) = number_of_codex32_error e
number_of_codex32_reply (Payload e) = number_of_payload_error e
number_of_codex32_reply (Encode e) = number_of_codex32_encode_error e
number_of_codex32_reply (Derive e) = number_of_derive_error e
number_of_codex32_reply (Split e) = number_of_split_error e
