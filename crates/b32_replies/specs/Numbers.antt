-- The numbers of refusals: those of `bech32_numbers`, with 4 and 5 for words that are not read, and
-- 91 for out of memory; 1 to 3 are those of `line_program`.
use Rattle.std.specs.Prelude.{ℕ}
use Rattle.bech32_numbers.specs.Numbers.{number_of_hrp_error, number_of_decode_error}
use Rattle.bech32_numbers.specs.Numbers.{number_of_encode_error, number_of_checked_error}
use Rattle.bech32_numbers.specs.Numbers.{number_of_segwit_decode_error}
use Rattle.bech32_numbers.specs.Numbers.{number_of_segwit_encode_error}
use Rattle.bech32_numbers.specs.Numbers.{number_of_elements_error, number_of_text_decode_error}
use Rattle.liquid.specs.Numbers.{number_of_confidential_encode_error, number_of_confidential_error}
use Rattle.b32_replies.specs.declared.refusal.Refusal.{Refusal}
use Rattle.b32_replies.specs.declared.refusal.Refusal.TheVariants.{BadNumber, BadHex, Hrp}
use Rattle.b32_replies.specs.declared.refusal.Refusal.TheVariants.{Encode, Decode, SegwitEncode}
use Rattle.b32_replies.specs.declared.refusal.Refusal.TheVariants.{SegwitDecode, Correct, Memory}
use Rattle.b32_replies.specs.declared.refusal.Refusal.TheVariants.{Text, Elements}
use Rattle.b32_replies.specs.declared.refusal.Refusal.TheVariants.{LiquidEncode, LiquidDecode}

-- of any refusal
abbrev pub number_of_reply : Refusal → ℕ
number_of_reply BadNumber = 4
number_of_reply BadHex = 5
number_of_reply (Hrp e) = number_of_hrp_error e
number_of_reply (Encode e) = number_of_encode_error e
number_of_reply (Decode e) = number_of_decode_error e
number_of_reply (Text e) = number_of_text_decode_error e
number_of_reply (Elements e) = number_of_elements_error e
number_of_reply (SegwitEncode e) = number_of_segwit_encode_error e
number_of_reply (SegwitDecode e) = number_of_segwit_decode_error e
number_of_reply (Correct e) = number_of_checked_error e
number_of_reply (LiquidEncode e) = number_of_confidential_encode_error e
number_of_reply (LiquidDecode e) = number_of_confidential_error e
number_of_reply Memory = 91
