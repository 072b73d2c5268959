-- The numbers of refusals of codex32 strings: those of `bech32_numbers` for the grammar and the
-- checksum, 56 for a string that is not written, from 74 for shares, from 81 for what codex32 asks
-- besides, 91 for out of memory, and 92 for a buffer that is too small.
use Rattle.std.specs.Prelude.{ℕ}
use Rattle.bech32_numbers.specs.Numbers.{number_of_text_error, number_of_checksum_error}
use Rattle.codex32.specs.declared.error.Codex32Error.{Codex32Error}
use Rattle.codex32.specs.declared.error.Codex32Error.TheVariants.{Text, Length, Hrp}
use Rattle.codex32.specs.declared.error.Codex32Error.TheVariants.{Checksum}
use Rattle.codex32.specs.declared.error.Codex32Error.TheVariants.{Threshold, ShareIndex}
use Rattle.codex32.specs.declared.error.Codex32Error.TheVariants.{Memory}
use Rattle.codex32.specs.declared.error.DeriveError.{DeriveError}
use Rattle.codex32.specs.declared.error.DeriveError.TheVariants.{
  TooFew,
  OtherSet,
  IndexTwice,
  Contradiction,
  Unshared as UnsharedSet,
  Memory as DeriveMemory,
}
use Rattle.codex32.specs.declared.error.EncodeError.{EncodeError}
use Rattle.codex32.specs.declared.error.EncodeError.TheVariants.{Size}
use Rattle.codex32.specs.declared.error.EncodeError.TheVariants.{Memory as EncodeMemory}
use Rattle.codex32.specs.declared.error.HeaderError.{HeaderError}
use Rattle.codex32.specs.declared.error.HeaderError.TheVariants.{
  Threshold as BadThreshold,
  Identifier,
  ShareIndex as NoShareIndex,
  Unshared,
}
use Rattle.codex32.specs.declared.error.PayloadError.{PayloadError}
use Rattle.codex32.specs.declared.error.PayloadError.TheVariants.{LeftOver}
use Rattle.codex32.specs.declared.error.SplitError.{SplitError}
use Rattle.codex32.specs.declared.error.SplitError.TheVariants.{
  Unshared as UnsharedSplit,
  Size as SplitSize,
  Count,
  Random,
  NoRoom,
}
use Rattle.codex32.specs.declared.error.SplitError.TheVariants.{EqualRandom}

-- of a text that is not a codex32 string, or for which no nearest text is looked for
abbrev pub number_of_codex32_error : Codex32Error → ℕ
number_of_codex32_error (Text e) = number_of_text_error e
number_of_codex32_error (Checksum e) = number_of_checksum_error e
number_of_codex32_error Hrp = 81
number_of_codex32_error Length = 82
number_of_codex32_error Threshold = 83
number_of_codex32_error ShareIndex = 84
number_of_codex32_error Memory = 91

-- of a header that is not made
abbrev pub number_of_header_error : HeaderError → ℕ
number_of_header_error BadThreshold = 83
number_of_header_error Unshared = 84
number_of_header_error Identifier = 85
number_of_header_error NoShareIndex = 86

-- of a payload that has no bytes
abbrev pub number_of_payload_error : PayloadError → ℕ
number_of_payload_error LeftOver = 87

-- of bytes of which no string is made
abbrev pub number_of_codex32_encode_error : EncodeError → ℕ
number_of_codex32_encode_error Size = 56
number_of_codex32_encode_error EncodeMemory = 91

-- of shares that give no string
abbrev pub number_of_derive_error : DeriveError → ℕ
number_of_derive_error TooFew = 74
number_of_derive_error OtherSet = 75
number_of_derive_error IndexTwice = 76
number_of_derive_error Contradiction = 77
number_of_derive_error UnsharedSet = 84
number_of_derive_error DeriveMemory = 91

-- of a secret that is not split
abbrev pub number_of_split_error : SplitError → ℕ
number_of_split_error SplitSize = 56
number_of_split_error Count = 78
number_of_split_error Random = 66
number_of_split_error EqualRandom = 68
number_of_split_error UnsharedSplit = 84
number_of_split_error NoRoom = 92
