-- The string of a header and bytes, or the elements of a payload (BIP-93, Unshared Secret and Long
-- codex32 Strings).
use Rattle.std.specs.Prelude.{◌≡◌, ◌⊎◌, ◌&&◌, ◌||◌, nat_le, ℕ, Bool, true, false, List}
use Rattle.std.specs.Prelude.{◌++◌, length, if◌then◌else◌}
use Rattle.bech32_bits.specs.Bits.{to_fes}
use Rattle.bech32_checksum.specs.Code.{Code}
use Rattle.bech32_checksum.specs.Encoded.{IsEncodedText}
use Rattle.bech32_gf.specs.declared.gf32.Fe32.{Fe32}
use Rattle.codex32.specs.Code.{codex32, long_codex32}
use Rattle.codex32.specs.Header.{header_elements}
use Rattle.codex32.specs.ShareParts.{bits_left_over, ms}
use Rattle.codex32.specs.declared.error.EncodeError.{EncodeError}
use Rattle.codex32.specs.declared.error.EncodeError.TheVariants as refusals
use Rattle.codex32.specs.declared.header.Header.{Header}

-- whether a string of 48 to 93 characters has this many bytes, at most four bits being left over
abbrev pub is_byte_count : ℕ → Bool
is_byte_count n = nat_le 16 n && nat_le n 44

-- whether one of 125 to 127 has
abbrev pub is_long_byte_count : ℕ → Bool
is_long_byte_count n = nat_le 63 n && nat_le n 64

-- the checksum of the string of this many bytes
abbrev pub code_of_byte_count : ℕ → Code
code_of_byte_count n = if is_byte_count n then codex32 else long_codex32

-- the text is the string of a header and bytes, in lower case: the elements of the header, those of
-- the bytes with zero bits behind them, and the checksum
abbrev pub IsEncodedString : Header → List ℕ → List ℕ → Type 0
IsEncodedString header bytes text =
    IsEncodedText (code_of_byte_count (length bytes)) ms (header_elements header ++ to_fes bytes)
    text

-- why no string is made of this many bytes: a string does not have that many; or, where it has, out
-- of memory
abbrev pub IsEncodeStringRefusal : ℕ → EncodeError → Type 0
IsEncodeStringRefusal n e =
    ((e ≡ refusals.Size) × (is_byte_count n || is_long_byte_count n ≡ false))
    ⊎ ((e ≡ refusals.Memory) × (is_byte_count n || is_long_byte_count n ≡ true))

-- ---- the elements of a payload

-- whether the payload of a string of 48 to 93 characters has this many elements: as many as bytes
-- have, at most four bits being left over
abbrev pub is_payload_count : ℕ → Bool
is_payload_count n = nat_le 26 n && (nat_le n 71 && nat_le (bits_left_over n) 4)

-- whether that of one of 125 to 127 has
abbrev pub is_long_payload_count : ℕ → Bool
is_long_payload_count n = nat_le 101 n && (nat_le n 103 && nat_le (bits_left_over n) 4)

-- the checksum of the string of this many elements
abbrev pub code_of_payload_count : ℕ → Code
code_of_payload_count n = if is_payload_count n then codex32 else long_codex32

-- the text is the string of a header and the elements of a payload, in lower case: the elements of
-- the header, those, and the checksum
abbrev pub IsEncodedPayload : Header → List Fe32 → List ℕ → Type 0
IsEncodedPayload header payload text =
    IsEncodedText (code_of_payload_count (length payload)) ms (header_elements header ++ payload)
    text

-- why no string is made of this many elements: a string does not have that many; or, where it has,
-- out of memory
abbrev pub IsEncodePayloadRefusal : ℕ → EncodeError → Type 0
IsEncodePayloadRefusal n e =
    ((e ≡ refusals.Size) × (is_payload_count n || is_long_payload_count n ≡ false))
    ⊎ ((e ≡ refusals.Memory) × (is_payload_count n || is_long_payload_count n ≡ true))
