-- Codex32 strings (BIP-93, codex32), and why a text is none.
use Rattle.std.specs.Prelude.{◌≡◌, ◌⊎◌, ◌≤◌, ◌==◌, ◌&&◌, ◌||◌, not, nat_le, if◌then◌else◌, ℕ, Bool}
use Rattle.std.specs.Prelude.{true, List, [], ◌∷◌, ◌++◌, length, slice_index, Option, None, Some}
use Rattle.std.specs.Char.{to_ascii_lowercase}
use Rattle.std.specs.Str.{bytes_eq}
use Rattle.bech32_checksum.specs.Code.{Code}
use Rattle.bech32_hrp.specs.Hrp.{first_of, lowered}
use Rattle.bech32_decode.specs.Acceptance.{IsAccepted}
use Rattle.bech32_decode.specs.Refusals.{IsChecksumRefusal}
use Rattle.bech32_decode.specs.Text.{IsText, split_at_last, text_refusal}
use Rattle.bech32_refusals.specs.declared.error.UncheckedHrpstringError.{UncheckedHrpstringError}
use Rattle.codex32.specs.Code.{codex32, max_length, max_long_length, min_length, min_long_length}
use Rattle.codex32.specs.declared.error.Codex32Error.{Codex32Error}
use Rattle.codex32.specs.declared.error.Codex32Error.TheVariants.{Text, Length, Hrp}
use Rattle.codex32.specs.declared.error.Codex32Error.TheVariants.{Checksum}
use Rattle.codex32.specs.declared.error.Codex32Error.TheVariants.{Threshold, ShareIndex}

-- whether a human-readable part is `ms`, in either case (BIP-93, codex32)
abbrev pub is_ms : List ℕ → Bool
is_ms hrp = bytes_eq (lowered hrp) (109 ∷ 115 ∷ [])

-- whether a string may have this many characters
abbrev pub is_within : ℕ → Bool
is_within n = nat_le min_length n && nat_le n max_length

-- whether a long string may have this many
abbrev pub is_within_long : ℕ → Bool
is_within_long n = nat_le min_long_length n && nat_le n max_long_length

-- whether a string of either length may have this many
abbrev pub is_within_either : ℕ → Bool
is_within_either n = is_within n || is_within_long n

-- whether a character is a threshold: `0`, or `2` to `9` (BIP-93, codex32)
abbrev pub is_threshold : ℕ → Bool
is_threshold c = c == 48 || (nat_le 50 c && nat_le c 57)

-- The text is a codex32 string of these parts: the human-readable part `ms`; in the data part a
-- threshold, four characters of an identifier, a share index, the payload and the 13 characters of
-- the checksum; the share index of the threshold `0` is `s`; as many characters in all as a string
-- may have (BIP-93, codex32 and Unshared Secret).
pub record IsString (text hrp : List ℕ) (threshold : ℕ) (identifier : List ℕ) (share_index : ℕ)
    (payload checksum : List ℕ) : Type 0 where
  pub accepted : IsAccepted codex32 text hrp
      (threshold ∷ (identifier ++ (share_index ∷ (payload ++ checksum))))
  pub is_ms : is_ms hrp ≡ true
  pub long : min_length ≤ length text
  pub identifier_length : length identifier ≡ 4
  pub checksum_length : length checksum ≡ 13
  pub is_threshold : is_threshold threshold ≡ true
  pub unshared : threshold ≡ 48 → to_ascii_lowercase share_index ≡ 115

-- the text is a codex32 string
abbrev pub IsCodex32 : List ℕ → Type 0
IsCodex32 text = (hrp : List ℕ) × (threshold : ℕ) × (identifier : List ℕ) × (share_index : ℕ)
    × (payload : List ℕ) × (checksum : List ℕ)
    × IsString text hrp threshold identifier share_index payload checksum

-- ---- why a text is none

abbrev pub as_text : Option UncheckedHrpstringError → Option Codex32Error
as_text None = None
as_text (Some e) = Some (Text e)

-- the number of characters, of which a test says whether it may be
abbrev pub codex32_length_fault : (ℕ → Bool) → ℕ → Option Codex32Error
codex32_length_fault may_be n = if may_be n then None else Some Length

-- the human-readable part is not `ms`
abbrev pub part_fault : List ℕ → Option Codex32Error
part_fault hrp = if is_ms hrp then None else Some Hrp

-- of what stands before and after the last `1`: the former is not `ms`
abbrev pub hrp_fault : Option (List ℕ × List ℕ) → Option Codex32Error
hrp_fault None = None
hrp_fault (Some p) = part_fault p.0

-- what is wrong with a text but for its checksum, the first of: the grammar, the length, the
-- human-readable part
abbrev pub frame_refusal_by : (ℕ → Bool) → List ℕ → Option Codex32Error
frame_refusal_by may_be text =
    first_of (as_text (text_refusal text))
    (first_of (codex32_length_fault may_be (length text)) (hrp_fault (split_at_last text)))

-- the same of 48 to 93 characters
abbrev pub frame_refusal : List ℕ → Option Codex32Error
frame_refusal text = frame_refusal_by is_within text

-- the same of 125 to 127
abbrev pub long_frame_refusal : List ℕ → Option Codex32Error
long_frame_refusal text = frame_refusal_by is_within_long text

abbrev pub threshold_fault : ℕ → Option Codex32Error
threshold_fault c = if is_threshold c then None else Some Threshold

-- the threshold is `0`, and the share index is not `s`
abbrev pub share_index_fault : ℕ → ℕ → Option Codex32Error
share_index_fault threshold c =
    if threshold == 48 && not (to_ascii_lowercase c == 115) then Some ShareIndex else None

-- what is wrong with the first characters of a data part, the first of: the
-- threshold, the share index
abbrev pub header_fault : List ℕ → Option Codex32Error
header_fault data_part =
    first_of (threshold_fault (slice_index data_part 0))
    (share_index_fault (slice_index data_part 0) (slice_index data_part 5))

-- what is wrong with a text of these parts, the first of: the checksum, the first characters
abbrev pub IsBodyRefusalBy : Code → List ℕ → List ℕ → List ℕ → Codex32Error → Type 0
IsBodyRefusalBy code text hrp data_part (Checksum e) =
    IsChecksumRefusal code (length text) hrp data_part e
IsBodyRefusalBy code text hrp data_part e =
    IsAccepted code text hrp data_part × (header_fault data_part ≡ Some e)

-- the same by the checksum of 13 characters
abbrev pub IsBodyRefusal : List ℕ → List ℕ → List ℕ → Codex32Error → Type 0
IsBodyRefusal text hrp data_part e = IsBodyRefusalBy codex32 text hrp data_part e

-- a text is refused for its checksum or its first characters, where nothing before these is wrong
pub record IsLaterRefusal (text : List ℕ) (e : Codex32Error) : Type 0 where
  pub hrp : List ℕ
  pub data_part : List ℕ
  pub grammar : IsText text hrp data_part
  pub framed : frame_refusal text ≡ None
  pub refusal : IsBodyRefusal text hrp data_part e

-- why a text is not a codex32 string, the first of: the grammar, the length, the human-readable
-- part, the checksum, the threshold, the share index
abbrev pub IsStringRefusal : List ℕ → Codex32Error → Type 0
IsStringRefusal text e = (frame_refusal text ≡ Some e) ⊎ IsLaterRefusal text e
