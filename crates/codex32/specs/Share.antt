-- Codex32 strings of either length (BIP-93, codex32 and Long codex32 Strings), and why a text is
-- none.
use Rattle.std.specs.Prelude.{◌≡◌, ◌⊎◌, ℕ, true, List, [], ◌∷◌, ◌++◌, length, Some, None}
use Rattle.bech32_bits.specs.Bits.{to_bytes}
use Rattle.bech32_decode.specs.Acceptance.{IsAccepted}
use Rattle.bech32_decode.specs.Text.{IsText}
use Rattle.bech32_gf.specs.Fe32.{elements_of}
use Rattle.bech32_gf.specs.declared.gf32.Fe32.{Fe32}
use Rattle.codex32.specs.Code.{code_of_length}
use Rattle.codex32.specs.Header.{identifier_of_header, share_index_of_header}
use Rattle.codex32.specs.Header.{threshold_of_header}
use Rattle.codex32.specs.HeaderParts.{header_elements_of, secret_index, threshold_number}
use Rattle.codex32.specs.Strings.{IsBodyRefusalBy, frame_refusal_by, is_ms}
use Rattle.codex32.specs.Strings.{is_within_either}
use Rattle.codex32.specs.declared.error.Codex32Error.{Codex32Error}
use Rattle.codex32.specs.declared.header.Header.{Header}
use Rattle.codex32.specs.declared.identifier.Identifier.{Identifier}
use Rattle.codex32.specs.declared.share.Share.{Share}
use Rattle.codex32.specs.declared.threshold.Threshold.{Threshold}

-- The text is a string of either length with these parts: the human-readable part `ms`; in the data
-- part the six elements of the header, the payload, and the characters of the checksum, 13 in a
-- string of 48 to 93 characters and 15 in one of 125 to 127; the share index of the threshold 0 is
-- `s` (BIP-93, codex32, Long codex32 Strings, Unshared Secret).
pub record IsShareString (text : List ℕ) (t : Threshold) (i : Identifier) (x : Fe32)
    (payload : List ℕ) : Type 0 where
  pub hrp : List ℕ
  pub front : List ℕ
  pub checksum : List ℕ
  pub accepted :
      IsAccepted (code_of_length (length text)) text hrp (front ++ (payload ++ checksum))
  pub is_ms : is_ms hrp ≡ true
  pub within : is_within_either (length text) ≡ true
  pub header : elements_of front ≡ header_elements_of t i x
  pub checksum_length : length checksum ≡ length (code_of_length (length text)).generator
  pub unshared : threshold_number t ≡ 0 → x ≡ secret_index

-- the text is a string of either length
abbrev pub IsEither : List ℕ → Type 0
IsEither text =
    (t : Threshold) × (i : Identifier) × (x : Fe32) × (payload : List ℕ)
    × IsShareString text t i x payload

-- a text is refused for its checksum or its first characters, where nothing before these is wrong
pub record IsLaterShareRefusal (text : List ℕ) (e : Codex32Error) : Type 0 where
  pub hrp : List ℕ
  pub data_part : List ℕ
  pub grammar : IsText text hrp data_part
  pub framed : frame_refusal_by is_within_either text ≡ None
  pub refusal : IsBodyRefusalBy (code_of_length (length text)) text hrp data_part e

-- why a text is not a string of either length, the first of: the grammar, the length, the
-- human-readable part, the checksum, the threshold, the share index
abbrev pub IsShareRefusal : List ℕ → Codex32Error → Type 0
IsShareRefusal text e =
    (frame_refusal_by is_within_either text ≡ Some e) ⊎ IsLaterShareRefusal text e

-- ---- the parts that are kept

abbrev pub header_of_share : Share → Header
header_of_share s = s.header

abbrev pub threshold_of_share : Share → Threshold
threshold_of_share s = threshold_of_header s.header

abbrev pub identifier_of_share : Share → Identifier
identifier_of_share s = identifier_of_header s.header

abbrev pub index_of_share : Share → Fe32
index_of_share s = share_index_of_header s.header

-- the characters of the payload, in the case of the text
abbrev pub payload_of_share : Share → List ℕ
payload_of_share s = s.payload.now

-- the characters of the data part, in the case of the text
abbrev pub characters_of_share : Share → List ℕ
characters_of_share s = s.data_part.now

-- the bytes of the payload: the bits of its elements in groups of eight, an incomplete group left
-- out
abbrev pub bytes_of_share : Share → List ℕ
bytes_of_share s = to_bytes (elements_of s.payload.now)

-- the text is a string of either length of these parts
pub record IsShareOf (text : List ℕ) (s : Share) : Type 0 where
  pub hrp : List ℕ
  pub is_text : IsText text hrp (characters_of_share s)
  pub is_string : IsShareString text (threshold_of_share s) (identifier_of_share s)
      (index_of_share s) (payload_of_share s)

-- these are the shares of the texts
abbrev pub AreSharesOf : List (List ℕ) → List Share → Type 0
AreSharesOf [] [] = Unit {0}
AreSharesOf [] (s ∷ ss) = ⊥
AreSharesOf (t ∷ ts) [] = ⊥
AreSharesOf (t ∷ ts) (s ∷ ss) = IsShareOf t s × AreSharesOf ts ss
