-- The bytes of the secret that texts give put into a buffer, and why none are.
use Rattle.std.specs.Prelude.{◌≡◌, ◌<◌, ◌≤◌, ℕ, true, false, List, [], ◌∷◌, length}
use Rattle.bech32_bits.specs.Bits.{bytes_count, to_bytes}
use Rattle.bech32_gf.specs.Fe32.{element_of, elements_of}
use Rattle.codex32.specs.Derive.{DoContradict, IsWholeSet}
use Rattle.codex32.specs.Share.{AreSharesOf, payload_of_share}
use Rattle.codex32.specs.ShareParts.{bits_left_over}
use Rattle.codex32.specs.declared.header.Header.{Header as Head}
use Rattle.codex32.specs.declared.share.Share.{Share}
use Rattle.codex32_calls.specs.Derive.{IsDerivedOf, IsTextsRefusal, are_lengths, texts_of}
use Rattle.codex32_calls.specs.Share.{HasPayload, PutsPayload}
use Rattle.codex32_calls.specs.declared.refusal.Refusal.{Refusal}
use Rattle.codex32_calls.specs.declared.refusal.Refusal.TheVariants as refusals

-- the character of the secret's index, `s`
abbrev pub secret_character : ℕ
secret_character = 115

-- the number of characters of the payload of each share of a set, by the first
abbrev pub payload_size_of : List Share → ℕ
payload_size_of [] = 0
payload_size_of (s ∷ ss) = length (payload_of_share s)

-- the text is the string at `s` that texts of these lengths give
pub record IsSecretOf (texts lengths text : List ℕ) : Type 0 where
  pub lengths_are : are_lengths texts lengths ≡ true
  pub is_text : IsDerivedOf secret_character (texts_of texts lengths) text

-- the bytes of its payload are put into a buffer; at most four bits are left over behind these
pub record PutsRecovered (texts lengths old new : List ℕ) (count : ℕ) : Type 0 where
  pub text : List ℕ
  pub is_secret : IsSecretOf texts lengths text
  pub header : Head
  pub puts : PutsPayload text header old new count

-- Texts give a secret, and a buffer of `room` bytes has room for its bytes: each text is a string
-- of either length; their shares are a whole set, which does not contradict itself; at most four
-- bits are left over behind the bytes of a payload, which is as long as that of each of them.
pub record CanRecover (texts lengths : List ℕ) (room : ℕ) : Type 0 where
  pub lengths_are : are_lengths texts lengths ≡ true
  pub shares : List Share
  pub are : AreSharesOf (texts_of texts lengths) shares
  pub whole : IsWholeSet shares (element_of secret_character)
  pub agree : DoContradict shares → ⊥
  pub few : bits_left_over (payload_size_of shares) ≤ 4
  pub fits : bytes_count 0 (payload_size_of shares) ≤ room

-- texts give a secret, and its payload is such a one
pub record GivesPayload (P : List ℕ → Type 0) (texts lengths : List ℕ) : Type 0 where
  pub text : List ℕ
  pub is_secret : IsSecretOf texts lengths text
  pub has : HasPayload P text

-- why none are put into a buffer of `room` bytes, the first of: the lengths; a text, in their
-- order; what their shares are refused for at `s`; more than four bits left over behind the bytes
-- of the payload; too little room
abbrev pub IsRecoverFault : List ℕ → List ℕ → ℕ → Refusal → Type 0
IsRecoverFault texts lengths room refusals.BadLengths = are_lengths texts lengths ≡ false
IsRecoverFault texts lengths room (refusals.Payload e) =
    GivesPayload (λ payload. 4 < bits_left_over (length payload)) texts lengths
IsRecoverFault texts lengths room refusals.NoRoom =
    GivesPayload
    (λ payload. (bits_left_over (length payload) ≤ 4)
    × (room < length (to_bytes (elements_of payload)))) texts lengths
IsRecoverFault texts lengths room e =
    (are_lengths texts lengths ≡ true)
    × IsTextsRefusal secret_character (texts_of texts lengths) e
