-- The nearest text to a damaged one (BIP-93, Error Correction).
use Rattle.std.specs.Prelude.{◌≡◌, ◌⊎◌, ◌≤◌, ◌<◌, ◌+◌, ◌*◌}
use Rattle.std.specs.Prelude.{ℕ, Bool, List, [], ◌∷◌, ◌++◌, length, Option, None, Some}
use Rattle.std.specs.Prelude.{MatchOption}
use Rattle.bech32_gf.specs.Fe32.{elements_of, ops}
use Rattle.bech32_gf.specs.declared.gf32.Fe32.{Fe32}
use Rattle.bech32_checksum.specs.Encoded.{spelled}
use Rattle.bech32_decode.specs.Acceptance.{Accepts}
use Rattle.bech32_decode.specs.Text.{IsText}
use Rattle.bech32_correction.specs.MendedElements.{mended}
use Rattle.bech32_correction.specs.Mistyped.{HasNoListing, IsListingOf}
use Rattle.bech32_checksum.specs.Code.{Code}
use Rattle.codex32.specs.Code.{codex32, long_codex32}
use Rattle.codex32.specs.Damaged.{changed, read_data, read_text, unreadable}
use Rattle.codex32.specs.Strings.{frame_refusal_by, is_within, is_within_long}
use Rattle.codex32.specs.declared.error.Codex32Error.{Codex32Error}
use Rattle.codex32.specs.declared.error.Codex32Error.TheVariants.{Memory}

-- The nearest text by a checksum: in lower case, with the same human-readable part and as many
-- elements, accepted by it; and twice the number of the characters that are changed, with the
-- number of the unreadable ones, is at most 8.
pub record IsNearestBy (code : Code) (text nearest : List ℕ) : Type 0 where
  pub hrp : List ℕ
  pub damaged : List ℕ
  pub split : text ≡ hrp ++ (49 ∷ damaged)
  pub grammar : IsText (read_text text) hrp (read_data damaged)
  pub elements : List Fe32
  pub same_length : length elements ≡ length damaged
  pub spelling : nearest ≡ spelled hrp elements
  pub accepted : Accepts code nearest
  pub few : 2 * length (changed damaged elements) + length (unreadable damaged) ≤ 8

-- by the checksum of 13 characters, and by that of 15
abbrev pub IsNearestText : List ℕ → List ℕ → Type 0
IsNearestText text nearest = IsNearestBy codex32 text nearest

abbrev pub IsNearestLongText : List ℕ → List ℕ → Type 0
IsNearestLongText text nearest = IsNearestBy long_codex32 text nearest

-- the nearest text, of which the bytes are given, or None where there is none
abbrev pub IsNearestAnswerBy : {S : Type 0} → Code → (S → List ℕ) → List ℕ → Option S → Type 0
IsNearestAnswerBy code bytes text answer = MatchOption answer
    ((nearest : List ℕ) → IsNearestBy code text nearest → ⊥)
    (λ s. IsNearestBy code text (bytes s))

abbrev pub IsNearestAnswer : {S : Type 0} → (S → List ℕ) → List ℕ → Option S → Type 0
IsNearestAnswer bytes text answer = IsNearestAnswerBy codex32 bytes text answer

abbrev pub IsNearestLongAnswer : {S : Type 0} → (S → List ℕ) → List ℕ → Option S → Type 0
IsNearestLongAnswer bytes text answer = IsNearestAnswerBy long_codex32 bytes text answer

-- there is at most one
abbrev pub HasOneNearestBy : Code → List ℕ → Type 0
HasOneNearestBy code text = (one other : List ℕ) → IsNearestBy code text one
    → IsNearestBy code text other → one ≡ other

abbrev pub HasOneNearest : List ℕ → Type 0
HasOneNearest text = HasOneNearestBy codex32 text

abbrev pub HasOneNearestLong : List ℕ → Type 0
HasOneNearestLong text = HasOneNearestBy long_codex32 text

-- why no nearest text is looked for: what is wrong with the text as it is read, but for its
-- checksum; or, where nothing of that is, out of memory. The former is never `Memory`.
abbrev pub IsProposeRefusalBy : (ℕ → Bool) → List ℕ → Codex32Error → Type 0
IsProposeRefusalBy may_be text e =
    ((e ≡ Memory) × (frame_refusal_by may_be (read_text text) ≡ None))
    ⊎ (frame_refusal_by may_be (read_text text) ≡ Some e)

abbrev pub IsProposeRefusal : List ℕ → Codex32Error → Type 0
IsProposeRefusal text e = IsProposeRefusalBy is_within text e

abbrev pub IsProposeLongRefusal : List ℕ → Codex32Error → Type 0
IsProposeLongRefusal text e = IsProposeRefusalBy is_within_long text e

-- ---- on the way

-- the values to add to the elements of a text as it was read: none where the checksum accepts it
-- and at most 8 characters are unreadable, else the listing
abbrev pub AreAdditions : Code → List ℕ → List ℕ → List (ℕ × Fe32) → Type 0
AreAdditions code text given listing =
    ((listing ≡ []) × Accepts code text × (length given ≤ 8))
    ⊎ IsListingOf code 8 text given listing

-- there is no listing
abbrev pub IsUnlisted : Code → List ℕ → List ℕ → Type 0
IsUnlisted code text given = (8 < length given) ⊎ HasNoListing code 8 text given

-- the text in lower case with the values of such a listing added
pub record IsMendedAt (code : Code) (hrp data_part given answer : List ℕ) : Type 0 where
  pub listing : List (ℕ × Fe32)
  pub listed : AreAdditions code (hrp ++ (49 ∷ data_part)) given listing
  pub spelling : answer ≡ spelled hrp (mended ops listing (elements_of data_part))

-- nothing is wrong with the text of these parts but perhaps its checksum
abbrev pub AreFramedParts : (ℕ → Bool) → List ℕ → List ℕ → Type 0
AreFramedParts may_be hrp data_part =
    (frame_refusal_by may_be (hrp ++ (49 ∷ data_part)) ≡ None)
    × IsText (hrp ++ (49 ∷ data_part)) hrp data_part
