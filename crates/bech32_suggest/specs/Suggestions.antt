-- Which addresses are suggested to someone who typed a text.
use Rattle.std.specs.Prelude.{◌≡◌, ◌<◌, ◌≤◌, ◌⊎◌, ℕ, List, [], ◌∷◌, ◌++◌, length, map}
use Rattle.std.specs.Prelude.{Some, MatchOption, Bool, true, false}
use Rattle.std.specs.List.{AllByRecursion}
use Rattle.bech32_gf.specs.declared.gf32.Fe32.{Fe32}
use Rattle.bech32_poly.specs.Distinct.{IsAmong, IsOnce}
use Rattle.bech32_hrp.specs.Hrp.{lowered}
use Rattle.bech32_checksum.specs.Code.{Code, bech32, bech32m}
use Rattle.bech32_checksum.specs.Roots.{singleton_bound}
use Rattle.bech32_decode.specs.Segwit.{IsAddressText}
use Rattle.bech32_decode.specs.Text.{HasHrp, IsText, text_refusal}
use Rattle.bech32_near.specs.NearTexts.{AreNearTexts, IsNearText}
use Rattle.bech32_near.specs.edits.NearEdits.{AreNearEdits}
use Rattle.bech32_near.specs.declared.edits.edit.Edit.{Edit}
use Rattle.bech32_near.specs.declared.edits.error.EditsError.{EditsError}
use Rattle.bech32_near.specs.declared.edits.error.EditsError.TheVariants.{Memory, Refused}
use Rattle.bech32_suggest.specs.Chance.{most_errors}
use Rattle.bech32_suggest.specs.Forms.{IsAddressInUse}
use Rattle.bech32_suggest.specs.Mendings.{common_length, mending_of}
use Rattle.bech32_suggest.specs.Typed.{as_read, unread_locations, max_typed_length}
use Rattle.bech32_suggest.specs.declared.mendings.Mending.{Mending}

-- the bound of Bech32 and Bech32m
abbrev pub near_bound : ℕ
near_bound = singleton_bound 24 26

-- the text is a segwit address, and its human-readable part is this one, in either case
pub record IsAddressUnder (hrp text : List ℕ) : Type 0 where
  pub address : IsAddressText text
  pub part : List ℕ
  pub has_part : HasHrp text part
  pub same_part : lowered part ≡ lowered hrp

-- the text may have been meant by the typed one, which is in lower case: it is such an address, and
-- of a form in use, or the typed text itself, which is no guess
abbrev pub IsMeant : List ℕ → List ℕ → List ℕ → Type 0
IsMeant hrp typed text = IsAddressUnder hrp text × ((text ≡ typed) ⊎ IsAddressInUse text)

-- a text, what is done to the typed one so that it becomes this one, and the first place at which
-- they differ
abbrev pub Suggested : Type 0
Suggested = List ℕ × (Mending × ℕ)

-- the typed text is in lower case
abbrev pub suggestion_of : List ℕ → List ℕ → Suggested
suggestion_of typed text = (text, (mending_of typed text, common_length typed text))

-- Bech32m, or Bech32
abbrev pub either_code : Bool → Code
either_code true = bech32m
either_code false = bech32

-- ---- the texts that are tried, one after another

-- the text may have been meant, and does not stand among those that are found
abbrev pub IsNew : List ℕ → List ℕ → List Suggested → List ℕ → Type 0
IsNew hrp typed before text =
    IsMeant hrp typed text × (IsAmong text (map (λ s. s.0) before) → ⊥)

-- the text was not meant, or stands among them
abbrev pub IsNotNew : List ℕ → List ℕ → List Suggested → List ℕ → Type 0
IsNotNew hrp typed before text =
    (IsMeant hrp typed text → ⊥) ⊎ IsAmong text (map (λ s. s.0) before)

-- the text is added to those that are found, if it is new
abbrev pub AddsOne : List ℕ → List ℕ → List Suggested → List ℕ → List Suggested → Type 0
AddsOne hrp typed before text after =
    (IsNew hrp typed before text × (after ≡ before ++ suggestion_of typed text ∷ []))
    ⊎ (IsNotNew hrp typed before text × (after ≡ before))

-- each of these texts is added, in their order, if it is new then
abbrev pub AddsEach : List ℕ → List ℕ → List Suggested → List (List ℕ) → List Suggested → Type 0
AddsEach hrp typed before [] after = after ≡ before
AddsEach hrp typed before (text ∷ texts) after =
    (middle : List Suggested) × AddsOne hrp typed before text middle
    × AddsEach hrp typed middle texts after

-- the texts near this one are added, by a checksum
pub record AddsNear (code : Code) (text unread : List ℕ) (errors : ℕ) (hrp typed : List ℕ)
    (before after : List Suggested) : Type 0 where
  pub near : List (List (ℕ × Fe32) × List ℕ)
  pub are : AreNearTexts code near_bound text unread errors near
  pub adds : AddsEach hrp typed before (map (λ m. m.1) near) after

-- the texts that one edit makes of this one are added, by a checksum
pub record AddsEdits (code : Code) (text hrp typed : List ℕ)
    (before after : List Suggested) : Type 0 where
  pub edits : List (Edit × List ℕ)
  pub are : AreNearEdits code text edits
  pub adds : AddsEach hrp typed before (map (λ m. m.1) edits) after

-- the same by both checksums, if all characters can be read
abbrev pub AddsEditsOfRead : List ℕ → List ℕ → List ℕ → List ℕ
    → List Suggested → List Suggested → Type 0
AddsEditsOfRead [] text hrp typed before after =
    (middle : List Suggested) × AddsEdits bech32 text hrp typed before middle
    × AddsEdits bech32m text hrp typed middle after
AddsEditsOfRead (x ∷ xs) text hrp typed before after = after ≡ before

-- all texts that are tried are added: those near the text, by Bech32 and then by Bech32m, and then
-- those that one edit makes of it
pub record AddsFound (text unread : List ℕ) (errors : ℕ) (hrp typed : List ℕ)
    (before after : List Suggested) : Type 0 where
  pub first : List Suggested
  pub second : List Suggested
  pub by_bech32 : AddsNear bech32 text unread errors hrp typed before first
  pub by_bech32m : AddsNear bech32m text unread errors hrp typed first second
  pub edits : AddsEditsOfRead unread text hrp typed second after

-- ---- what is suggested

-- the text differs from the typed one in at most this many characters, beside those that cannot be
-- read, and one of the checksums accepts it
abbrev pub IsNearTyped : List ℕ → ℕ → List ℕ → Type 0
IsNearTyped typed errors text =
    IsNearText bech32 near_bound (as_read typed) (unread_locations typed) errors text
    ⊎ IsNearText bech32m near_bound (as_read typed) (unread_locations typed) errors text

-- the addresses that are found for a typed text, with at most this many errors beside the
-- characters that cannot be read: each may have been meant, and stands there once; all that may
-- have been meant and are so near are among them
pub record AreFound (typed hrp : List ℕ) (errors : ℕ) (found : List Suggested) : Type 0 where
  pub adds : AddsFound (as_read typed) (unread_locations typed) errors hrp (lowered typed) [] found
  pub each : AllByRecursion (λ s. IsMeant hrp (lowered typed) s.0) found
  pub once : IsOnce (map (λ s. s.0) found)
  pub all : (text : List ℕ) → IsNearTyped typed errors text
      → IsMeant hrp (lowered typed) (lowered text) → IsAmong (lowered text) (map (λ s. s.0) found)

-- a text with these parts, as it is read, has these suggestions: none, where nothing is tried
abbrev pub AreFoundIn : List ℕ → List ℕ → List ℕ → List Suggested → Type 0
AreFoundIn data_part typed hrp found =
    MatchOption (most_errors (length data_part) (length (unread_locations typed)))
    (found ≡ [])
    (λ errors. AreFound typed hrp errors found)

-- the suggestions for a typed text: none for more characters than may be typed; else the text is in
-- the grammar as it is read
abbrev pub AreSuggestions : List ℕ → List ℕ → List Suggested → Type 0
AreSuggestions typed hrp found =
    ((max_typed_length < length typed) × (found ≡ []))
    ⊎ ((length typed ≤ max_typed_length) × ((part : List ℕ) × (data_part : List ℕ)
    × IsText (as_read typed) part data_part × AreFoundIn data_part typed hrp found))

-- some texts are tried for the typed one
pub record IsTriedText (typed : List ℕ) : Type 0 where
  pub short : length typed ≤ max_typed_length
  pub part : List ℕ
  pub data_part : List ℕ
  pub grammar : IsText (as_read typed) part data_part
  pub errors : ℕ
  pub looked_for :
      most_errors (length data_part) (length (unread_locations typed)) ≡ Some errors

-- why nothing is suggested for a typed text: it has at most 91 characters, and is not in the
-- grammar as it is read; or texts are tried for it, and memory runs out
abbrev pub IsSuggestRefusal : List ℕ → EditsError → Type 0
IsSuggestRefusal typed (Refused e) =
    (length typed ≤ max_typed_length) × (text_refusal (as_read typed) ≡ Some e)
IsSuggestRefusal typed Memory = IsTriedText typed
