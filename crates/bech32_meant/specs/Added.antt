-- How answers are added to those that are found: addresses in use, each once.
use Rattle.std.specs.Prelude.{◌≡◌, ◌≤◌, ◌⊎◌, ◌++◌, ◌==◌, ℕ, List, [], ◌∷◌}
use Rattle.std.specs.Prelude.{length, map, if◌then◌else◌}
use Rattle.bech32_gf.specs.Alphabet.{alphabet}
use Rattle.bech32_gf.specs.declared.gf32.Fe32.{Fe32}
use Rattle.bech32_poly.specs.Distinct.{IsAmong}
use Rattle.bech32_hrp.specs.Hrp.{lowered}
use Rattle.bech32_checksum.specs.Code.{Code, bech32, bech32m}
use Rattle.bech32_decode.specs.Text.{IsText}
use Rattle.bech32_near.specs.NearTexts.{AreNearTexts, IsNearText}
use Rattle.bech32_suggest.specs.Forms.{IsAddressInUse}
use Rattle.bech32_suggest.specs.Suggestions.{IsAddressUnder, near_bound}
use Rattle.bech32_suggest.specs.Typed.{as_read, unread_locations}
use Rattle.bech32_typed.specs.Frames.{unread_in}
use Rattle.bech32_typed.specs.Slips.{unread}
use Rattle.bech32_typed.specs.Tries.{Try}

-- an address, and with how many slips it was found
abbrev pub Answer : Type 0
Answer = List ℕ × ℕ

-- each of some things is added, in their order
abbrev pub AddsAll : {X : Type 0} → (List Answer → X → List Answer → Type 0)
    → List Answer → List X → List Answer → Type 0
AddsAll Adds before [] after = after ≡ before
AddsAll Adds before (x ∷ xs) after =
    (middle : List Answer) × Adds before x middle × AddsAll Adds middle xs after

-- the text is not among those that are found, or is
abbrev pub IsFound : List Answer → List ℕ → Type 0
IsFound found text = IsAmong text (map (λ a. a.0) found)

-- a text with a property is added, if it is not among those that are found
abbrev pub AddsIf : (List ℕ → Type 0) → ℕ → List Answer → List ℕ → List Answer → Type 0
AddsIf P slips before text after =
    ((P text × (IsFound before text → ⊥)) × (after ≡ before ++ (text, slips) ∷ []))
    ⊎ (((P text → ⊥) ⊎ IsFound before text) × (after ≡ before))

-- an address of the part, of a form in use
abbrev pub IsInUseUnder : List ℕ → List ℕ → Type 0
IsInUseUnder hrp text = IsAddressUnder hrp text × IsAddressInUse text

-- the addresses among the texts near one are added, by a checksum
pub record AddsNearby (code : Code) (hrp : List ℕ) (slips errors : ℕ) (text given : List ℕ)
    (before after : List Answer) : Type 0 where
  pub near : List (List (ℕ × Fe32) × List ℕ)
  pub are : AreNearTexts code near_bound text given errors near
  pub adds : AddsAll (AddsIf (IsInUseUnder hrp) slips) before (map (λ m. m.1) near) after

-- by Bech32, and then by Bech32m
abbrev pub AddsByBoth : List ℕ → ℕ → ℕ → List ℕ → List ℕ → List Answer → List Answer → Type 0
AddsByBoth hrp slips errors text given before after =
    (middle : List Answer) × AddsNearby bech32 hrp slips errors text given before middle
    × AddsNearby bech32m hrp slips errors text given middle after

-- the human-readable part in lower case, with its separator
abbrev pub front_for : List ℕ → List ℕ
front_for hrp = lowered hrp ++ 49 ∷ []

-- the text is in the grammar, with at most 1,023 characters, and has a checksum
pub record HasChecksum (text : List ℕ) : Type 0 where
  pub short : length text ≤ 1023
  pub hrp : List ℕ
  pub data_part : List ℕ
  pub grammar : IsText text hrp data_part
  pub checked : 6 ≤ length data_part

-- the same of a frame after the part, where that makes such a text
abbrev pub AddsFrame : List ℕ → ℕ → ℕ → List Answer → List ℕ → List Answer → Type 0
AddsFrame hrp slips errors before frame after =
    (HasChecksum (front_for hrp ++ as_read frame)
    × AddsByBoth hrp slips errors (front_for hrp ++ as_read frame) (unread_locations frame)
    before after)
    ⊎ ((HasChecksum (front_for hrp ++ as_read frame) → ⊥) × (after ≡ before))

-- the first character that cannot be read is this one
abbrev pub with_first_read : List ℕ → ℕ → List ℕ
with_first_read [] c = []
with_first_read (x ∷ xs) c = if x == unread then c ∷ xs else x ∷ with_first_read xs c

-- the checksums find three characters that cannot be read: of four, the first may be any of the
-- alphabet
abbrev pub filled : List ℕ → List (List ℕ)
filled frame = if unread_in frame == 4 then map (with_first_read frame) alphabet else frame ∷ []

-- what a try finds is added
abbrev pub AddsTry : List ℕ → ℕ → List Answer → Try → List Answer → Type 0
AddsTry hrp slips before t after =
    AddsAll (AddsFrame hrp slips t.errors) before (filled t.frame) after

-- ---- which addresses are near what is tried

-- one of the checksums accepts the other text, which is near this one
abbrev pub IsNearByEither : List ℕ → List ℕ → ℕ → List ℕ → Type 0
IsNearByEither text given errors other =
    IsNearText bech32 near_bound text given errors other
    ⊎ IsNearText bech32m near_bound text given errors other

-- the other text is near the frame after the part
abbrev pub IsNearFrame : List ℕ → List ℕ → ℕ → List ℕ → Type 0
IsNearFrame hrp frame errors other =
    IsNearByEither (front_for hrp ++ as_read frame) (unread_locations frame) errors other

-- it is near a frame that the try stands for
abbrev pub IsNearTry : List ℕ → Try → List ℕ → Type 0
IsNearTry hrp t other =
    (frame : List ℕ) × IsAmong frame (filled t.frame) × IsNearFrame hrp frame t.errors other
