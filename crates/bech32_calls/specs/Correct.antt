-- Mistyped texts mended into buffers, and why they are not.
use Rattle.std.specs.Prelude.{◌≡◌, ◌<◌, ◌≤◌, ◌⊎◌, None, ℕ, List, [], length, map}
use Rattle.std.specs.Str.{IsUtf8}
use Rattle.bech32_gf.specs.Fe32.{value}
use Rattle.bech32_gf.specs.declared.gf32.Fe32.{Fe32}
use Rattle.bech32_checksum.specs.Code.{Code}
use Rattle.bech32_bch.specs.Pattern.{locations}
use Rattle.bech32_correction.specs.Carried.{of_checked}
use Rattle.bech32_checksum.specs.Roots.{singleton_bound}
use Rattle.bech32_decode.specs.Acceptance.{Accepts}
use Rattle.bech32_decode.specs.Checked.{IsCheckedRefusal}
use Rattle.bech32_encode.specs.Buffers.{IsPut}
use Rattle.bech32_refusals.specs.declared.error.CheckedHrpstringError.TheVariants.{
  Parse,
  Checksum as NotAccepted,
}
use Rattle.bech32_correction.specs.Mistyped.{HasNoListing, IsListingOf, IsMendedText}
use Rattle.bech32_calls.specs.declared.refusal.Refusal.{Refusal}
use Rattle.bech32_calls.specs.declared.refusal.Refusal.TheVariants.{NotUtf8, Text, Checksum}
use Rattle.bech32_calls.specs.declared.refusal.Refusal.TheVariants.{NoCorrection, NoRoom}

-- Of Bech32 and Bech32m, the powers 24 to 26 of the base are roots of the generator: twice the
-- errors outside the erasures, with the erasures, may be three at most (BIP-173, Checksum design).
abbrev pub bound : ℕ
bound = singleton_bound 24 26

-- how a text is to be mended: by nothing where the checksum accepts it, and else by the listing of
-- the one pattern that solves its residue
abbrev pub IsMending : List ℕ → List ℕ → List (ℕ × Fe32) → Code → Type 0
IsMending text given listing code =
    (Accepts code text × (listing ≡ [])) ⊎ IsListingOf code bound text given listing

-- the listing and the mended text, which the checksum accepts, are put into buffers
pub record PutsMended (text given places places' values values' : List ℕ)
    (count : ℕ) (mended mended' : List ℕ)
    (size : ℕ) (code : Code) : Type 0 where
  pub listing : List (ℕ × Fe32)
  pub mended_text : List ℕ
  pub mended_by : IsMending text given listing code
  pub is_mended : IsMendedText listing text mended_text
  pub accepted : Accepts code mended_text
  pub locations_put : IsPut (locations listing) places places' count
  pub values_put : IsPut (map (λ p. value p.1) listing) values values' count
  pub text_put : IsPut mended_text mended mended' size

-- a text is to be mended, and buffers of these sizes have room for the
-- listing and for the mended text
pub record CanMend (text given : List ℕ)
    (places_room values_room text_room : ℕ) (code : Code) : Type 0 where
  pub listing : List (ℕ × Fe32)
  pub mended_by : IsMending text given listing code
  pub locations_fit : length listing ≤ places_room
  pub values_fit : length listing ≤ values_room
  pub text_fits : length text ≤ text_room

-- the listing or the mended text does not fit in a buffer
pub record LacksRoomForMended (text given : List ℕ)
    (places_room values_room text_room : ℕ) (code : Code)
    : Type 0 where
  pub listing : List (ℕ × Fe32)
  pub mended_by : IsMending text given listing code
  pub lacks : (places_room < length listing)
      ⊎ ((values_room < length listing) ⊎ (text_room < length text))

-- why no residue of a text is read: the bytes are not a text, or the text is refused, and not for
-- its residue
abbrev pub IsResidueFault : List ℕ → Code → Refusal → Type 0
IsResidueFault text code NotUtf8 = ¬ (IsUtf8 text)
IsResidueFault text code (Text e) = IsUtf8 text × IsCheckedRefusal code text (Parse e)
IsResidueFault text code (Checksum e) =
    IsUtf8 text × IsCheckedRefusal code text (NotAccepted e) × (of_checked (NotAccepted e) ≡ None)
IsResidueFault text code _ = ⊥

-- why a text is not to be mended: no residue is read, or no pattern in the data part solves it
abbrev pub IsListingFault : List ℕ → List ℕ → Code → Refusal → Type 0
IsListingFault text given code NoCorrection = HasNoListing code bound text given
IsListingFault text given code e = IsResidueFault text code e

-- why nothing is put into buffers of these sizes
abbrev pub IsCorrectFault : List ℕ → List ℕ → ℕ → ℕ → ℕ → Code → Refusal → Type 0
IsCorrectFault text given places_room values_room text_room code NoRoom =
    LacksRoomForMended text given places_room values_room text_room code
IsCorrectFault text given places_room values_room text_room code e =
    IsListingFault text given code e
