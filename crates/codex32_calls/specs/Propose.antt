-- The nearest text put into a buffer, and why none is.
use Rattle.std.specs.Prelude.{◌≡◌, ◌<◌, ◌≤◌, ℕ, List, length, None}
use Rattle.std.specs.Str.{IsUtf8}
use Rattle.bech32_encode.specs.Buffers.{IsPut}
use Rattle.codex32_calls.specs.Nearest.{IsNearest, IsNearestStringRefusal, damaged_refusal}
use Rattle.codex32_calls.specs.declared.propose.Kind.{Kind}
use Rattle.codex32_calls.specs.declared.refusal.Refusal.{Refusal}
use Rattle.codex32_calls.specs.declared.refusal.Refusal.TheVariants.{NotUtf8, Text, NoNearest}
use Rattle.codex32_calls.specs.declared.refusal.Refusal.TheVariants.{NoRoom}

-- the nearest text to a damaged one, of which nothing but the checksum is wrong, is put into a
-- buffer
pub record PutsNearest (kind : Kind) (text old new : List ℕ) (count : ℕ) : Type 0 where
  pub framed : damaged_refusal kind text ≡ None
  pub nearest : List ℕ
  pub is_nearest : IsNearest kind text nearest
  pub put : IsPut nearest old new count

-- to such a one there is a nearest text, and a buffer of this many bytes has room for it
pub record CanPropose (kind : Kind) (text : List ℕ) (room : ℕ) : Type 0 where
  pub framed : damaged_refusal kind text ≡ None
  pub nearest : List ℕ
  pub is_nearest : IsNearest kind text nearest
  pub fits : length nearest ≤ room

-- the nearest text to such a one does not fit in a buffer of this many bytes
pub record LacksRoomForNearest (kind : Kind) (text : List ℕ) (room : ℕ) : Type 0 where
  pub framed : damaged_refusal kind text ≡ None
  pub nearest : List ℕ
  pub is_nearest : IsNearest kind text nearest
  pub lacks : room < length nearest

-- why none is put into a buffer of this many bytes: the bytes are not a text; the first fault of
-- the text as it is read, or, where it has none, out of memory; there is no nearest text; it does
-- not fit
abbrev pub IsProposeFault : Kind → List ℕ → ℕ → Refusal → Type 0
IsProposeFault kind text room NotUtf8 = ¬ (IsUtf8 text)
IsProposeFault kind text room (Text e) = IsUtf8 text × IsNearestStringRefusal kind text e
IsProposeFault kind text room NoNearest =
    IsUtf8 text × (damaged_refusal kind text ≡ None)
    × ((nearest : List ℕ) → IsNearest kind text nearest → ⊥)
IsProposeFault kind text room NoRoom = LacksRoomForNearest kind text room
IsProposeFault kind text room _ = ⊥
