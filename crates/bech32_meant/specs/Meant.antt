-- Which addresses someone may have meant who typed a text.
use Rattle.std.specs.Prelude.{◌≡◌, ◌<◌, ◌≤◌, ◌⊎◌, ◌++◌, ◌==◌, ℕ, List, [], ◌∷◌}
use Rattle.std.specs.Prelude.{length, map, drop, if◌then◌else◌, nat_lt}
use Rattle.std.specs.List.{AllByRecursion}
use Rattle.bech32_poly.specs.Distinct.{IsAmong, IsOnce}
use Rattle.bech32_hrp.specs.Hrp.{lowered}
use Rattle.bech32_suggest.specs.Forms.{IsAddressInUse}
use Rattle.bech32_suggest.specs.Suggestions.{IsAddressUnder}
use Rattle.bech32_typed.specs.Cleaned.{cleaned}
use Rattle.bech32_typed.specs.Fronts.{fronts}
use Rattle.bech32_typed.specs.Tries.{Try, level, levels_of}
use Rattle.bech32_typed.specs.declared.fronts.Front.{Front}
use Rattle.bech32_typed.specs.declared.tries.Pass.{Pass}
use Rattle.bech32_typed.specs.declared.tries.Pass.TheVariants.{AsItLooks, Unread}
use Rattle.bech32_meant.specs.Added.{AddsAll, AddsIf, AddsTry, Answer, IsFound, IsNearTry}
use Rattle.bech32_meant.specs.Added.{IsInUseUnder, front_for}

-- the typed text itself, where it begins with the right front: then that is its first one
abbrev pub itself : List ℕ → List ℕ → List Front → List (List ℕ)
itself right text [] = []
itself right text (front ∷ more) =
    if front.slips == 0 then (right ++ drop front.size text) ∷ [] else []

-- what is tried with so many slips, where that level is
abbrev pub tries_at : Pass → List ℕ → List Front → ℕ → List Try
tries_at pass text fs slips =
    if nat_lt slips (levels_of pass text fs) then level pass text fs slips else []

-- what so many slips find is added: as the text looks, and then with characters unread
abbrev pub AddsSlips : List ℕ → List ℕ → List Front → List Answer → ℕ → List Answer → Type 0
AddsSlips hrp text fs before slips after =
    (middle : List Answer)
    × AddsAll (AddsTry hrp slips) before (tries_at AsItLooks text fs slips) middle
    × AddsAll (AddsTry hrp slips) middle (tries_at Unread text fs slips) after

-- what is found for a cleaned text: itself, if it is an address of any form, and then what no slip
-- finds, one, and two
pub record AreFoundBySlips (hrp text : List ℕ) (fs : List Front) (found : List Answer)
    : Type 0 where
  pub exact : List Answer
  pub adds_itself : AddsAll (AddsIf (IsAddressUnder hrp) 0) []
      (itself (front_for hrp) text fs) exact
  pub adds : AddsAll (AddsSlips hrp text fs) exact (0 ∷ 1 ∷ 2 ∷ []) found

-- nothing is looked for in a text of more bytes than this
abbrev pub max_typed_bytes : ℕ
max_typed_bytes = 1023

-- the answers for a typed text, under a human-readable part
abbrev pub AreMeant : List ℕ → List ℕ → List Answer → Type 0
AreMeant typed hrp found =
    ((max_typed_bytes < length typed) × (found ≡ []))
    ⊎ ((length typed ≤ max_typed_bytes)
    × AreFoundBySlips hrp (cleaned typed) (fronts (front_for hrp) (cleaned typed)) found)

-- the text is an address of the part, of a form in use, or the typed text itself
abbrev pub IsMeantAddress : List ℕ → List ℕ → List Front → List ℕ → Type 0
IsMeantAddress hrp text fs other =
    IsAddressUnder hrp other
    × (IsAddressInUse other ⊎ IsAmong other (itself (front_for hrp) text fs))

-- what that says of the answers: each is such a text, and is there once; each address of a form in
-- use is there that is near what is tried
pub record AreAnswers (hrp text : List ℕ) (fs : List Front) (found : List Answer) : Type 0 where
  pub each : AllByRecursion (λ a. IsMeantAddress hrp text fs a.0) found
  pub once : IsOnce (map (λ a. a.0) found)
  pub all : (pass : Pass) (slips : ℕ) → slips ≤ 2
      → (t : Try) → IsAmong t (tries_at pass text fs slips)
      → (other : List ℕ) → IsNearTry hrp t other → IsInUseUnder hrp (lowered other)
      → IsFound found (lowered other)
