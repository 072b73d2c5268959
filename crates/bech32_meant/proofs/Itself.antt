-- The typed text itself.
use Rattle.std.proofs.Common.{◌≡◌, ◌<◌, ◌++◌, ℕ, List, [], ◌∷◌, ap, arith, drop, eq-eqb, get_or, length}
use Rattle.std.specs.Prelude.{if◌then◌else◌}
use Rattle.bech32_typed.specs.Fronts.{front_of}
use Rattle.bech32_typed.specs.declared.fronts.Front.{Front}
use Rattle.bech32_meant.specs.Meant.{itself}

-- where the first front takes no slip
pub itself-first : (right text : List ℕ) (fs : List Front) → 0 < length fs → (get_or fs 0 (front_of 0 0)).slips ≡ 0
    → itself right text fs ≡ (right ++ drop (get_or fs 0 (front_of 0 0)).size text) ∷ []
itself-first right text [] some none = absurd (omega (arith, some))
itself-first right text (front ∷ more) some none = ap (λ b. if b then (right ++ drop front.size text) ∷ [] else []) (eq-eqb front.slips 0 none)
