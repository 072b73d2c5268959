use Rattle.std.specs.List.{AllByRecursion}
use Rattle.std.proofs.Common.{ℕ, ◌<◌, List, length, take}
use Rattle.bech32_gf.specs.Fe32.{ops}
use Rattle.bech32_gf.specs.declared.gf32.Fe32.{Fe32}
use Rattle.bech32_correction.specs.MendedElements.{EndsIn, mended}
use Rattle.bech32_correction.proofs.mending.mend.Given as goal

-- the values that were passed are added
abbrev pub invariant-loop-item : goal.invariant-loop-item
invariant-loop-item l = (front : List ℕ) (elements : List Fe32) → EndsIn l.initial.text front elements
    → AllByRecursion (λ (p : ℕ × Fe32). p.0 < length elements) l.listing
    → EndsIn l.text front (mended ops (take l.item-index l.listing) elements)
