use Rattle.std.proofs.Common.{◌≡◌, take}
use Rattle.bech32_gf.specs.Fe32.{ops}
use Rattle.bech32_correction.specs.MendedElements.{mended}
use Rattle.codex32.proofs.mending.add_listing.Given as goal

-- the first values are added
abbrev pub invariant-loop-item : goal.invariant-loop-item
invariant-loop-item l = l.elements ≡ mended ops (take l.item-index l.listing) l.initial.elements
