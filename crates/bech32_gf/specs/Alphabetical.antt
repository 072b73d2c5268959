-- The elements in order of their characters.
use Rattle.std.specs.Prelude.{List, codes, drop}
use Rattle.bech32_gf.specs.declared.gf32.Fe32.{Fe32}
use Rattle.bech32_gf.specs.declared.gf32.alphabetical.AlphaIter.{AlphaIter}
use Rattle.bech32_gf.specs.Fe32.{elements_of}

-- all elements, in order of their characters
abbrev pub alphabetical : List Fe32
alphabetical = elements_of (codes "acdefghjklmnpqrstuvwxyz023456789")

-- those that are left
abbrev pub alphabetical_left : AlphaIter → List Fe32
alphabetical_left s = drop s.given alphabetical
