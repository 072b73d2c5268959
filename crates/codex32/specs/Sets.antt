-- Shares that a set gives.
use Rattle.std.specs.Prelude.{List, [], ◌∷◌}
use Rattle.bech32_gf.specs.Fe32 as fe32
use Rattle.bech32_gf.specs.Fe32.{elements_of}
use Rattle.codex32_steady.specs.shares.Shares.{IsGiven}
use Rattle.codex32.specs.Derive.{IsOfSet, count_of, indices_of, rows_of, size_of}
use Rattle.codex32.specs.Share.{characters_of_share, index_of_share}
use Rattle.codex32.specs.declared.share.Share.{Share}

-- the share is of the set, and has the elements that the set gives at its index
abbrev pub IsGivenShare : List Share → Share → Type 0
IsGivenShare [] o = ⊥
IsGivenShare (s ∷ ss) o =
    IsOfSet s o
    × IsGiven fe32.ops (count_of (s ∷ ss)) (indices_of (s ∷ ss)) (rows_of (s ∷ ss))
    (size_of (s ∷ ss)) (index_of_share o) (elements_of (characters_of_share o))
