-- The constants of a checksum.
use Rattle.std.specs.Prelude.{◌≡◌, ◌≢◌, ℕ, List, length}
use Rattle.bech32_gf.specs.declared.gf32.Fe32.{Fe32}
use Rattle.bech32_checksum.specs.Code.{code_of}
use Rattle.bech32_checksum.specs.PackingLaws.{KeepsPackingLaws}
use Rattle.bech32_checksum.specs.Roots.{HasLawfulRoots}
use Rattle.bech32_packing.specs.Words.{code_of_written, width_of}
use Rattle.bech32_block.specs.Roots.{RootField, AreOfLongestSeries}
use Rattle.bech32_block.specs.Roots.{HasAllRoots, roots_of}

-- the base, the first exponent and the last, the code length, the words of the
-- generator and that of the target
pub record Constants (E : Type 0) : Type 0 where
  pub base : E
  pub start : ℕ
  pub end : ℕ
  pub code_length : ℕ
  pub words : List ℕ
  pub target : ℕ

-- the constants of the checksum with this generator and target
pub record AreConstants {E : Type 0} (f : RootField E)
    (generator target : List Fe32) (c : Constants E)
    : Type 0 where
  pub degree : length generator ≢ 1
  pub split : HasAllRoots f generator
  -- base, exponents and code length are those of the longest series of roots
  pub series : AreOfLongestSeries f (roots_of f generator) c.base c.start c.end c.code_length
  -- what a checksum owes: the packing laws, that its code is that of the words, and lawful roots
  pub packing_laws :
      KeepsPackingLaws (λ (n : ℕ). n) (width_of (length generator))
      (length generator) c.words c.target
  pub packed : code_of (λ (n : ℕ). n) c.code_length (length generator) c.words c.target
      ≡ code_of_written generator target c.code_length
  pub lawful_roots :
      HasLawfulRoots f.ops f.embed
      (code_of_written generator target c.code_length) c.base c.start c.end
