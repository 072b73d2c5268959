-- Why there is no block for a generator.
use Rattle.std.specs.Prelude.{◌≡◌, ◌≢◌, List, length}
use Rattle.bech32_gf.specs.declared.gf32.Fe32.{Fe32}
use Rattle.bech32_block.specs.Roots.{RootField, roots_of, HasAllRoots, HasNoExponents}
use Rattle.bech32_block.specs.declared.error.PrintError.{PrintError}
use Rattle.bech32_block.specs.declared.error.PrintError.TheVariants.{Degree, NotSplit}
use Rattle.bech32_block.specs.declared.error.PrintError.TheVariants.{NotPowers, Memory}

-- the first of: the degree is one; a root is missing; the first root of the longest series is not a
-- power of its ratio. Out of memory is returned only for generators whose degree is not one.
abbrev pub IsPrintRefusal : {E : Type 0} → RootField E → List Fe32 → PrintError → Type 0
IsPrintRefusal f generator Degree = length generator ≡ 1
IsPrintRefusal f generator NotSplit = (length generator ≢ 1) × (HasAllRoots f generator → ⊥)
IsPrintRefusal f generator NotPowers =
    (length generator ≢ 1) × HasAllRoots f generator × HasNoExponents f (roots_of f generator)
IsPrintRefusal f generator Memory = length generator ≢ 1
