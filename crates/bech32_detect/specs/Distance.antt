-- In how many places lists of elements differ.
use Rattle.std.specs.Prelude.{◌≡◌, ◌⊎◌, ◌<◌, ◌==◌, ℕ, Bool, List}
use Rattle.bech32_gf.specs.declared.gf32.Fe32.{Fe32}
use Rattle.bech32_bch.specs.Distance.{places_that_differ}

-- whether two elements are the same
abbrev pub same_element : Fe32 → Fe32 → Bool
same_element x y = x.value == y.value

-- the same elements, or elements that differ in more places than the bound
abbrev pub AreSameOrFar : ℕ → List Fe32 → List Fe32 → Type 0
AreSameOrFar bound xs ys = (xs ≡ ys) ⊎ (bound < places_that_differ same_element xs ys)
