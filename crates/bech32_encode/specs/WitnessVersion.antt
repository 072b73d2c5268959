-- Elements behind a witness version.
use Rattle.std.specs.Prelude.{ℕ, List, ◌++◌, length, Option, option_to_list}
use Rattle.std.specs.declared.iter.Fuse.{Fuse}
use Rattle.bech32_bits.specs.Adaptor.{Adapts}
use Rattle.bech32_gf.specs.declared.gf32.Fe32.{Fe32}
use Rattle.bech32_encode.specs.declared.version.WitnessVersionIter.{WitnessVersionIter}

-- the elements inside
abbrev pub version_source : {I : Type 0} → WitnessVersionIter I → Fuse I
version_source s = s.elements

-- the version, until it has come
abbrev pub version_to_come : {I : Type 0} → WitnessVersionIter I → Option Fe32
version_to_come s = s.version

-- the version, until it has come, and then the elements
abbrev pub version_gives : {I : Type 0} → WitnessVersionIter I → List Fe32 → List Fe32
version_gives s xs = option_to_list (version_to_come s) ++ xs

-- what a call of `next` does
abbrev pub version_steps : {I : Type 0} → (I → Option Fe32 → I → Type 0)
    → WitnessVersionIter I → Option Fe32 → WitnessVersionIter I → Type 0
version_steps steps = Adapts steps version_source version_gives

-- how many versions are to come
abbrev pub version_more : {I : Type 0} → WitnessVersionIter I → ℕ
version_more s = length (option_to_list (version_to_come s))
