-- The witness version that elements begin with (BIP-173, Segwit address format).
use Rattle.std.specs.Prelude.{if◌then◌else◌, nat_lt, List, [], ◌∷◌, Option, Some, None}
use Rattle.bech32_gf.specs.declared.gf32.Fe32.{Fe32}
use Rattle.bech32_refusals.specs.SegwitRules.{max_witness_version}

-- the first element, where its value is at most 16
abbrev pub version_of : List Fe32 → Option Fe32
version_of [] = None
version_of (x ∷ xs) = if nat_lt max_witness_version x.value then None else Some x
