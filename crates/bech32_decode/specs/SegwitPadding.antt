-- The rule of segwit addresses on padding (BIP-173, Segwit address format).
use Rattle.std.specs.Prelude.{◌≡◌, ◌≢◌, ◌<◌, ◌≤◌, ◌*◌, ◌/◌, ℕ, List, length, drop, replicate}
use Rattle.bech32_gf.specs.declared.gf32.Fe32.{Fe32}
use Rattle.bech32_bits.specs.Bits.{fe_bits}
use Rattle.bech32_refusals.specs.declared.error.PaddingError.{PaddingError}
use Rattle.bech32_refusals.specs.declared.error.PaddingError.TheVariants.{TooMuch, NonZero}

-- the bits of elements behind those of whole bytes
abbrev pub padding : List Fe32 → List ℕ
padding fes = drop (8 * (length (fe_bits fes) / 8)) (fe_bits fes)

-- at most four of them, all zero
pub record IsPadded (fes : List Fe32) : Type 0 where
  pub few : length (padding fes) ≤ 4
  pub zeros : padding fes ≡ replicate (length (padding fes)) 0

-- why they are not: the first of two faults
abbrev pub IsPaddingRefusal : List Fe32 → PaddingError → Type 0
IsPaddingRefusal fes TooMuch = 4 < length (padding fes)
IsPaddingRefusal fes NonZero =
    (length (padding fes) ≤ 4) × (padding fes ≢ replicate (length (padding fes)) 0)
