-- The roots of a generator by which the errors in a text are located (BIP-173, Checksum design).
use Rattle.std.specs.Prelude.{◌≡◌, ◌≢◌, ◌<◌, ◌≤◌, ◌-◌, ℕ, suc, length, map}
use Rattle.bech32_gf.specs.Field.{Ops, IsOrder, power, value_at}
use Rattle.bech32_gf.specs.declared.gf32.Fe32.{Fe32}
use Rattle.bech32_poly.specs.Remainder.{monic}
use Rattle.bech32_checksum.specs.Code.{Code}

-- the value of the code's generator at x, an element of a field that the
-- coefficients are embedded in
abbrev pub generator_at : {F : Type 0} → Ops F → (Fe32 → F) → Code → F → F
generator_at o embed code x = value_at o x (monic o (map embed code.generator))

-- the element is not zero, and its order is this number or more
abbrev pub HasOrderFrom : {F : Type 0} → Ops F → F → ℕ → Type 0
HasOrderFrom o base least = (base ≢ o.zero) × ((order : ℕ) × IsOrder o base order × (least ≤ order))

-- each power of the base from the exponent `start` to `end` is a root of the generator
abbrev pub PowersAreRoots : {F : Type 0} → Ops F → (Fe32 → F) → Code → F → ℕ → ℕ → Type 0
PowersAreRoots o embed code base start end =
    (e : ℕ) → start ≤ e → e ≤ end → generator_at o embed code (power o base e) ≡ o.zero

-- The powers of the base from the exponent `start` to `end` are roots of the generator, and serve
-- to locate errors: the base is not zero, its order is the code length at least, and there are no
-- more exponents than the degree.
pub record AreLawfulRoots {F : Type 0} (o : Ops F)
    (embed : Fe32 → F) (code : Code) (base : F) (start end : ℕ)
    : Type 0 where
  pub not_zero : base ≢ o.zero
  pub order : ℕ
  pub is_order : IsOrder o base order
  pub long_enough : code.code_length ≤ order
  pub ordered : start ≤ end
  pub few : end - start < length code.generator
  pub are_roots : PowersAreRoots o embed code base start end

-- at degree 0 nothing is asked of the roots
abbrev pub HasLawfulRoots : {F : Type 0} → Ops F → (Fe32 → F) → Code → F → ℕ → ℕ → Type 0
HasLawfulRoots o embed code base start end =
    0 < length code.generator → AreLawfulRoots o embed code base start end

-- the number of exponents from the first to the last, which are in order
abbrev pub singleton_bound : ℕ → ℕ → ℕ
singleton_bound start end = suc (end - start)
