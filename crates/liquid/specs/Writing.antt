-- Writing confidential addresses: their length, and why there is none.
use Rattle.std.specs.Prelude.{◌≡◌, ◌<◌, ◌≤◌, ◌+◌, ℕ, List, length, Result, IfOk, IsOkUnless}
use Rattle.bech32_gf.specs.declared.gf32.Fe32.{Fe32}
use Rattle.bech32_bits.specs.Bits.{fes_count}
use Rattle.bech32_hrp.specs.Hrp.{lowered}
use Rattle.bech32_checksum.specs.Code.{Code}
use Rattle.bech32_refusals.specs.SegwitRules.{IsLengthRefusal, IsProgramLength, max_witness_version}
use Rattle.liquid.specs.Confidential.{IsConfidential}
use Rattle.liquid.specs.declared.error.EncodeError.{EncodeError}
use Rattle.liquid.specs.declared.error.EncodeError.TheVariants.{WitnessVersion}
use Rattle.liquid.specs.declared.error.EncodeError.TheVariants.{UnsupportedVersion}
use Rattle.liquid.specs.declared.error.EncodeError.TheVariants.{WitnessLength, Memory}

-- the version is 0, and a program may have n bytes: there is an address
pub record IsVersionAndLength (version : Fe32) (n : ℕ) : Type 0 where
  pub version_is : version.value ≡ 0
  pub program_length : IsProgramLength version n

-- how many characters it has: the human-readable part, the separator, the version, the blinding key
-- and the program of n bytes, and a checksum of twelve
abbrev pub confidential_length : List ℕ → ℕ → ℕ
confidential_length hrp n = length hrp + 1 + 1 + fes_count 0 (33 + n) + 12

-- why there is none, for a program of n bytes: the first of three faults; or out of memory where
-- there is one
abbrev pub IsConfidentialEncodeRefusal : Fe32 → ℕ → EncodeError → Type 0
IsConfidentialEncodeRefusal version n (WitnessVersion v) =
    (max_witness_version < version.value) × (v ≡ version)
IsConfidentialEncodeRefusal version n (UnsupportedVersion v) =
    (0 < version.value) × (version.value ≤ max_witness_version) × (v ≡ version)
IsConfidentialEncodeRefusal version n (WitnessLength e) =
    (version.value ≡ 0) × IsLengthRefusal version n e
IsConfidentialEncodeRefusal version n Memory = IsVersionAndLength version n

-- of each address of these parts, in either case, the outcome is that address in lower case, unless
-- out of memory
abbrev pub SpellsEachConfidential : {S : Type 0} → Code → (S → List ℕ) → List ℕ → Fe32 → List ℕ
    → List ℕ → Result S EncodeError → Type 0
SpellsEachConfidential code bytes hrp version key program outcome =
    (h : List ℕ) → (t : List ℕ) → lowered h ≡ lowered hrp
    → IsConfidential code h version key program t
    → IsOkUnless outcome Memory × IfOk outcome (λ s. bytes s ≡ lowered t)
