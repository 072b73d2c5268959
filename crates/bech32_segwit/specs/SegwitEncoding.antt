-- Writing segwit addresses (BIP-173, Segwit address format; BIP-350): their
-- length, and why there is none.
use Rattle.std.specs.Prelude.{◌≡◌, ◌<◌, ◌≤◌, ℕ, ◌+◌, List, length, Result, IfOk, IsOkUnless}
use Rattle.bech32_gf.specs.declared.gf32.Fe32.{Fe32}
use Rattle.bech32_bits.specs.Bits.{to_fes}
use Rattle.bech32_hrp.specs.Hrp.{lowered}
use Rattle.bech32_decode.specs.Segwit.{IsLowerAddress, IsAddress}
use Rattle.bech32_refusals.specs.SegwitRules.{IsProgramLength, IsLengthRefusal}
use Rattle.bech32_refusals.specs.SegwitRules.{max_address_length, max_witness_version}
use Rattle.bech32_segwit.specs.declared.error.EncodeError.{EncodeError}
use Rattle.bech32_segwit.specs.declared.error.EncodeError.TheVariants.{WitnessVersion}
use Rattle.bech32_segwit.specs.declared.error.EncodeError.TheVariants.{WitnessLength}
use Rattle.bech32_segwit.specs.declared.error.EncodeError.TheVariants.{TooLong, Fmt, Memory}

-- the address of a human-readable part, a version and a program exists
abbrev pub HasAddress : List ℕ → Fe32 → List ℕ → Type 0
HasAddress hrp version program = (text : List ℕ) × IsLowerAddress hrp version program text

-- of each address of these parts, in either case, the outcome is that address in lower case, unless
-- out of memory
abbrev pub SpellsEachAddress : {S : Type 0} → (S → List ℕ) → List ℕ → Fe32 → List ℕ
    → Result S EncodeError → Type 0
SpellsEachAddress bytes hrp version program outcome =
    (h : List ℕ) → (t : List ℕ) → lowered h ≡ lowered hrp → IsAddress h version program t
    → IsOkUnless outcome Memory × IfOk outcome (λ s. bytes s ≡ lowered t)

-- how many characters that is: the human-readable part, the separator, the version, the
-- program and a checksum of six
abbrev pub address_length : List ℕ → List ℕ → ℕ
address_length hrp program = length hrp + 1 + 1 + length (to_fes program) + 6

-- why an address is not written: the first of three faults, or out of memory where it exists
abbrev pub IsSegwitEncodeRefusal : List ℕ → Fe32 → List ℕ → EncodeError → Type 0
IsSegwitEncodeRefusal hrp version program (WitnessVersion e) =
    (max_witness_version < version.value) × (e.0 ≡ version)
IsSegwitEncodeRefusal hrp version program (WitnessLength e) =
    (version.value ≤ max_witness_version) × IsLengthRefusal version (length program) e
IsSegwitEncodeRefusal hrp version program (TooLong e) =
    (version.value ≤ max_witness_version) × IsProgramLength version (length program)
    × (max_address_length < address_length hrp program) × (e.0 ≡ address_length hrp program)
IsSegwitEncodeRefusal hrp version program (Fmt e) = ⊥
IsSegwitEncodeRefusal hrp version program Memory = HasAddress hrp version program
