-- Decoding a text that was encoded.
use Rattle.std.specs.Prelude.{◌≡◌, ◌≤◌, ◌⊎◌, ℕ, nat_lt, true, List}
use Rattle.std.specs.Prelude.{length, Result, IfOk, IsOkUnless}
use Rattle.std.specs.List.{list_all}
use Rattle.bech32_bits.specs.Bits.{to_fes}
use Rattle.bech32_checksum.specs.Code.{bech32, bech32m}
use Rattle.bech32_checksum.specs.Encoded.{IsEncodedText}
use Rattle.bech32_hrp.specs.Hrp.{IsHrp, lowered}
use Rattle.bech32_hrp.specs.HrpBytes.{hrp_bytes}
use Rattle.bech32_hrp.specs.declared.Hrp.{Hrp}
use Rattle.bech32_refusals.specs.declared.texts.DecodeError.{DecodeError}
use Rattle.bech32_refusals.specs.declared.texts.DecodeError.TheVariants.{Memory}

-- Bech32m or Bech32 encodes bytes under a human-readable part as the text
abbrev pub IsEncodedByEither : List ℕ → List ℕ → List ℕ → Type 0
IsEncodedByEither hrp bytes text =
    IsEncodedText bech32m hrp (to_fes bytes) text ⊎ IsEncodedText bech32 hrp (to_fes bytes) text

-- where the text is encoded so, and within the code, the outcome is that human-readable part, in
-- lower case, and those bytes, unless out of memory
abbrev pub GivesBack : {V : Type 0} → (V → List ℕ) → List ℕ → Result (Hrp × V) DecodeError → Type 0
GivesBack items text outcome =
    (hrp : List ℕ) → (bytes : List ℕ) → IsHrp hrp → list_all (λ b. nat_lt b 256) bytes ≡ true
    → IsEncodedByEither hrp bytes text → length text ≤ 1023
    → IsOkUnless outcome Memory
    × IfOk outcome (λ d. (hrp_bytes d.0 ≡ lowered hrp) × (items d.1 ≡ bytes))
