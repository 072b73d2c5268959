-- Which errors a generator detects (BIP-173, Checksum design).
use Rattle.std.specs.Prelude.{◌≤◌, ℕ, List, [], length}
use Rattle.bech32_gf.specs.Field.{Ops}
use Rattle.bech32_bch.specs.Pattern.{HasRemainder, IsPattern}

-- no pattern of one to four errors at locations below n has remainder zero, by the generator with
-- the lower coefficients g
abbrev pub DetectsFour : {F : Type 0} → Ops F → List F → ℕ → Type 0
DetectsFour {F} f g n =
    (e : List (ℕ × F)) → IsPattern f n e → 1 ≤ length e → length e ≤ 4 → HasRemainder f g [] e → ⊥
