-- Segwit addresses that are written without any test: the front of a text (BIP-173, Segwit
-- address format; BIP-350).
use Rattle.std.specs.Prelude.{◌≡◌, ◌≤◌, ℕ, Bool, List, ◌∷◌, length, take, Option, Result}
use Rattle.std.specs.Fmt.{WritesInCalls}
use Rattle.std.specs.Io.KnownBytes.{Appends}
use Rattle.std.specs.declared.io.Error.{Error}
use Rattle.io_traits.specs.Marks.{IsErrorOfLastWrite}
use Rattle.bech32_gf.specs.declared.gf32.Fe32.{Fe32}
use Rattle.bech32_bits.specs.Bits.{to_fes}
use Rattle.bech32_encode.specs.Cased.{IsTextInCase}
use Rattle.bech32_decode.specs.Segwit.{segwit_code}
use Rattle.bech32_refusals.specs.SegwitRules.{max_address_length}

-- the first max_address_length characters of the text of a version and a program, by Bech32 for
-- version 0, else by Bech32m
abbrev pub IsFrontOfText : Bool → List ℕ → Fe32 → List ℕ → List ℕ → Type 0
IsFrontOfText upper hrp version program front =
    (text : List ℕ) × IsTextInCase upper (segwit_code version) hrp (version ∷ to_fes program) text
    × (front ≡ take max_address_length text)

-- a writer took them, and nothing else
abbrev pub WritesFront : {W : Type 0} → (W → List ℕ → W → Type 0) → W → W → Bool → List ℕ → Fe32
    → List ℕ → Type 0
WritesFront takes old new upper hrp version program =
    (front : List ℕ) × IsFrontOfText upper hrp version program front
    × WritesInCalls takes old front new

-- known bytes grew by them
abbrev pub AppendsFront : Option (List ℕ) → Option (List ℕ) → Bool → List ℕ → Fe32 → List ℕ → Type 0
AppendsFront old new upper hrp version program =
    (front : List ℕ) × IsFrontOfText upper hrp version program front × Appends old new front

-- known bytes grew by a beginning of them
abbrev pub AppendsPartOfFront : Option (List ℕ) → Option (List ℕ) → Bool → List ℕ → Fe32 → List ℕ
    → Type 0
AppendsPartOfFront old new upper hrp version program =
    (front : List ℕ) × IsFrontOfText upper hrp version program front
    × (n : ℕ) × (n ≤ length front) × Appends old new (take n front)

-- why they were not taken whole
abbrev pub IsErrorOfFront : {K : Type 0} → (K → List ℕ → Result ℕ Error → K → Type 0) → Bool
    → List ℕ → Fe32 → List ℕ → K → Error → Type 0
IsErrorOfFront write_gives upper hrp version program after e =
    (front : List ℕ) × IsFrontOfText upper hrp version program front
    × IsErrorOfLastWrite write_gives front after e
