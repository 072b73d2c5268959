-- Texts that are written to a sink, and why one is not.
use Rattle.std.specs.Prelude.{◌≡◌, ◌<◌, ◌≤◌, ℕ, Bool, true, List, length, take, Option, Result, ⊤}
use Rattle.std.specs.Fmt.{WritesInCalls}
use Rattle.std.specs.Io.KnownBytes.{Appends}
use Rattle.std.specs.declared.io.Error.{Error}
use Rattle.io_traits.specs.Marks.{IsErrorOfLastPiece}
use Rattle.bech32_gf.specs.declared.gf32.Fe32.{Fe32}
use Rattle.bech32_bits.specs.Bits.{to_fes}
use Rattle.bech32_checksum.specs.Code.{Code}
use Rattle.bech32_encode.specs.Cased.{IsTextInCase}
use Rattle.bech32_encode.specs.TextLength.{encoded_length_of}
use Rattle.bech32_refusals.specs.declared.error.CodeLengthError.{CodeLengthError}
use Rattle.bech32_refusals.specs.declared.texts.EncodeError.{EncodeError}
use Rattle.bech32_refusals.specs.declared.texts.EncodeError.TheVariants.{TooLong, Fmt, Memory}
use Rattle.bech32.specs.declared.error.EncodeIoError.{EncodeIoError}
use Rattle.bech32.specs.declared.error.EncodeIoError.TheVariants.{TooLong as IoTooLong, Write}

-- a writer took the text of a human-readable part and bytes, and nothing else
abbrev pub WritesText : {W : Type 0} → (W → List ℕ → W → Type 0) → W → W → Bool → Code → List ℕ
    → List ℕ → Type 0
WritesText takes old new upper code hrp bytes =
    (text : List ℕ) × IsTextInCase upper code hrp (to_fes bytes) text
    × WritesInCalls takes old text new

-- known bytes grew by that text
abbrev pub AppendsText : Option (List ℕ) → Option (List ℕ) → Bool → Code → List ℕ → List ℕ → Type 0
AppendsText old new upper code hrp bytes =
    (text : List ℕ) × IsTextInCase upper code hrp (to_fes bytes) text × Appends old new text

-- known bytes grew by a beginning of it
abbrev pub AppendsBeginning : Option (List ℕ) → Option (List ℕ) → Bool → Code → List ℕ → List ℕ
    → Type 0
AppendsBeginning old new upper code hrp bytes =
    (text : List ℕ) × IsTextInCase upper code hrp (to_fes bytes) text
    × (n : ℕ) × (n ≤ length text) × Appends old new (take n text)

-- a failed mark is set, and this holds
abbrev pub FailsWith : Bool → Type 0 → Type 0
FailsWith failed P = (failed ≡ true) × P

-- the text of a human-readable part and elements is longer than the code, and
-- these are the two lengths
abbrev pub IsTooLong : Code → List ℕ → List Fe32 → CodeLengthError → Type 0
IsTooLong code hrp elements e =
    (code.code_length < encoded_length_of code hrp elements)
    × (e ≡ record {
      encoded_length =
          encoded_length_of code hrp elements;
      code_length = code.code_length;
    })

-- why that text is not written: it is too long, and the sink was `kept`; or it is
-- not, and the sink `failed`
abbrev pub IsFmtRefusal : Type 0 → Type 0 → Code → List ℕ → List Fe32 → EncodeError → Type 0
IsFmtRefusal kept failed code hrp elements (TooLong e) = IsTooLong code hrp elements e × kept
IsFmtRefusal kept failed code hrp elements (Fmt e) =
    (encoded_length_of code hrp elements ≤ code.code_length) × failed
IsFmtRefusal kept failed code hrp elements Memory = ⊥

-- the same of a sink of bytes
abbrev pub IsIoRefusal : Type 0 → Type 0 → Code → List ℕ → List Fe32 → EncodeIoError → Type 0
IsIoRefusal kept failed code hrp elements (IoTooLong e) = IsTooLong code hrp elements e × kept
IsIoRefusal kept failed code hrp elements (Write e) =
    (encoded_length_of code hrp elements ≤ code.code_length) × failed

-- why not all of the text was taken that was written to a sink of bytes
abbrev pub IsWriteError : {K : Type 0} → (K → List ℕ → Result ℕ Error → K → Type 0) → Bool → Code
    → List ℕ → List ℕ → K → EncodeIoError → Type 0
IsWriteError write_gives upper code hrp bytes after (IoTooLong e) = ⊤
IsWriteError write_gives upper code hrp bytes after (Write e) =
    (text : List ℕ) × IsTextInCase upper code hrp (to_fes bytes) text
    × IsErrorOfLastPiece write_gives text after e
