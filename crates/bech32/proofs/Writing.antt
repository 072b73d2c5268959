-- What a watched device took, the device took.
use Rattle.std.proofs.Common.{◌≡◌, ◌≤◌, ℕ, Bool, List, [], ◌∷◌, length, take, Option, Result, Ok, Err, ap, IfErr}
use Rattle.io_traits.proofs.Through.{writes_through}
use Rattle.bech32_gf.specs.declared.gf32.Fe32.{Fe32}
use Rattle.bech32_checksum.specs.Code.{Code}
use Rattle.bech32.specs.Writing.{WritesText, IsFmtRefusal, IsIoRefusal}
use Rattle.bech32_refusals.specs.declared.texts.EncodeError.{EncodeError}
use Rattle.bech32_refusals.specs.declared.texts.EncodeError.TheVariants.{TooLong, Fmt, Memory}
use Rattle.bech32.specs.declared.error.EncodeIoError.{EncodeIoError}
use Rattle.bech32.specs.declared.error.EncodeIoError.TheVariants.{TooLong as IoTooLong, Write}

-- a text
pub text_through : {S W : Type 0} (took : W → List ℕ → W → Type 0) (writer : S → W) (s t : S) (upper : Bool) (code : Code) (hrp bytes : List ℕ)
    → WritesText (λ a x b. took (writer a) x (writer b)) s t upper code hrp bytes → WritesText took (writer s) (writer t) upper code hrp bytes
text_through took writer s t upper code hrp bytes (text, is, went) = (text, is, writes_through took writer s t text went)

-- a refusal, where less is said of the sink
pub fmt_refusal : {kept kept' failed failed' : Type 0} (code : Code) (hrp : List ℕ) (elements : List Fe32) → (kept → kept') → (failed → failed')
    → {T : Type 0} (r : Result T EncodeError) → IfErr r (λ e. IsFmtRefusal kept failed code hrp elements e) → IfErr r (λ e. IsFmtRefusal kept' failed' code hrp elements e)
fmt_refusal code hrp elements f g (Ok x) h = tt
fmt_refusal code hrp elements f g (Err (TooLong e)) (long, kept) = (long, f kept)
fmt_refusal code hrp elements f g (Err (Fmt e)) (fits, failed) = (fits, g failed)
fmt_refusal code hrp elements f g (Err Memory) h = h

pub io_refusal : {kept kept' failed failed' : Type 0} (code : Code) (hrp : List ℕ) (elements : List Fe32) → (kept → kept') → (failed → failed')
    → {T : Type 0} (r : Result T EncodeIoError) → IfErr r (λ e. IsIoRefusal kept failed code hrp elements e) → IfErr r (λ e. IsIoRefusal kept' failed' code hrp elements e)
io_refusal code hrp elements f g (Ok x) h = tt
io_refusal code hrp elements f g (Err (IoTooLong e)) (long, kept) = (long, f kept)
io_refusal code hrp elements f g (Err (Write e)) (fits, failed) = (fits, g failed)
