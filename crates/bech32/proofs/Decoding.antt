-- A text that is accepted is decoded.
use Rattle.std.proofs.Common.{◌≡◌, ◌⊎◌, ℕ, List, None, Result, Ok, Err, length, refl, ⊎_elim, IfErr}
use Rattle.std.specs.Result.{IsOkUnless}
use Rattle.std.specs.Str.{IsUtf8}
use Rattle.bech32_checksum.specs.Code.{bech32, bech32m}
use Rattle.bech32_decode.specs.Text.{text_refusal}
use Rattle.bech32_decode.specs.Acceptance.{Accepts}
use Rattle.bech32_decode.proofs.Decoding.{valid-from_accepts, not_valid}
use Rattle.bech32_decode.proofs.Grammar.{text_refusal-none}
use Rattle.bech32.specs.Refusals.{IsDecodeRefusal}
use Rattle.bech32_refusals.specs.declared.texts.DecodeError.{DecodeError}
use Rattle.bech32_refusals.specs.declared.texts.DecodeError.TheVariants.{Parse, Checksum, Memory}

-- what is accepted is decoded, unless out of memory
pub decoded-from_refusal : {D : Type 0} (text : List ℕ) → IsUtf8 text → (r : Result D DecodeError) → IfErr r (λ e. IsDecodeRefusal text e)
    → (Accepts bech32m text ⊎ Accepts bech32 text) → IsOkUnless r Memory
decoded-from_refusal text u (Ok d) h a = tt
decoded-from_refusal text u (Err (Parse e)) h a =
    let none : text_refusal text ≡ None = text_refusal-none text u (⊎_elim (λ (x : Accepts bech32m text). (x.0, x.1, x.2.grammar)) (λ (x : Accepts bech32 text). (x.0, x.1, x.2.grammar)) a) in
    absurd cc
decoded-from_refusal text u (Err (Checksum e)) h a =
    absurd (⊎_elim
    (λ (x : Accepts bech32m text). not_valid bech32m (length text) h.hrp h.data_part e h.refusal (valid-from_accepts bech32m text h.hrp h.data_part h.grammar x))
    (λ (x : Accepts bech32 text). h.not_bech32 x) a)
decoded-from_refusal text u (Err Memory) h a = refl
