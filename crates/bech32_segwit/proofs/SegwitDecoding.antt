-- A text is decoded as a segwit address exactly where it is one, unless out of memory.
use Rattle.std.proofs.Common.{◌≡◌, ◌⊎◌, ℕ, List, Result, Ok, Err, ⊎_elim, IfOk, IfErr}
use Rattle.std.specs.Str.{IsUtf8}
use Rattle.bech32_gf.specs.declared.gf32.Fe32.{Fe32}
use Rattle.bech32_hrp.specs.Hrp.{IsHrp, lowered}
use Rattle.bech32_hrp.specs.HrpBytes.{hrp_bytes, lowered_bytes}
use Rattle.bech32_hrp.specs.declared.Hrp.{Hrp}
use Rattle.bech32_decode.specs.Segwit.{IsAddress, IsAddressText, IsSegwitRefusal}
use Rattle.bech32_refusals.specs.declared.error.SegwitHrpstringError.TheVariants.{Memory}
use Rattle.bech32_segwit.specs.declared.error.DecodeError.{DecodeError}
use Rattle.bech32_segwit.proofs.SegwitEncoding.{one_spelling}
use Rattle.bech32_decode.proofs.Addresses.{parts-from_address, not_refused}

pub accepts-from_refusal : {D : Type 0} (text : List ℕ) → IsUtf8 text → (r : Result D DecodeError)
    → IfErr r (λ e. IsSegwitRefusal text e.0 ⊎ ((e.0 ≡ Memory) × IsAddressText text))
    → IsAddressText text → IfErr r (λ e. e.0 ≡ Memory)
accepts-from_refusal text u (Ok d) h a = tt
accepts-from_refusal text u (Err e) h a =
    ⊎_elim
    (λ (r : IsSegwitRefusal text e.0). absurd (not_refused text (parts-from_address text a) e.0 u r))
    (λ (m : (e.0 ≡ Memory) × IsAddressText text). m.0)
    h

pub spelling-from_value : {V : Type 0} (bytes : V → List ℕ) (text : List ℕ) (r : Result (Hrp × Fe32 × V) DecodeError)
    → IfOk r (λ d. IsHrp (hrp_bytes d.0) × IsAddress (hrp_bytes d.0) d.1 (bytes d.2) text)
    → IfOk r (λ d. (h t : List ℕ) → lowered h ≡ lowered_bytes d.0 → IsAddress h d.1 (bytes d.2) t → lowered t ≡ lowered text)
spelling-from_value bytes text (Ok d) is = λ h t same a. one_spelling h (hrp_bytes d.0) d.1 (bytes d.2) t text same a is.1
spelling-from_value bytes text (Err e) is = tt
