-- The address of a human-readable part, a version and a program: when there is one, and that there is one alone.
use Rattle.std.proofs.Common.{◌≡◌, ℕ, ◌<◌, ◌≤◌, ◌+◌, ◌-◌, ◌^◌, ◌==◌, min, Bool, true, false, List, ◌∷◌, ◌∙◌, Result, Ok, Err, length, map, cond, refl, sym, ap, arith, ⊎_elim, IfOk, IfErr}
use Rattle.std.proofs.lemmas.List.{length-take}
use Rattle.std.specs.Char.{to_ascii_uppercase}
use Rattle.std.specs.Result.{IsOkUnless}
use Rattle.bech32_gf.specs.declared.gf32.Fe32.{Fe32}
use Rattle.bech32_bits.proofs.RoundTrip.{length-to_fes}
use Rattle.bech32_bits.specs.Bits.{to_fes, fes_count}
use Rattle.bech32_checksum.specs.Code.{bech32, bech32m}
use Rattle.bech32_hrp.specs.Hrp.{lowered}
use Rattle.bech32_checksum.specs.Encoded.{IsEncodedText}
use Rattle.bech32_decode.specs.Segwit.{segwit_code, IsLowerAddress, IsAddress}
use Rattle.bech32_segwit.specs.SegwitEncoding.{HasAddress, address_length, IsSegwitEncodeRefusal}
use Rattle.bech32_refusals.specs.SegwitRules.{IsProgramLength, max_address_length, max_witness_version, max_program_length}
use Rattle.bech32_segwit.specs.declared.error.EncodeError.{EncodeError}
use Rattle.bech32_segwit.specs.declared.error.EncodeError.TheVariants.{WitnessVersion, WitnessLength, TooLong, Fmt, Memory}
use Rattle.bech32_decode.proofs.Addresses.{short, no_length_refusal}
use Rattle.bech32_checksum.proofs.Uniqueness.{one_text, in_other_case, text_exists, length-encoded, lower_encoded, lower_raised}

-- a checksum's target has as many digits as its generator
targeted : (version : Fe32) → length (segwit_code version).target ≡ length (segwit_code version).generator
targeted version = targeted_at (version.value == 0)
  where
    targeted_at : (b : Bool) → length (cond b bech32 bech32m).target ≡ length (cond b bech32 bech32m).generator
    targeted_at true = refl
    targeted_at false = refl

length-address : (hrp : List ℕ) (version : Fe32) (program text : List ℕ) → IsEncodedText (segwit_code version) hrp (version ∷ to_fes program) text
    → length text ≡ address_length hrp program
length-address hrp version program text is =
    let size : length text ≡ length hrp + 1 + length (version ∷ to_fes program) + length (segwit_code version).generator =
    length-encoded (segwit_code version) hrp (version ∷ to_fes program) text is in
    let six : length (segwit_code version).generator ≡ 6 = short version in
    omega arith

-- an address of a lawful program can be counted, whatever stands before the separator
pub no_more_of_part : (part program : List ℕ) → length part < 2 ^ 63 → length program ≤ max_program_length
    → min (address_length part program) (2 ^ 64 - 1) ≡ address_length part program
no_more_of_part part program fits few = let elements : length (to_fes program) ≡ fes_count 0 (length program) = length-to_fes program in omega arith

-- an address has at most max_address_length characters
pub address_fits : (hrp : List ℕ) (version : Fe32) (program : List ℕ) → HasAddress hrp version program → address_length hrp program ≤ max_address_length
address_fits hrp version program (text, a) =
    let here : length text ≡ address_length hrp program = length-address hrp version program text a.encoded in
    let few : length text ≤ max_address_length = a.text_length in
    omega arith

-- the text is the address, where no rule is broken
lawful_text : (hrp : List ℕ) (version : Fe32) (program text : List ℕ) → version.value ≤ max_witness_version → IsProgramLength version (length program) → address_length hrp program ≤ max_address_length
    → IsEncodedText (segwit_code version) hrp (version ∷ to_fes program) text → IsLowerAddress hrp version program text
lawful_text hrp version program text fits program_length few is =
    let size : length text ≡ address_length hrp program = length-address hrp version program text is in
    record { version_fits = fits; program_length = program_length; text_length = omega arith; encoded = is }

pub address_exists : (hrp : List ℕ) (version : Fe32) (program : List ℕ) → version.value ≤ max_witness_version → IsProgramLength version (length program) → address_length hrp program ≤ max_address_length
    → HasAddress hrp version program
address_exists hrp version program fits program_length few =
    let (text, is) = text_exists (segwit_code version) hrp (version ∷ to_fes program) (targeted version) in
    (text, lawful_text hrp version program text fits program_length few is)

-- where there is an address, the text is it
pub address-from_text : (hrp : List ℕ) (version : Fe32) (program text : List ℕ) → HasAddress hrp version program
    → IsEncodedText (segwit_code version) hrp (version ∷ to_fes program) text → IsLowerAddress hrp version program text
address-from_text hrp version program text (other, a) is =
    let here : length text ≡ address_length hrp program = length-address hrp version program text is in
    let there : length other ≡ address_length hrp program = length-address hrp version program other a.encoded in
    let few : length other ≤ max_address_length = a.text_length in
    record { version_fits = a.version_fits; program_length = a.program_length; text_length = omega arith; encoded = is }

-- where there is one, it is not refused
not_refused : (hrp : List ℕ) (version : Fe32) (program : List ℕ) (e : EncodeError) → HasAddress hrp version program → IsSegwitEncodeRefusal hrp version program e → e ≡ Memory
not_refused hrp version program (WitnessVersion e) (text, a) r = let over : max_witness_version < version.value = r.0 in let fits = a.version_fits in absurd (omega arith)
not_refused hrp version program (WitnessLength e) (text, a) r = absurd (no_length_refusal version (length program) e a.program_length r.1)
not_refused hrp version program (TooLong e) (text, a) r =
    let over : max_address_length < address_length hrp program = r.2 in
    let there : length text ≡ address_length hrp program = length-address hrp version program text a.encoded in
    let few : length text ≤ max_address_length = a.text_length in
    absurd (omega arith)
not_refused hrp version program (Fmt e) (text, a) r = absurd r
not_refused hrp version program Memory (text, a) r = refl

pub exists-from_outcome : {S : Type 0} (hrp : List ℕ) (version : Fe32) (program : List ℕ) (r : Result S EncodeError) → IfErr r (λ e. IsSegwitEncodeRefusal hrp version program e)
    → HasAddress hrp version program → IsOkUnless r Memory
exists-from_outcome hrp version program (Ok s) h a = tt
exists-from_outcome hrp version program (Err e) h a = not_refused hrp version program e a h

-- ---- one spelling

-- an address is one of the human-readable part in the other case too
address-in_other_case : (hrp other : List ℕ) (version : Fe32) (program text : List ℕ) → lowered hrp ≡ lowered other
    → IsLowerAddress hrp version program text → IsLowerAddress other version program text
address-in_other_case hrp other version program text same a = record {
  version_fits = a.version_fits;
  program_length = a.program_length;
  text_length = a.text_length;
  encoded = in_other_case (segwit_code version) hrp other (version ∷ to_fes program) text same a.encoded;
}

-- in lower case it is the lower-case one
lowered-address : (hrp : List ℕ) (version : Fe32) (program text : List ℕ) (a : IsAddress hrp version program text) → lowered text ≡ a.lower
lowered-address hrp version program text a =
    let low : lowered a.lower ≡ a.lower = lower_encoded (segwit_code version) hrp (version ∷ to_fes program) a.lower a.address.encoded in
    ⊎_elim
    (λ (same : text ≡ a.lower). ap lowered same ∙ low)
    (λ (same : text ≡ map to_ascii_uppercase a.lower). ap lowered same ∙ lower_raised a.lower low)
    a.in_one_case

-- two of the same parts have the same spelling in lower case
pub one_spelling : (hrp other : List ℕ) (version : Fe32) (program text again : List ℕ) → lowered hrp ≡ lowered other
    → IsAddress hrp version program text → IsAddress other version program again → lowered text ≡ lowered again
one_spelling hrp other version program text again same a b =
    lowered-address hrp version program text a
    ∙ one_text (segwit_code version) hrp other (version ∷ to_fes program) a.lower b.lower same a.address.encoded b.address.encoded
    ∙ sym (lowered-address other version program again b)

pub spelling-from_outcome : {S : Type 0} (bytes : S → List ℕ) (hrp : List ℕ) (version : Fe32) (program : List ℕ) (r : Result S EncodeError)
    → IfOk r (λ s. IsLowerAddress hrp version program (bytes s)) → IfErr r (λ e. IsSegwitEncodeRefusal hrp version program e)
    → (h t : List ℕ) → lowered h ≡ lowered hrp → IsAddress h version program t → IsOkUnless r Memory × IfOk r (λ s. bytes s ≡ lowered t)
spelling-from_outcome bytes hrp version program (Ok s) is refused h t same a = (
  tt,
  one_text (segwit_code version) hrp h (version ∷ to_fes program) (bytes s) a.lower (sym same) is.encoded a.address.encoded
      ∙ sym (lowered-address h version program t a),
)
spelling-from_outcome bytes hrp version program (Err e) is refused h t same a =
    (not_refused hrp version program e (a.lower, address-in_other_case h hrp version program a.lower same a.address) refused, tt)
