-- The confidential address of given parts: when there is one, and that there is one alone.
use Rattle.std.proofs.Common.{◌≡◌, ◌<◌, ◌+◌, ◌∙◌, ℕ, List, ◌∷◌, ◌++◌, Result, Ok, Err, length, length-append, append_assoc, take, refl, sym, ap, subst, arith, IfErr, IfOk}
use Rattle.std.proofs.lemmas.List.{take_at}
use Rattle.std.specs.Result.{IsOkUnless}
use Rattle.bech32_gf.specs.declared.gf32.Fe32.{Fe32}
use Rattle.bech32_bits.specs.Bits.{to_fes}
use Rattle.bech32_hrp.specs.Hrp.{lowered}
use Rattle.bech32_checksum.specs.Code.{Code}
use Rattle.bech32_checksum.specs.Encoded.{IsEncodedText}
use Rattle.bech32_checksum.proofs.Uniqueness.{one_text}
use Rattle.bech32_decode.proofs.Addresses.{no_length_refusal}
use Rattle.liquid.specs.Confidential.{IsConfidential, IsLowerConfidential}
use Rattle.liquid.specs.Writing.{IsConfidentialEncodeRefusal, IsVersionAndLength}
use Rattle.liquid.specs.declared.error.EncodeError.{EncodeError}
use Rattle.liquid.specs.declared.error.EncodeError.TheVariants.{WitnessVersion, UnsupportedVersion, WitnessLength, Memory}
use Rattle.liquid.proofs.Spelling.{lowered-address}
use Rattle.bech32_refusals.specs.SegwitRules.{max_witness_version}

-- a blinding key and a program that were put into a buffer, one behind the other
pub payload_put : (key program zeros rest : List ℕ) → length key ≡ 33 → take (33 + length program) (take 33 (key ++ zeros) ++ (program ++ rest)) ≡ key ++ program
payload_put key program zeros rest size =
    ap (λ (l : List ℕ). take (33 + length program) (l ++ (program ++ rest))) (take_at key zeros 33 size)
    ∙ ap (take (33 + length program)) (sym (append_assoc key program rest))
    ∙ take_at (key ++ program) rest (33 + length program) (length-append key program ∙ ap (λ (n : ℕ). n + length program) size)

-- the text of a payload is the address
pub lower-from_text : (code : Code) (hrp : List ℕ) (version : Fe32) (key program payload text : List ℕ) → IsVersionAndLength version (length program) → length key ≡ 33
    → payload ≡ key ++ program → IsEncodedText code hrp (version ∷ to_fes payload) text → IsLowerConfidential code hrp version key program text
lower-from_text code hrp version key program payload text lawful size same is = record {
  version_is = lawful.version_is;
  key_length = size;
  program_length = lawful.program_length;
  encoded = subst (λ (l : List ℕ). IsEncodedText code hrp (version ∷ to_fes l) text) same is;
}

-- where there is an address, it is not refused
pub only_memory : (version : Fe32) (n : ℕ) (e : EncodeError) → IsVersionAndLength version n → IsConfidentialEncodeRefusal version n e → e ≡ Memory
only_memory version n (WitnessVersion v) a r =
    let over : max_witness_version < version.value = r.0 in
    let is : version.value ≡ 0 = a.version_is in
    absurd (omega (arith, over, is))
only_memory version n (UnsupportedVersion v) a r =
    let over : 0 < version.value = r.0 in
    let is : version.value ≡ 0 = a.version_is in
    absurd (omega (arith, over, is))
only_memory version n (WitnessLength e) a r = absurd (no_length_refusal version n e a.program_length r.1)
only_memory version n Memory a r = refl

pub spelling-from_outcome : {S : Type 0} (code : Code) (bytes : S → List ℕ) (hrp : List ℕ) (version : Fe32) (key program : List ℕ) (r : Result S EncodeError)
    → IfOk r (λ s. IsLowerConfidential code hrp version key program (bytes s)) → IfErr r (λ e. IsConfidentialEncodeRefusal version (length program) e)
    → (h t : List ℕ) → lowered h ≡ lowered hrp → IsConfidential code h version key program t → IsOkUnless r Memory × IfOk r (λ s. bytes s ≡ lowered t)
spelling-from_outcome code bytes hrp version key program (Ok s) is refused h t same a = (
  tt,
  one_text code hrp h (version ∷ to_fes (key ++ program)) (bytes s) a.lower (sym same) is.encoded a.address.encoded
      ∙ sym (lowered-address code version key program h t a),
)
spelling-from_outcome code bytes hrp version key program (Err e) is refused h t same a =
    (only_memory version (length program) e (record { version_is = a.address.version_is; program_length = a.address.program_length }) refused, tt)
