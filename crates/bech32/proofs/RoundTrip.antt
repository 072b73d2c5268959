-- A text that was encoded is decoded to its human-readable part and its bytes.
use Rattle.std.proofs.Common.{◌≡◌, ◌≤◌, ◌⊎◌, ◌∙◌, ◌+◌, ◌-◌, ◌/◌, ◌++◌, ℕ, refl, true, nat_lt, List, [], ◌∷◌, Result, Ok, Err, map, length, length-append, take, sym, ap, subst, arith, inl, inr, ⊎_elim, IfOk, IfErr}
use Rattle.std.proofs.lemmas.List.{map-append, length-map, take_at}
use Rattle.std.specs.List.{list_all}
use Rattle.std.specs.Result.{IsOkUnless}
use Rattle.std.specs.Str.{IsUtf8}
use Rattle.bech32_gf.specs.Fe32 as fe32
use Rattle.bech32_gf.specs.Fe32.{ops, element_of, elements_of}
use Rattle.bech32_gf.specs.declared.gf32.Fe32.{Fe32}
use Rattle.bech32_poly.specs.Polynomial.{appended}
use Rattle.bech32_poly.specs.Remainder.{IsRemainder}
use Rattle.bech32_bits.specs.Bits.{to_bytes, to_fes}
use Rattle.bech32_checksum.specs.Code.{Code, bech32, bech32m}
use Rattle.bech32_checksum.specs.Encoded.{char_of_element, IsEncodedText}
use Rattle.bech32_hrp.specs.Hrp.{IsHrp, lowered}
use Rattle.bech32_hrp.specs.HrpBytes.{hrp_bytes}
use Rattle.bech32_checksum.specs.TextPolynomial.{text_polynomial}
use Rattle.bech32_hrp.specs.declared.Hrp.{Hrp}
use Rattle.bech32_bits.proofs.RoundTrip.{to_bytes-to_fes}
use Rattle.bech32_decode.specs.Acceptance.{IsAccepted, Accepts, IsDecoded}
use Rattle.bech32_decode.specs.Text.{IsText}
use Rattle.bech32.specs.Refusals.{IsDecodeRefusal}
use Rattle.bech32_refusals.specs.declared.texts.DecodeError.{DecodeError}
use Rattle.bech32_refusals.specs.declared.texts.DecodeError.TheVariants.{Memory}
use Rattle.bech32.proofs.Decoding.{decoded-from_refusal}
use Rattle.bech32_decode.proofs.Grammar.{only-from_IsText}
use Rattle.bech32_decode.proofs.Spelling.{IsSpelled, characters-elements, spelled-lower, spelled-text}

-- a text that is spelled as an encoded one, in whichever case, is accepted
pub accepted-from_spelled : (code : Code) (hrp : List ℕ) (fes : List Fe32) (text lower : List ℕ) → (e : IsEncodedText code hrp fes lower)
    → (s : IsSpelled text hrp (fes ++ e.checksum)) → length text ≤ code.code_length → IsAccepted code text s.part s.data_part
accepted-from_spelled code hrp fes text lower e s fits =
    let all : List Fe32 = fes ++ e.checksum in
    let count : length (elements_of s.data_part) ≡ length s.data_part = length-map s.data_part element_of in
    let same : length (elements_of s.data_part) ≡ length all = ap length s.elements in
    let both : length all ≡ length fes + length e.checksum = length-append fes e.checksum in
    let size : length e.checksum ≡ length code.generator = e.is_checksum.size in
    let p : text_polynomial hrp all ≡ text_polynomial s.part (elements_of s.data_part) =
    ap (λ (l : List ℕ). appended (fe32.one ∷ []) ((map (λ b. fe32.element (b / 32)) l ++ (fe32.zero ∷ map fe32.element l)) ++ all)) (sym s.same_part)
    ∙ ap (text_polynomial s.part) (sym s.elements) in
    record {
      grammar = s.grammar;
      text_length = fits;
      data_length = omega arith;
      has_target = subst (λ (q : List Fe32). IsRemainder ops code.generator q code.target) p e.is_checksum.has_target;
    }

-- the elements before the checksum are those that were encoded
before-encoded : (fes checksum : List Fe32) (n : ℕ) → length checksum ≡ n
    → elements_of (take (length (map char_of_element (fes ++ checksum)) - n) (map char_of_element (fes ++ checksum))) ≡ fes
before-encoded fes checksum n size =
    let front : List ℕ = map char_of_element fes in
    let behind : List ℕ = map char_of_element checksum in
    let whole : List ℕ = map char_of_element (fes ++ checksum) in
    let split : whole ≡ front ++ behind = map-append char_of_element fes checksum in
    let a : length front ≡ length fes = length-map fes char_of_element in
    let b : length behind ≡ length checksum = length-map checksum char_of_element in
    let sum : length whole ≡ length (front ++ behind) = ap length split in
    let both : length (front ++ behind) ≡ length front + length behind = length-append front behind in
    let at : length whole - n ≡ length front = omega arith in
    ap elements_of (ap (λ (k : ℕ). take k whole) at ∙ ap (take (length front)) split ∙ take_at front behind (length front) refl)
    ∙ characters-elements fes

grammar-from_decoded : (text hrp bytes : List ℕ) → (d : IsDecoded text hrp bytes) → IsText text hrp d.data_part
grammar-from_decoded text hrp bytes d =
    ⊎_elim (λ (a : IsAccepted bech32m text hrp d.data_part). a.grammar) (λ (a : IsAccepted bech32 text hrp d.data_part). a.grammar) d.accepted

pub decoded-from_encoded : (code : Code) → length code.generator ≡ 6 → (hrp bytes text part found : List ℕ) → IsHrp hrp → list_all (λ b. nat_lt b 256) bytes ≡ true
    → IsEncodedText code hrp (to_fes bytes) text → IsDecoded text part found → (part ≡ lowered hrp) × (found ≡ bytes)
decoded-from_encoded code degree hrp bytes text part found is below e d =
    let all : List Fe32 = to_fes bytes ++ e.checksum in
    let grammar : IsText text (lowered hrp) (map char_of_element all) =
    subst (λ (t : List ℕ). IsText t (lowered hrp) (map char_of_element all)) (sym e.spelling) (spelled-text hrp all is) in
    let of : IsText text part d.data_part = grammar-from_decoded text part found d in
    let same = only-from_IsText text (lowered hrp) (map char_of_element all) grammar part d.data_part of.split of.data_bytes in (
      same.0,
      d.bytes_are
          ∙ ap (λ (x : List ℕ). to_bytes (elements_of (take (length x - 6) x))) same.1
          ∙ ap to_bytes (before-encoded (to_fes bytes) e.checksum 6 (e.is_checksum.size ∙ degree))
          ∙ to_bytes-to_fes bytes below,
    )

accepts-from_encoded : (code : Code) (hrp : List ℕ) (fes : List Fe32) (text : List ℕ) → IsHrp hrp → IsEncodedText code hrp fes text → length text ≤ code.code_length → Accepts code text
accepts-from_encoded code hrp fes text is e fits =
    let s : IsSpelled text hrp (fes ++ e.checksum) = subst (λ (t : List ℕ). IsSpelled t hrp (fes ++ e.checksum)) (sym e.spelling) (spelled-lower hrp (fes ++ e.checksum) is) in
    (s.part, s.data_part, accepted-from_spelled code hrp fes text text e s fits)

-- what is decoded of it
parts-from_value : {V : Type 0} (items : V → List ℕ) (text : List ℕ) (r : Result (Hrp × V) DecodeError)
    → IfOk r (λ d. IsDecoded text (hrp_bytes d.0) (items d.1))
    → (hrp bytes : List ℕ) → IsHrp hrp → list_all (λ b. nat_lt b 256) bytes ≡ true
    → (IsEncodedText bech32m hrp (to_fes bytes) text ⊎ IsEncodedText bech32 hrp (to_fes bytes) text)
    → IfOk r (λ d. (hrp_bytes d.0 ≡ lowered hrp) × (items d.1 ≡ bytes))
parts-from_value items text (Ok d) value hrp bytes is below e =
    ⊎_elim
    (λ (a : IsEncodedText bech32m hrp (to_fes bytes) text). decoded-from_encoded bech32m refl hrp bytes text (hrp_bytes d.0) (items d.1) is below a value)
    (λ (a : IsEncodedText bech32 hrp (to_fes bytes) text). decoded-from_encoded bech32 refl hrp bytes text (hrp_bytes d.0) (items d.1) is below a value)
    e
parts-from_value items text (Err x) value hrp bytes is below e = tt

pub back-from_outcome : {V : Type 0} (items : V → List ℕ) (text : List ℕ) → IsUtf8 text → (r : Result (Hrp × V) DecodeError)
    → IfOk r (λ d. IsDecoded text (hrp_bytes d.0) (items d.1)) → IfErr r (λ e. IsDecodeRefusal text e)
    → (hrp bytes : List ℕ) → IsHrp hrp → list_all (λ b. nat_lt b 256) bytes ≡ true
    → (IsEncodedText bech32m hrp (to_fes bytes) text ⊎ IsEncodedText bech32 hrp (to_fes bytes) text) → length text ≤ 1023
    → IsOkUnless r Memory × IfOk r (λ d. (hrp_bytes d.0 ≡ lowered hrp) × (items d.1 ≡ bytes))
back-from_outcome items text u r value refused hrp bytes is below e fits = (
  decoded-from_refusal text u r refused
      (⊎_elim
      (λ (a : IsEncodedText bech32m hrp (to_fes bytes) text). inl (accepts-from_encoded bech32m hrp (to_fes bytes) text is a fits))
      (λ (a : IsEncodedText bech32 hrp (to_fes bytes) text). inr (accepts-from_encoded bech32 hrp (to_fes bytes) text is a fits))
      e),
  parts-from_value items text r value hrp bytes is below e,
)
