-- A text that was encoded is decoded to what it was encoded from.
use Rattle.std.proofs.Common.{◌≡◌, ◌≤◌, ◌<◌, ◌⊎◌, ◌++◌, ℕ, List, true, nat_lt, map, Err, length, ⊎_elim, refl, sym, ap, ◌∙◌, subst, arith}
use Rattle.std.proofs.lemmas.List.{length-map}
use Rattle.std.specs.Char.{to_ascii_lowercase}
use Rattle.std.specs.List.{list_all}
use Rattle.std.specs.Str.{IsUtf8}
use Rattle.bech32_bits.specs.Bits.{to_fes}
use Rattle.bech32_checksum.specs.Code.{Code, bech32, bech32m}
use Rattle.bech32_checksum.specs.Encoded.{char_of_element, spelled, IsEncodedText}
use Rattle.bech32_hrp.specs.Hrp.{IsHrp, lowered}
use Rattle.bech32_decode.specs.Acceptance.{IsDecoded}
use Rattle.bech32.specs.Refusals.{IsDecodeRefusal}
use Rattle.bech32_refusals.specs.declared.texts.DecodeError.{DecodeError}
use Rattle.bech32_refusals.specs.declared.texts.DecodeError.TheVariants.{Parse, Checksum as NoChecksumAccepts, Memory}
use Rattle.bech32.proofs.RoundTrip.{back-from_outcome, decoded-from_encoded}
use Rattle.bech32_decode.proofs.Spelling.{spelled-text}
use Rattle.bech32_encode.specs.Buffers.{IsPut}
use Rattle.bech32_calls.specs.Decode.{PutsDecoded, LacksRoom, IsDecodeFault}
use Rattle.bech32_calls.specs.declared.refusal.Refusal.{Refusal}
use Rattle.bech32_calls.specs.declared.refusal.Refusal.TheVariants.{NotUtf8, NoRoom, Text, Checksum}
use Rattle.bech32_calls.proofs.Letters.{IsUtf8-from_text}
use Rattle.bech32_calls.proofs.Puts.{put-same}

module _ (text part found : List ℕ) (is : IsHrp part) (below : list_all (λ b. nat_lt b 256) found ≡ true)
    (encoded : IsEncodedText bech32m part (to_fes found) text ⊎ IsEncodedText bech32 part (to_fes found) text) where
  parts : (p f : List ℕ) → IsDecoded text p f → (p ≡ lowered part) × (f ≡ found)
  parts p f d =
      ⊎_elim
      (λ (e : IsEncodedText bech32m part (to_fes found) text). decoded-from_encoded bech32m refl part found text p f is below e d)
      (λ (e : IsEncodedText bech32 part (to_fes found) text). decoded-from_encoded bech32 refl part found text p f is below e d)
      encoded

  utf8-by : (code : Code) → IsEncodedText code part (to_fes found) text → IsUtf8 text
  utf8-by code e =
      let all = to_fes found ++ e.checksum in
      subst IsUtf8 (sym e.spelling) (IsUtf8-from_text (spelled part all) (lowered part) (map char_of_element all) (spelled-text part all is))

  is_text : IsUtf8 text
  is_text = ⊎_elim (utf8-by bech32m) (utf8-by bech32) encoded

  no_refusal : (e : DecodeError) → length text ≤ 1023 → IsDecodeRefusal text e → e ≡ Memory
  no_refusal e short h = (back-from_outcome {V = List ℕ} (λ x. x) text is_text (Err e) tt h part found is below encoded short).0

  no_room_fault : (m n : ℕ) → length part ≤ m → length found ≤ n → LacksRoom text m n → ⊥
  no_room_fault m n part_fits found_fits h =
      let same = parts h.part h.found h.is_decoded in
      let a : length h.part ≡ length part = ap length same.0 ∙ length-map part to_ascii_lowercase in
      let b : length h.found ≡ length found = ap length same.1 in
      ⊎_elim (λ (over : m < length h.part). absurd (omega arith)) (λ (over : n < length h.found). absurd (omega arith)) h.lacks

  -- nothing is wrong with it
  pub no_back_fault : (m n : ℕ) (e : Refusal) → length text ≤ 1023 → length part ≤ m → length found ≤ n → IsDecodeFault text m n e → ⊥
  no_back_fault m n NotUtf8 short part_fits found_fits h = h is_text
  no_back_fault m n (Text e) short part_fits found_fits h = let same : Parse e ≡ Memory = no_refusal (Parse e) short h.1 in absurd (cc)
  no_back_fault m n (Checksum e) short part_fits found_fits h = let same : NoChecksumAccepts e ≡ Memory = no_refusal (NoChecksumAccepts e) short h.1 in absurd (cc)
  no_back_fault m n NoRoom short part_fits found_fits h = no_room_fault m n part_fits found_fits h
  no_back_fault m n _ short part_fits found_fits h = h

  -- and these parts are put
  pub put-back : (hrp hrp' bytes bytes' : List ℕ) (m n : ℕ) → PutsDecoded text hrp hrp' bytes bytes' m n → IsPut (lowered part) hrp hrp' m × IsPut found bytes bytes' n
  put-back hrp hrp' bytes bytes' m n p =
      let same = parts p.part p.found p.is_decoded in
      (put-same p.part (lowered part) hrp hrp' m m same.0 refl p.part_put, put-same p.found found bytes bytes' n n same.1 refl p.found_put)
