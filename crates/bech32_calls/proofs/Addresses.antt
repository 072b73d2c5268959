-- An address has parts of one length, what is put of it, and nothing is wrong where they have room.
use Rattle.std.proofs.Common.{◌≡◌, ◌≤◌, ◌<◌, ◌⊎◌, ◌+◌, ◌/◌, ◌*◌, ◌++◌, ℕ, List, ◌∷◌, Ok, Err, length, length-append, map, inl, inr, ⊎_elim, refl, sym, ap, ◌∙◌, subst, arith}
use Rattle.std.proofs.lemmas.List.{length-map}
use Rattle.std.specs.Char.{to_ascii_lowercase, to_ascii_uppercase}
use Rattle.bech32_gf.specs.Fe32.{element, element_of, elements_of}
use Rattle.bech32_gf.specs.declared.gf32.Fe32.{Fe32}
use Rattle.bech32_bits.specs.Bits.{to_bytes, to_fes, fes_count}
use Rattle.bech32_checksum.specs.Encoded.{IsEncodedText}
use Rattle.bech32_hrp.specs.Hrp.{IsHrp, lowered}
use Rattle.bech32_bits.proofs.RoundTrip.{length-to_fes}
use Rattle.bech32_decode.specs.Segwit.{segwit_code, IsAddress, IsAddressRefusal}
use Rattle.bech32_decode.specs.SegwitParts.{IsReadIn}
use Rattle.bech32_segwit.specs.SegwitEncoding.{HasAddress, address_length, IsSegwitEncodeRefusal}
use Rattle.bech32_decode.specs.Text.{IsText}
use Rattle.bech32_segwit.specs.declared.error.EncodeError.{EncodeError}
use Rattle.bech32_segwit.specs.declared.error.EncodeError.TheVariants.{Memory}
use Rattle.bech32_decode.proofs.Addresses.{address-from_parts, parts-from_address, not_refused, short}
use Rattle.bech32_decode.proofs.Grammar.{only-from_IsText}
use Rattle.bech32_refusals.specs.declared.error.SegwitHrpstringError.{SegwitHrpstringError}
use Rattle.bech32_segwit.proofs.SegwitEncoding.{exists-from_outcome, one_spelling, spelling-from_outcome}
use Rattle.bech32_decode.proofs.Spelling.{IsSpelled, spelled-lower, spelled-raised}
use Rattle.bech32_checksum.proofs.Uniqueness.{in_other_case, length-encoded}
use Rattle.bech32_encode.specs.Buffers.{IsPut}
use Rattle.bech32_calls.specs.Segwit.{PutsAddress, HasRoomFor, IsAddressFault, IsSegwitEncodeFault, CanDecodeAddress, LacksRoomFor, IsSegwitDecodeFault, PutsProgram}
use Rattle.bech32_calls.specs.declared.refusal.Refusal.{Refusal}
use Rattle.bech32_calls.specs.Faults.{IsTextFault}
use Rattle.bech32_calls.specs.declared.refusal.Refusal.TheVariants.{NotUtf8, NoRoom, NoAddress, Text, Address}
use Rattle.bech32_refusals.specs.declared.error.SegwitHrpstringError.TheVariants.{Unchecked}
use Rattle.bech32_refusals.specs.declared.error.UncheckedHrpstringError.{UncheckedHrpstringError}
use Rattle.bech32_calls.proofs.Letters.{IsUtf8-from_text, no_part_fault}
use Rattle.bech32_calls.proofs.Puts.{put-same}
use Rattle.bech32_refusals.specs.SegwitRules.{max_address_length}

-- ---- encoding

no_refusal : (hrp : List ℕ) (version : Fe32) (program : List ℕ) (e : EncodeError) → HasAddress hrp version program → IsSegwitEncodeRefusal hrp version program e → e ≡ Memory
no_refusal hrp version program e a h = exists-from_outcome {S = ℕ} hrp version program (Err e) h a

no_address_fault : (hrp : List ℕ) (version : Fe32) (program : List ℕ) (room : ℕ) (e : Refusal) → HasAddress hrp version program → address_length hrp program ≤ room
    → IsAddressFault hrp version program room e → ⊥
no_address_fault hrp version program room (NoAddress e) a r h = h.1 (no_refusal hrp version program e a h.0)
no_address_fault hrp version program room NoRoom a r h = let over : room < address_length hrp program = h.1 in absurd (omega arith)
no_address_fault hrp version program room _ a r h = h

pub no_segwit_encode_fault : (hrp : List ℕ) (version : ℕ) (program : List ℕ) (room : ℕ) (e : Refusal) → HasRoomFor hrp version program room
    → IsSegwitEncodeFault hrp version program room e → ⊥
no_segwit_encode_fault hrp version program room e a (inl h) = let over : 31 < version = h.0 in let small : version ≤ 31 = a.small in absurd (omega arith)
no_segwit_encode_fault hrp version program room e a (inr (small, inl h)) = no_part_fault hrp e a.is_hrp h
no_segwit_encode_fault hrp version program room e a (inr (small, inr h)) = no_address_fault hrp (element version) program room e a.exists a.has_room h.1

-- where it is the address in whichever case of a human-readable part in whichever case, there is one
pub room-from_address : (hrp : List ℕ) (version : ℕ) (program : List ℕ) (room : ℕ) (h t : List ℕ) → lowered h ≡ lowered hrp → IsAddress h (element version) program t
    → IsHrp hrp → version ≤ 31 → length t ≤ room → HasRoomFor hrp version program room
room-from_address hrp version program room h t same a is small fits =
    let v = element version in
    let code = segwit_code v in
    let encoded = in_other_case code h hrp (v ∷ to_fes program) a.lower same a.address.encoded in
    let size : length a.lower ≡ length hrp + 1 + length (v ∷ to_fes program) + length code.generator = length-encoded code hrp (v ∷ to_fes program) a.lower encoded in
    let six : length code.generator ≡ 6 = short v in
    let whole : length t ≡ length a.lower =
    ⊎_elim (λ (e : t ≡ a.lower). ap length e) (λ (e : t ≡ map to_ascii_uppercase a.lower). ap length e ∙ length-map a.lower to_ascii_uppercase) a.in_one_case in
    record {
      is_hrp = is;
      small = small;
      exists = (
        a.lower,
        record { version_fits = a.address.version_fits; program_length = a.address.program_length; text_length = a.address.text_length; encoded = encoded },
      );
      has_room = omega arith;
    }

-- and it was put in lower case
pub put-spelling : (hrp : List ℕ) (version : ℕ) (program old new : List ℕ) (count : ℕ) (h t : List ℕ) → lowered h ≡ lowered hrp → IsAddress h (element version) program t
    → PutsAddress hrp version program old new count → IsPut (lowered t) old new count
put-spelling hrp version program old new count h t same a p =
    put-same p.text (lowered t) old new count count
    (spelling-from_outcome {S = List ℕ} (λ x. x) hrp (element version) program (Ok p.text) p.is_address tt h t same a).1 refl p.put

-- ---- decoding

-- where an address stands in a text
record StandsIn (text hrp program : List ℕ) : Type 0 where
  part : List ℕ
  data_part : List ℕ
  grammar : IsText text part data_part
  part_length : length part ≡ length hrp
  data_length : length data_part ≡ fes_count 0 (length program) + 7

stands-from_spelled : (text hrp : List ℕ) (version : Fe32) (program lower : List ℕ) (e : IsEncodedText (segwit_code version) hrp (version ∷ to_fes program) lower)
    → IsSpelled text hrp ((version ∷ to_fes program) ++ e.checksum) → StandsIn text hrp program
stands-from_spelled text hrp version program lower e s =
    let fes : List Fe32 = (version ∷ to_fes program) ++ e.checksum in
    let a : length (lowered s.part) ≡ length s.part = length-map s.part to_ascii_lowercase in
    let b : length (lowered hrp) ≡ length hrp = length-map hrp to_ascii_lowercase in
    let same : length (lowered s.part) ≡ length (lowered hrp) = ap length s.same_part in
    let count : length (elements_of s.data_part) ≡ length s.data_part = length-map s.data_part element_of in
    let count' : length (elements_of s.data_part) ≡ length fes = ap length s.elements in
    let both : length fes ≡ length (version ∷ to_fes program) + length e.checksum = length-append (version ∷ to_fes program) e.checksum in
    let sum : length e.checksum ≡ length (segwit_code version).generator = e.is_checksum.size in
    let six : length (segwit_code version).generator ≡ 6 = short version in
    let elements : length (to_fes program) ≡ fes_count 0 (length program) = length-to_fes program in
    record { part = s.part; data_part = s.data_part; grammar = s.grammar; part_length = omega arith; data_length = omega arith }

stands : (text hrp : List ℕ) (version : Fe32) (program : List ℕ) → IsHrp hrp → IsAddress hrp version program text → StandsIn text hrp program
stands text hrp version program is a =
    let e = a.address.encoded in
    let fes : List Fe32 = (version ∷ to_fes program) ++ e.checksum in
    stands-from_spelled text hrp version program a.lower e
    (⊎_elim
    (λ (same : text ≡ a.lower). subst (λ (t : List ℕ). IsSpelled t hrp fes) (sym (same ∙ e.spelling)) (spelled-lower hrp fes is))
    (λ (same : text ≡ map to_ascii_uppercase a.lower). subst (λ (t : List ℕ). IsSpelled t hrp fes) (sym (same ∙ ap (map to_ascii_uppercase) e.spelling)) (spelled-raised hrp fes is))
    a.in_one_case)

-- two addresses of one text have parts of the same lengths
same_lengths : (text hrp hrp' program program' : List ℕ) → StandsIn text hrp program → StandsIn text hrp' program' → (length hrp ≡ length hrp') × (length program ≡ length program')
same_lengths text hrp hrp' program program' a b =
    let same = only-from_IsText text b.part b.data_part b.grammar a.part a.data_part a.grammar.split a.grammar.data_bytes in
    let part : length a.part ≡ length b.part = ap length same.0 in
    let data_part : length a.data_part ≡ length b.data_part = ap length same.1 in
    let here = a.part_length in
    let there = b.part_length in
    let here' : length a.data_part ≡ (8 * length program + 0 + 4) / 5 + 7 = a.data_length in
    let there' : length b.data_part ≡ (8 * length program' + 0 + 4) / 5 + 7 = b.data_length in
    (omega arith, omega arith)

no_room_fault : (text : List ℕ) (m n : ℕ) → CanDecodeAddress text m n → LacksRoomFor text m n → ⊥
no_room_fault text m n a b =
    let same =
    same_lengths text a.part b.part a.found b.found (stands text a.part a.version a.found a.is_hrp a.is_address) (stands text b.part b.version b.found b.is_hrp b.is_address) in
    let part = same.0 in
    let found = same.1 in
    let part_fits : length a.part ≤ m = a.part_fits in
    let found_fits : length a.found ≤ n = a.found_fits in
    ⊎_elim (λ (over : m < length b.part). absurd (omega arith)) (λ (over : n < length b.found). absurd (omega arith)) b.lacks

pub no_segwit_decode_fault : (text : List ℕ) (m n : ℕ) (e : Refusal) → CanDecodeAddress text m n → IsSegwitDecodeFault text m n e → ⊥
no_segwit_decode_fault text m n NotUtf8 a h =
    let at = stands text a.part a.version a.found a.is_hrp a.is_address in h (IsUtf8-from_text text at.part at.data_part at.grammar)
no_segwit_decode_fault text m n (Address e) a h = not_refused text (parts-from_address text (a.part, a.version, a.found, a.is_hrp, a.is_address)) e h.0 h.1
no_segwit_decode_fault text m n NoRoom a h = no_room_fault text m n a h
no_segwit_decode_fault text m n _ a h = h

-- ---- what is put

module _ (text part : List ℕ) (v : Fe32) (characters : List ℕ) (h : IsReadIn segwit_code text part v characters) where
  -- the parts that were put are those of the text
  pub puts_program : (hrp hrp' program program' : List ℕ) (m version n : ℕ) → version ≡ v.value
      → IsPut part hrp hrp' m × IsPut (to_bytes (elements_of characters)) program program' n
      → PutsProgram text hrp hrp' program program' m version n
  puts_program hrp hrp' program program' m version n version_is put =
      let found : List ℕ = to_bytes (elements_of characters) in
      let is : IsAddress part v found text = address-from_parts text part v characters h in
      record {
        part = part;
        witness_version = v;
        found = found;
        is_hrp = h.accepted.grammar.is_hrp;
        has_part = (h.data_part, h.accepted.grammar);
        is_address = is;
        spelling = λ x t same a. one_spelling x part v found t text same a is;
        part_put = put.0;
        version_is = version_is;
        found_put = put.1;
      }

  -- or there is no room for them
  pub program_lacks : (m n : ℕ) (e : Refusal) → (e ≡ NoRoom) × ((m < length part) ⊎ (n < length (to_bytes (elements_of characters)))) → IsSegwitDecodeFault text m n e
  program_lacks m n e lack = subst (λ (x : Refusal). IsSegwitDecodeFault text m n x) (sym lack.0) (record {
    part = part;
    version = v;
    found = to_bytes (elements_of characters);
    is_hrp = h.accepted.grammar.is_hrp;
    is_address = address-from_parts text part v characters h;
    lacks = lack.1;
  })

-- why a text of the grammar is no address
pub refused_address : (text hrp data_part : List ℕ) (m n : ℕ) (e : SegwitHrpstringError) → IsText text hrp data_part → length text ≤ max_address_length → IsAddressRefusal segwit_code text e
    → IsSegwitDecodeFault text m n (Address e)
refused_address text hrp data_part m n e is few refusal = (IsUtf8-from_text text hrp data_part is, inr (few, refusal))

-- why a text is not read is why it is no address
pub unread_address : (text : List ℕ) (m n : ℕ) (e : UncheckedHrpstringError) → length text ≤ max_address_length → IsTextFault text (Text e) → IsSegwitDecodeFault text m n (Address (Unchecked e))
unread_address text m n e few h = (h.0, inr (few, inl (record { error = e; is = refl; refusal = h.1 })))
