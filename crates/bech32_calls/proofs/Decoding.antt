-- A text is decoded in one way, what is put of it, and nothing is wrong where its parts have room.
use Rattle.std.proofs.Common.{◌≡◌, ◌≤◌, ◌<◌, ◌⊎◌, ◌-◌, ℕ, List, Result, Ok, Err, IfErr, IfOk, length, take, inl, inr, ⊎_elim, sym, ap, ◌∙◌, subst, arith}
use Rattle.std.specs.Str.{IsUtf8}
use Rattle.bech32_gf.specs.Fe32.{elements_of}
use Rattle.bech32_bits.specs.Bits.{to_bytes}
use Rattle.bech32_checksum.specs.Code.{bech32, bech32m}
use Rattle.bech32_decode.specs.Acceptance.{Accepts, IsAccepted, IsAcceptedByEither, IsDecoded}
use Rattle.bech32_decode.specs.BeforeChecksum.{IsBeforeChecksum}
use Rattle.bech32_decode.specs.Refusals.{IsRefusedByBoth}
use Rattle.bech32.specs.Refusals.{IsDecodeRefusal}
use Rattle.bech32_decode.specs.Text.{IsText}
use Rattle.bech32_refusals.specs.declared.texts.DecodeError.{DecodeError}
use Rattle.bech32_refusals.specs.declared.texts.DecodeError.TheVariants.{Parse, Checksum as NoChecksumAccepts, Memory}
use Rattle.bech32.proofs.Decoding.{decoded-from_refusal}
use Rattle.bech32_decode.proofs.Decoding.{before_checksum}
use Rattle.bech32_decode.proofs.Grammar.{only-from_IsText}
use Rattle.bech32_encode.specs.Buffers.{IsPut}
use Rattle.bech32_refusals.specs.declared.error.ChecksumError.{ChecksumError}
use Rattle.bech32_calls.specs.Faults.{IsTextFault}
use Rattle.bech32_calls.specs.Decode.{CanDecode, LacksRoom, IsDecodeFault, IsReadFault, PutsDecoded}
use Rattle.bech32_calls.specs.declared.refusal.Refusal.{Refusal}
use Rattle.bech32_calls.specs.declared.refusal.Refusal.TheVariants.{NotUtf8, NoRoom, Text, Checksum}
use Rattle.bech32_calls.proofs.Letters.{IsUtf8-from_text}

grammar-from_decoded : (text hrp bytes : List ℕ) (d : IsDecoded text hrp bytes) → IsText text hrp d.data_part
grammar-from_decoded text hrp bytes d =
    ⊎_elim (λ (a : IsAccepted bech32m text hrp d.data_part). a.grammar) (λ (a : IsAccepted bech32 text hrp d.data_part). a.grammar) d.accepted

-- there is one human-readable part, and the bytes are the same
pub one_decoding : (text hrp bytes hrp' bytes' : List ℕ) → IsDecoded text hrp bytes → IsDecoded text hrp' bytes' → (hrp ≡ hrp') × (bytes ≡ bytes')
one_decoding text hrp bytes hrp' bytes' a b =
    let here = grammar-from_decoded text hrp bytes a in
    let there = grammar-from_decoded text hrp' bytes' b in
    let same = only-from_IsText text hrp' b.data_part there hrp a.data_part here.split here.data_bytes in (
      same.0,
      a.bytes_are ∙ ap (λ (d : List ℕ). to_bytes (elements_of (take (length d - 6) d))) same.1 ∙ sym b.bytes_are,
    )

accepts-from_decoded : (text hrp bytes : List ℕ) → IsDecoded text hrp bytes → Accepts bech32m text ⊎ Accepts bech32 text
accepts-from_decoded text hrp bytes d =
    ⊎_elim (λ (a : IsAccepted bech32m text hrp d.data_part). inl (hrp, d.data_part, a)) (λ (a : IsAccepted bech32 text hrp d.data_part). inr (hrp, d.data_part, a)) d.accepted

no_refusal : (text hrp bytes : List ℕ) (e : DecodeError) → IsUtf8 text → IsDecoded text hrp bytes → IsDecodeRefusal text e → e ≡ Memory
no_refusal text hrp bytes e u d h = decoded-from_refusal {D = ℕ} text u (Err e) h (accepts-from_decoded text hrp bytes d)

no_room_fault : (text : List ℕ) (m n : ℕ) → CanDecode text m n → LacksRoom text m n → ⊥
no_room_fault text m n a b =
    let same = one_decoding text a.part a.found b.part b.found a.is_decoded b.is_decoded in
    let part : length a.part ≡ length b.part = ap length same.0 in
    let found : length a.found ≡ length b.found = ap length same.1 in
    let part_fits : length a.part ≤ m = a.part_fits in
    let found_fits : length a.found ≤ n = a.found_fits in
    ⊎_elim (λ (over : m < length b.part). absurd (omega arith)) (λ (over : n < length b.found). absurd (omega arith)) b.lacks

pub no_decode_fault : (text : List ℕ) (m n : ℕ) (e : Refusal) → CanDecode text m n → IsDecodeFault text m n e → ⊥
no_decode_fault text m n NotUtf8 a h = h (IsUtf8-from_text text a.part _ (grammar-from_decoded text a.part a.found a.is_decoded))
no_decode_fault text m n (Text e) a h = let same : Parse e ≡ Memory = no_refusal text a.part a.found (Parse e) h.0 a.is_decoded h.1 in absurd (cc)
no_decode_fault text m n (Checksum e) a h =
    let same : NoChecksumAccepts e ≡ Memory = no_refusal text a.part a.found (NoChecksumAccepts e) h.0 a.is_decoded h.1 in absurd (cc)
no_decode_fault text m n NoRoom a h = no_room_fault text m n a h
no_decode_fault text m n _ a h = h

-- nothing is wrong with a text that a checksum accepts
pub no_read_fault : (text : List ℕ) (e : Refusal) → IsAcceptedByEither text → IsReadFault text e → ⊥
no_read_fault text NotUtf8 (inl a) h = h (IsUtf8-from_text text a.0 a.1 a.2.grammar)
no_read_fault text NotUtf8 (inr a) h = h (IsUtf8-from_text text a.0 a.1 a.2.grammar)
no_read_fault text (Text e) a h = let same : Parse e ≡ Memory = decoded-from_refusal {D = ℕ} text h.0 (Err (Parse e)) h.1 a in absurd (cc)
no_read_fault text (Checksum e) a h = let same : NoChecksumAccepts e ≡ Memory = decoded-from_refusal {D = ℕ} text h.0 (Err (NoChecksumAccepts e)) h.1 a in absurd (cc)
no_read_fault text _ a h = h

-- ---- what is put

module _ (text part data_part characters : List ℕ) (a : IsAccepted bech32m text part data_part ⊎ IsAccepted bech32 text part data_part)
    (before : IsBeforeChecksum bech32m data_part characters) where
  is_decoded : IsDecoded text part (to_bytes (elements_of characters))
  is_decoded = record { data_part = data_part; accepted = a; bytes_are = ap (λ (x : List ℕ). to_bytes (elements_of x)) (before_checksum bech32m data_part characters before) }

  -- the parts that were put are those of the text
  pub puts_decoded : (hrp hrp' bytes bytes' : List ℕ) (r : Result (ℕ × ℕ) Refusal)
      → IfOk r (λ n. IsPut part hrp hrp' n.0 × IsPut (to_bytes (elements_of characters)) bytes bytes' n.1)
      → IfOk r (λ n. PutsDecoded text hrp hrp' bytes bytes' n.0 n.1)
  puts_decoded hrp hrp' bytes bytes' (Ok n) h = record { part = part; found = to_bytes (elements_of characters); is_decoded = is_decoded; part_put = h.0; found_put = h.1 }
  puts_decoded hrp hrp' bytes bytes' (Err e) h = tt

  -- or there is no room for them
  pub decoded_lacks : (m n : ℕ) (r : Result (ℕ × ℕ) Refusal)
      → IfErr r (λ e. (e ≡ NoRoom) × ((m < length part) ⊎ (n < length (to_bytes (elements_of characters)))))
      → IfErr r (λ e. IsDecodeFault text m n e)
  decoded_lacks m n (Ok k) h = tt
  decoded_lacks m n (Err e) h = subst (λ (x : Refusal). IsDecodeFault text m n x) (sym h.0)
      (record { part = part; found = to_bytes (elements_of characters); is_decoded = is_decoded; lacks = h.1 })

-- why a text that was read is not decoded
pub refused_either : (text : List ℕ) (e : ChecksumError) → IsRefusedByBoth text e → IsReadFault text (Checksum e)
refused_either text e r = (IsUtf8-from_text text r.hrp r.data_part r.grammar, r)

-- why a text is not read is why no checksum accepts it
pub unread_read : (text : List ℕ) (e : Refusal) → IsTextFault text e → IsReadFault text e
unread_read text NotUtf8 h = h
unread_read text (Text e) h = h
unread_read text _ h = absurd h

-- and why it is not decoded
pub unread_decode : (text : List ℕ) (m n : ℕ) (e : Refusal) → IsTextFault text e → IsDecodeFault text m n e
unread_decode text m n NotUtf8 h = h
unread_decode text m n (Text e) h = h
unread_decode text m n _ h = absurd h
