-- The secrets that texts give, and their payloads.
use Rattle.std.specs.Prelude.{IfErr, IfOk}
use Rattle.std.proofs.Common.{◌≡◌, ℕ, ◌+◌, ◌≤◌, ◌<◌, None, Result, Ok, Err, List, [], ◌∷◌, ◌++◌, length, refl, sym, ap, ◌∙◌, arith}
use Rattle.std.proofs.lemmas.List.{length-append, length-map}
use Rattle.bech32_bits.proofs.RoundTrip.{length-to_bytes}
use Rattle.bech32_bits.specs.Bits.{bytes_count, to_bytes}
use Rattle.bech32_checksum.specs.Encoded.{char_of_element}
use Rattle.bech32_decode.proofs.Grammar.{only-from_IsText}
use Rattle.bech32_gf.specs.Alphabet.{is_of_alphabet}
use Rattle.bech32_gf.specs.Fe32.{element_of, elements_of}
use Rattle.bech32_gf.specs.declared.gf32.Fe32.{Fe32}
use Rattle.bech32_hrp.specs.Hrp.{lowered}
use Rattle.codex32.specs.Code.{code_of_length}
use Rattle.codex32.specs.Derive.{IsStringOfSet, size_of}
use Rattle.codex32.specs.Share.{AreSharesOf, IsEither, IsShareOf, IsShareString, characters_of_share, identifier_of_share, index_of_share, payload_of_share, threshold_of_share}
use Rattle.codex32.specs.ShareParts.{bits_left_over}
use Rattle.codex32.specs.declared.header.Header.{Header}
use Rattle.codex32.specs.declared.identifier.Identifier.{Identifier}
use Rattle.codex32.specs.declared.share.Share.{Share}
use Rattle.codex32.specs.declared.threshold.Threshold.{Threshold}
use Rattle.codex32.proofs.ShareParts.{fits}
use Rattle.codex32.proofs.Refused.{lowered_ms}
use Rattle.codex32_calls.specs.Derive.{CanDerive, IsDeriveFault, LacksRoomForDerived, texts_of}
use Rattle.codex32_calls.specs.Encode.{share_index_number_fault}
use Rattle.codex32_calls.specs.Recover.{CanRecover, IsRecoverFault, IsSecretOf, PutsRecovered, payload_size_of, secret_character}
use Rattle.codex32_calls.specs.Share.{CanReadShare, IsShareFault, PutsPayload}
use Rattle.codex32_calls.specs.declared.refusal.Refusal.{Refusal}
use Rattle.codex32_calls.specs.declared.refusal.Refusal.TheVariants as refusals
use Rattle.codex32_calls.proofs.Accepted.{no_either_fault}
use Rattle.codex32_calls.proofs.SameShares.{length-same, no_derive_fault, same_shares, size-same}
use Rattle.codex32_calls.proofs.TextsInTurn.{never}

-- ---- how long a payload is

-- how many characters the checksum of a data part of n characters has
abbrev degree : ℕ → ℕ
degree n = length (code_of_length (3 + n)).generator

module _ (text : List ℕ) (t : Threshold) (i : Identifier) (x : Fe32) (payload : List ℕ) (is : IsShareString text t i x payload) where
  front-size : length is.front ≡ 6
  front-size =
      let all = ap (λ (es : List Fe32). length es) is.header in
      omega (arith, length-map is.front element_of, all, i.full, length-append i.elements (x ∷ []))

  hrp-size : length is.hrp ≡ 2
  hrp-size =
      let low = ap (λ (l : List ℕ). length l) (lowered_ms is.hrp is.is_ms) in
      omega (arith, low, length-lowered is.hrp)
    where
      length-lowered : (hrp : List ℕ) → length (lowered hrp) ≡ length hrp
      length-lowered hrp = length-map hrp _

  data-size : length (is.front ++ (payload ++ is.checksum)) ≡ 6 + (length payload + length (code_of_length (length text)).generator)
  data-size = omega (arith, front-size, is.checksum_length, length-append is.front (payload ++ is.checksum), length-append payload is.checksum)

  pub text-size : length text ≡ 3 + length (is.front ++ (payload ++ is.checksum))
  text-size =
      let split = ap (λ (l : List ℕ). length l) is.accepted.grammar.split in
      omega (arith, split, hrp-size, length-append is.hrp (49 ∷ (is.front ++ (payload ++ is.checksum))))

  -- of a string whose data part has n characters
  pub payload-size : (n : ℕ) → length text ≡ 3 + n → 6 + (length payload + degree n) ≡ n
  payload-size n e =
      let code : length (code_of_length (length text)).generator ≡ degree n = ap (λ (m : ℕ). length (code_of_length m).generator) e in
      omega (arith, e, code, data-size, text-size)

-- of a share
share-size : (text : List ℕ) (s : Share) → IsShareOf text s → 6 + (length (payload_of_share s) + degree (length (characters_of_share s))) ≡ length (characters_of_share s)
share-size text s of =
    let is = of.is_string in
    let same = (only-from_IsText text is.hrp (is.front ++ (payload_of_share s ++ is.checksum)) is.accepted.grammar of.hrp (characters_of_share s) of.is_text.split of.is_text.data_bytes).1 in
    let long = text-size text (threshold_of_share s) (identifier_of_share s) (index_of_share s) (payload_of_share s) is in
    let whole : length text ≡ 3 + length (characters_of_share s) = long ∙ ap (λ (l : List ℕ). 3 + length l) (sym same) in
    payload-size text (threshold_of_share s) (identifier_of_share s) (index_of_share s) (payload_of_share s) is (length (characters_of_share s)) whole

-- of the shares of texts
shares-size : (texts : List (List ℕ)) (ss : List Share) → AreSharesOf texts ss → 1 ≤ length ss → 6 + (payload_size_of ss + degree (size_of ss)) ≡ size_of ss
shares-size texts [] are some = absurd (omega (arith, some))
shares-size [] (s ∷ ss) are some = absurd are
shares-size (t ∷ ts) (s ∷ ss) are some = share-size t s are.0

-- ---- the secret

-- a string of a set
string-parts : (ss : List Share) (x : Fe32) (text : List ℕ) → IsStringOfSet ss x text → (t : Threshold) × (i : Identifier) × (payload : List ℕ) × IsShareString text t i x payload
string-parts [] x text h = absurd h
string-parts (s ∷ ss) x text h = (threshold_of_share s, identifier_of_share s, h.0, h.1)

some-shares : (ss : List Share) (x : Fe32) (text : List ℕ) → IsStringOfSet ss x text → 1 ≤ length ss
some-shares [] x text h = absurd h
some-shares (s ∷ ss) x text h = omega arith

module _ (texts lengths text : List ℕ) (secret : IsSecretOf texts lengths text) where
  pub either-from_secret : IsEither text
  either-from_secret =
      let (t, i, payload, is) = string-parts secret.is_text.shares (element_of secret_character) text secret.is_text.is_string in
      (t, i, element_of secret_character, payload, is)

  secret-size : length text ≡ 3 + size_of secret.is_text.shares
  secret-size =
      let long = ap (λ (l : List ℕ). length l) secret.is_text.is_derived.spelling in
      omega (arith, long, length-map secret.is_text.is_derived.elements char_of_element, secret.is_text.is_derived.given.size)

  -- its payload is as long as that of each share
  module _ (room : ℕ) (can : CanRecover texts lengths room) where
    payload-of_secret : (t : Threshold) (i : Identifier) (x : Fe32) (payload : List ℕ) → IsShareString text t i x payload → length payload ≡ payload_size_of can.shares
    payload-of_secret t i x payload string =
        let is = secret.is_text in
        let same = same_shares (texts_of texts lengths) can.shares is.shares can.are is.are in
        let size : size_of can.shares ≡ size_of is.shares = size-same can.shares is.shares same in
        let count : length can.shares ≡ length is.shares = length-same can.shares is.shares same in
        let some : 1 ≤ length can.shares = omega (arith, count, some-shares is.shares (element_of secret_character) text is.is_string) in
        let long : length text ≡ 3 + size_of can.shares = omega (arith, secret-size, size) in
        let of_text = payload-size text t i x payload string (size_of can.shares) long in
        let of_shares = shares-size (texts_of texts lengths) can.shares can.are some in
        omega (arith, of_text, of_shares)

    pub read-from_can : CanReadShare text room
    read-from_can =
        let (t, i, payload, string) = string-parts secret.is_text.shares (element_of secret_character) text secret.is_text.is_string in
        let header : Header = record { threshold = t; identifier = i; share_index = element_of secret_character; unshared = string.unshared } in
        let size : length payload ≡ payload_size_of can.shares = payload-of_secret t i (element_of secret_character) payload string in
        let left : bits_left_over (length payload) ≡ bits_left_over (payload_size_of can.shares) = ap bits_left_over size in
        let bytes : length (to_bytes (elements_of payload)) ≡ bytes_count 0 (payload_size_of can.shares) = length-to_bytes (elements_of payload) ∙ ap (λ (n : ℕ). bytes_count 0 n) (length-map payload element_of ∙ size) in
        record { header = header; payload = payload; is_string = string; holds = (omega (arith, left, can.few), omega (arith, bytes, can.fits)) }

-- ---- why none is given

-- `s` is of the alphabet
index_fine : share_index_number_fault secret_character ≡ None
unfolding is_of_alphabet
index_fine = refl

module _ (texts lengths : List ℕ) (room : ℕ) where
  short : (left : ℕ) → LacksRoomForDerived secret_character texts lengths left → left < 127
  short left h =
      let (t, i, payload, is) = string-parts h.is_text.shares (element_of secret_character) h.text h.is_text.is_string in
      omega (arith, (fits (length h.text) is.within).most, h.lacks)

  pub refused-from_derive : (e : Refusal) → ((left : ℕ) → IsDeriveFault secret_character texts lengths left e) → IsRecoverFault texts lengths room e
  refused-from_derive refusals.BadLengths h = h 0
  refused-from_derive (refusals.Header e) h = absurd (let k = sym index_fine ∙ (h 0).1 in cc)
  refused-from_derive refusals.NoRoom h = absurd (omega (arith, short 127 (h 127)))
  refused-from_derive (refusals.Payload e) h = absurd (never (refusals.Payload e) (λ t f. f) (texts_of texts lengths) (h 0).1)
  refused-from_derive refusals.NotUtf8 h = ((h 0).0.lengths_are, (h 0).1)
  refused-from_derive (refusals.Text e) h = ((h 0).0.lengths_are, (h 0).1)
  refused-from_derive refusals.InvalidCharacter h = ((h 0).0.lengths_are, (h 0).1)
  refused-from_derive refusals.MixedCase h = ((h 0).0.lengths_are, (h 0).1)
  refused-from_derive (refusals.Encode e) h = ((h 0).0.lengths_are, (h 0).1)
  refused-from_derive (refusals.Derive e) h = ((h 0).0.lengths_are, (h 0).1)
  refused-from_derive (refusals.Split e) h = ((h 0).0.lengths_are, (h 0).1)
  refused-from_derive refusals.NoNearest h = ((h 0).0.lengths_are, (h 0).1)

  -- of the secret's own string
  pub refused-from_bytes : (text : List ℕ) (e : Refusal) → IsSecretOf texts lengths text → IsShareFault text room e → IsRecoverFault texts lengths room e
  refused-from_bytes text (refusals.Payload e) secret h = record { text = text; is_secret = secret; has = h }
  refused-from_bytes text refusals.NoRoom secret h = record { text = text; is_secret = secret; has = h }
  refused-from_bytes text refusals.NotUtf8 secret h = absurd (no_either_fault text refusals.NotUtf8 (either-from_secret texts lengths text secret) h)
  refused-from_bytes text (refusals.Text e) secret h = absurd (no_either_fault text (refusals.Text e) (either-from_secret texts lengths text secret) h)
  refused-from_bytes text refusals.BadLengths secret h = absurd h
  refused-from_bytes text refusals.InvalidCharacter secret h = absurd h
  refused-from_bytes text refusals.MixedCase secret h = absurd h
  refused-from_bytes text (refusals.Header e) secret h = absurd h
  refused-from_bytes text (refusals.Encode e) secret h = absurd h
  refused-from_bytes text (refusals.Derive e) secret h = absurd h
  refused-from_bytes text (refusals.Split e) secret h = absurd h
  refused-from_bytes text refusals.NoNearest secret h = absurd h

  -- ---- its bytes

  module _ (text : List ℕ) (secret : IsSecretOf texts lengths text) (r : Result ℕ Refusal) where
    pub recovered-value : (old new : List ℕ) → IfOk r (λ n. (h : Header) × PutsPayload text h old new n) → IfOk r (PutsRecovered texts lengths old new)
    recovered-value old new h = go r h
      where
        go : (r : Result ℕ Refusal) → IfOk r (λ n. (h : Header) × PutsPayload text h old new n) → IfOk r (PutsRecovered texts lengths old new)
        go (Ok n) h = record { text = text; is_secret = secret; header = h.0; puts = h.1 }
        go (Err e) h = tt

    pub recovered-refused : IfErr r (λ e. IsShareFault text room e) → IfErr r (IsRecoverFault texts lengths room)
    recovered-refused h = go r h
      where
        go : (r : Result ℕ Refusal) → IfErr r (λ e. IsShareFault text room e) → IfErr r (IsRecoverFault texts lengths room)
        go (Ok n) h = tt
        go (Err e) h = refused-from_bytes text e secret h

  -- where a secret can be recovered, a string is derived
  pub derive-from_can : CanRecover texts lengths room → (left : ℕ) × CanDerive secret_character texts lengths left
  derive-from_can can = (
    3 + size_of can.shares,
    record {
      asked = record { lengths_are = can.lengths_are; index_is = index_fine };
      shares = can.shares;
      are = can.are;
      whole = can.whole;
      agree = can.agree;
      fits = omega arith;
    },
  )

  pub no_derive_refusal : (e : Refusal) → CanRecover texts lengths room → ((left : ℕ) → IsDeriveFault secret_character texts lengths left e) → ⊥
  no_derive_refusal e can h = let (left, derives) = derive-from_can can in no_derive_fault secret_character texts lengths left e derives (h left)
