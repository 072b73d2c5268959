-- A text spells as many bytes whoever reads it, what is put of it, and nothing is wrong where these have room.
use Rattle.std.proofs.Common.{◌≡◌, ◌≤◌, ◌<◌, ◌⊎◌, ◌∙◌, ℕ, List, Result, Ok, Err, IfErr, IfOk, length, sym, ap, subst, arith, ⊎_elim}
use Rattle.std.proofs.lemmas.List.{length-map}
use Rattle.std.specs.Char.{to_ascii_lowercase}
use Rattle.bech32_gf.specs.Fe32.{elements_of}
use Rattle.bech32_bits.specs.Bits.{fes_count, to_bytes, to_fes}
use Rattle.bech32_bits.proofs.RoundTrip.{length-to_fes}
use Rattle.bech32_checksum.specs.Code.{Code}
use Rattle.bech32_hrp.specs.Hrp.{lowered}
use Rattle.bech32_decode.specs.Acceptance.{IsAccepted}
use Rattle.bech32_decode.specs.BeforeChecksum.{IsBeforeChecksum}
use Rattle.bech32_decode.specs.Refusals.{IsChecksumRefusal}
use Rattle.bech32_decode.specs.SegwitPadding.{IsPadded, IsPaddingRefusal}
use Rattle.bech32_decode.specs.Text.{IsText}
use Rattle.bech32_encode.specs.Buffers.{IsPut}
use Rattle.bech32_refusals.specs.declared.error.ChecksumError.{ChecksumError}
use Rattle.bech32_refusals.specs.declared.error.PaddingError.{PaddingError}
use Rattle.bech32_refusals.specs.declared.texts.TextError.TheVariants.{Parse, Checksum as NotAccepted, Padding as NotPadded, Memory}
use Rattle.bech32.proofs.Spellings.{decoded-from_strict, one_spelled, parts-from_spelling, spelled-from_padded}
use Rattle.bech32_calls.specs.Faults.{IsTextFault}
use Rattle.bech32_calls.specs.Strict.{CanDecodeStrict, IsStrictFault, LacksRoomForBytes, PutsStrict}
use Rattle.bech32_calls.specs.declared.refusal.Refusal.{Refusal}
use Rattle.bech32_calls.specs.declared.refusal.Refusal.TheVariants.{NotUtf8, NoRoom, Text, Checksum, Padding}
use Rattle.bech32_calls.proofs.Letters.{IsUtf8-from_text}

-- parts that are the same but for their case have one length
pub part-length : (part other : List ℕ) → lowered part ≡ lowered other → length part ≡ length other
part-length part other same = sym (length-map part to_ascii_lowercase) ∙ ap length same ∙ length-map other to_ascii_lowercase

-- ---- nothing is wrong

no_room_fault : (text : List ℕ) (m n : ℕ) (code : Code) → CanDecodeStrict text m n code → LacksRoomForBytes text m n code → ⊥
no_room_fault text m n code a b =
    let same = one_spelled code text a.part b.part (to_fes a.found) (to_fes b.found) a.is_hrp a.spelling b.is_hrp b.spelling in
    let part : length a.part ≡ length b.part = part-length a.part b.part same.0 in
    let all : length (to_fes a.found) ≡ length (to_fes b.found) = ap length same.1 in
    let some : length (to_fes a.found) ≡ fes_count 0 (length a.found) = length-to_fes a.found in
    let others : length (to_fes b.found) ≡ fes_count 0 (length b.found) = length-to_fes b.found in
    let found : length a.found ≡ length b.found = omega arith in
    let part_fits : length a.part ≤ m = a.part_fits in
    let found_fits : length a.found ≤ n = a.found_fits in
    ⊎_elim (λ (over : m < length b.part). absurd (omega arith)) (λ (over : n < length b.found). absurd (omega arith)) b.lacks

pub no_strict_fault : (text : List ℕ) (m n : ℕ) (code : Code) (e : Refusal) → CanDecodeStrict text m n code → IsStrictFault text m n code e → ⊥
no_strict_fault text m n code NotUtf8 a h =
    let p = parts-from_spelling code text a.part (to_fes a.found) a.is_hrp a.spelling in
    h (IsUtf8-from_text text p.part p.data_part p.accepted.grammar)
no_strict_fault text m n code (Text e) a h =
    let same : Parse e ≡ Memory = decoded-from_strict {D = ℕ} code text h.0 (Err (Parse e)) h.1 (a.part, a.found, a.is_hrp, a.spelling) in absurd (cc)
no_strict_fault text m n code (Checksum e) a h =
    let same : NotAccepted e ≡ Memory = decoded-from_strict {D = ℕ} code text h.0 (Err (NotAccepted e)) h.1 (a.part, a.found, a.is_hrp, a.spelling) in absurd (cc)
no_strict_fault text m n code (Padding e) a h =
    let same : NotPadded e ≡ Memory = decoded-from_strict {D = ℕ} code text h.0 (Err (NotPadded e)) h.1 (a.part, a.found, a.is_hrp, a.spelling) in absurd (cc)
no_strict_fault text m n code NoRoom a h = no_room_fault text m n code a h
no_strict_fault text m n code _ a h = h

-- ---- what is put

module _ (text part data_part characters : List ℕ) (code : Code) (a : IsAccepted code text part data_part) (before : IsBeforeChecksum code data_part characters)
    (p : IsPadded (elements_of characters)) where
  -- the parts that were put are those of the text
  pub puts_strict : (hrp hrp' bytes bytes' : List ℕ) (r : Result (ℕ × ℕ) Refusal)
      → IfOk r (λ n. IsPut part hrp hrp' n.0 × IsPut (to_bytes (elements_of characters)) bytes bytes' n.1)
      → IfOk r (λ n. PutsStrict text hrp hrp' bytes bytes' n.0 n.1 code)
  puts_strict hrp hrp' bytes bytes' (Ok n) h = record {
    part = part;
    found = to_bytes (elements_of characters);
    spelled = spelled-from_padded code text part data_part characters a before p;
    part_put = h.0;
    found_put = h.1;
  }
  puts_strict hrp hrp' bytes bytes' (Err e) h = tt

  -- or there is no room for them
  pub strict_lacks : (m n : ℕ) (r : Result (ℕ × ℕ) Refusal)
      → IfErr r (λ e. (e ≡ NoRoom) × ((m < length part) ⊎ (n < length (to_bytes (elements_of characters)))))
      → IfErr r (λ e. IsStrictFault text m n code e)
  strict_lacks m n (Ok k) h = tt
  strict_lacks m n (Err e) h = subst (λ (x : Refusal). IsStrictFault text m n code x) (sym h.0)
      (record {
        part = part;
        found = to_bytes (elements_of characters);
        is_hrp = a.grammar.is_hrp;
        spelling = (spelled-from_padded code text part data_part characters a before p).spelling;
        lacks = h.1;
      })

-- ---- why nothing is

-- why a text is not read is why it is not decoded
pub unread_strict : (text : List ℕ) (m n : ℕ) (code : Code) (e : Refusal) → IsTextFault text e → IsStrictFault text m n code e
unread_strict text m n code NotUtf8 h = h
unread_strict text m n code (Text e) h = h
unread_strict text m n code _ h = absurd h

-- why a checksum does not accept a text of the grammar
pub refused_strict : (text hrp data_part : List ℕ) (m n : ℕ) (code : Code) (e : ChecksumError) → IsText text hrp data_part
    → IsChecksumRefusal code (length text) hrp data_part e → IsStrictFault text m n code (Checksum e)
refused_strict text hrp data_part m n code e is refusal =
    (IsUtf8-from_text text hrp data_part is, record { hrp = hrp; data_part = data_part; grammar = is; refusal = refusal })

-- why an accepted text is not the only one of its bytes
pub unpadded_strict : (text hrp data_part characters : List ℕ) (m n : ℕ) (code : Code) (e : PaddingError) → IsAccepted code text hrp data_part
    → IsBeforeChecksum code data_part characters → IsPaddingRefusal (elements_of characters) e → IsStrictFault text m n code (Padding e)
unpadded_strict text hrp data_part characters m n code e a before refusal = (
  IsUtf8-from_text text hrp data_part a.grammar,
  record {
    hrp = hrp;
    data_part = data_part;
    accepted = a;
    characters = characters;
    before = before;
    refusal = refusal;
  },
)
