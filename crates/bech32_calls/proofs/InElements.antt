-- A text spells its elements, which are put into buffers or encoded, and nothing is wrong where there is room.
use Rattle.std.proofs.Common.{◌≡◌, ◌≢◌, ◌≤◌, ◌<◌, ◌⊎◌, ◌∙◌, ◌+◌, ◌^◌, ◌++◌, ℕ, List, None, Some, Result, Ok, Err, IfErr, IfOk, inl, inr, length, map, drop, refl, sym, ap, subst, arith, ⊎_elim}
use Rattle.std.proofs.lemmas.List.{length-map}
use Rattle.bech32_gf.specs.Fe32.{element, element_of, elements_of, value}
use Rattle.bech32_checksum.specs.Code.{Code}
use Rattle.bech32_checksum.specs.Encoded.{IsEncodedText}
use Rattle.bech32_checksum.proofs.Uniqueness.{length-encoded}
use Rattle.bech32_hrp.specs.Hrp.{IsHrp}
use Rattle.bech32_hrp.specs.declared.Error.{Error as HrpError}
use Rattle.bech32_hrp.specs.declared.Error.TheVariants.{Empty, TooLong as LongPart, NonAsciiChar, InvalidAsciiByte, MixedCase, Fmt}
use Rattle.bech32_decode.specs.Acceptance.{Accepts, IsAccepted}
use Rattle.bech32_decode.specs.BeforeChecksum.{IsBeforeChecksum}
use Rattle.bech32_decode.specs.Refusals.{IsChecksumRefusal}
use Rattle.bech32_decode.specs.Text.{IsText}
use Rattle.bech32_encode.specs.Buffers.{IsPut, IsPutAsFits}
use Rattle.bech32_encode.specs.TextLength.{encoded_length_of}
use Rattle.bech32_encode.proofs.TextPieces.{put_whole}
use Rattle.bech32_numbers.specs.Numbers.{number_of_hrp_error}
use Rattle.bech32_refusals.specs.declared.error.ChecksumError.{ChecksumError}
use Rattle.bech32.specs.Elements.{AreValues, Fits, elements_in, first_above}
use Rattle.bech32.specs.Spelling.{IsSpelledBy}
use Rattle.bech32_refusals.specs.declared.texts.TextError.TheVariants.{Parse, Checksum as NotAccepted, Memory}
use Rattle.bech32.proofs.Spellings.{one_spelled, parts-from_spelling}
use Rattle.bech32.proofs.Values.{are_values, decoded-from_elements, none-from_values, spelled-from_values}
use Rattle.bech32_calls.specs.Checksums.{IsFaultOfTexts}
use Rattle.bech32_calls.specs.Elements.{CanDecodeElements, HasElementsText, IsElementsEncodeFault, IsElementsFault, IsValuesFault, LacksRoomForElements, PutsElements, PutsElementsText, element_place}
use Rattle.bech32_calls.specs.Faults.{IsPartFault, IsTextFault}
use Rattle.bech32_calls.specs.Numbers.{number_of}
use Rattle.bech32_calls.specs.declared.refusal.Refusal.{Refusal}
use Rattle.bech32_calls.specs.declared.refusal.Refusal.TheVariants.{NotUtf8, NoRoom, Text, Checksum, Hrp, TooLong, BadElement}
use Rattle.bech32_calls.proofs.ByNumber.{from_fault_of_texts}
use Rattle.bech32_calls.proofs.Letters.{IsUtf8-from_text, no_part_fault}
use Rattle.bech32_calls.proofs.OneSpelling.{part-length}

abbrev values_of : List ℕ → List ℕ
values_of characters = map value (elements_of characters)

length-values_of : (characters : List ℕ) → length (values_of characters) ≡ length characters
length-values_of characters = length-map (elements_of characters) value ∙ length-map characters element_of

-- the elements of characters at the front of a buffer
pub values_put : (characters old new : List ℕ) (count : ℕ) → length characters ≤ length old → count ≡ length characters
    → new ≡ values_of characters ++ drop (length characters) old → IsPut (values_of characters) old new count
values_put characters old new count room is made =
    let size : length (values_of characters) ≡ length characters = length-values_of characters in
    record {
      fits = omega arith;
      buffer = made ∙ ap (λ (k : ℕ). values_of characters ++ drop k old) (sym size);
      count_is = is ∙ sym size;
    }

-- ---- nothing is wrong with a text

no_room_fault : (text : List ℕ) (m n : ℕ) (code : Code) → CanDecodeElements text m n code → LacksRoomForElements text m n code → ⊥
no_room_fault text m n code a b =
    let same = one_spelled code text a.part b.part (elements_in a.found) (elements_in b.found) a.is_hrp a.spelling b.is_hrp b.spelling in
    let part : length a.part ≡ length b.part = part-length a.part b.part same.0 in
    let found : length a.found ≡ length b.found = sym (length-map a.found element) ∙ ap length same.1 ∙ length-map b.found element in
    let part_fits : length a.part ≤ m = a.part_fits in
    let found_fits : length a.found ≤ n = a.found_fits in
    ⊎_elim (λ (over : m < length b.part). absurd (omega arith)) (λ (over : n < length b.found). absurd (omega arith)) b.lacks

accepts-from_can : (text : List ℕ) (m n : ℕ) (code : Code) → CanDecodeElements text m n code → Accepts code text
accepts-from_can text m n code a =
    let p = parts-from_spelling code text a.part (elements_in a.found) a.is_hrp a.spelling in
    (p.part, p.data_part, p.accepted)

pub no_elements_fault : (text : List ℕ) (m n : ℕ) (code : Code) (e : Refusal) → CanDecodeElements text m n code → IsElementsFault text m n code e → ⊥
no_elements_fault text m n code NotUtf8 a h =
    let p = accepts-from_can text m n code a in
    h (IsUtf8-from_text text p.0 p.1 p.2.grammar)
no_elements_fault text m n code (Text e) a h =
    let same : Parse e ≡ Memory = decoded-from_elements {D = ℕ} code text h.0 (Err (Parse e)) h.1 (accepts-from_can text m n code a) in absurd (cc)
no_elements_fault text m n code (Checksum e) a h =
    let same : NotAccepted e ≡ Memory = decoded-from_elements {D = ℕ} code text h.0 (Err (NotAccepted e)) h.1 (accepts-from_can text m n code a) in absurd (cc)
no_elements_fault text m n code NoRoom a h = no_room_fault text m n code a h
no_elements_fault text m n code _ a h = h

-- ---- what is put of it

module _ (text part data_part characters : List ℕ) (code : Code) (a : IsAccepted code text part data_part) (before : IsBeforeChecksum code data_part characters) where
  spelled : IsSpelledBy code text part (elements_in (values_of characters))
  spelled = spelled-from_values code text part (values_of characters) data_part characters refl a before

  -- the parts that were put are those of the text
  pub puts_elements : (hrp hrp' elements elements' : List ℕ) (r : Result (ℕ × ℕ) Refusal)
      → IfOk r (λ n. IsPut part hrp hrp' n.0 × IsPut (values_of characters) elements elements' n.1)
      → IfOk r (λ n. PutsElements text hrp hrp' elements elements' n.0 n.1 code)
  puts_elements hrp hrp' elements elements' (Ok n) h = record {
    part = part;
    found = values_of characters;
    spelled = spelled;
    are_values = are_values (elements_of characters);
    part_put = h.0;
    found_put = h.1;
  }
  puts_elements hrp hrp' elements elements' (Err e) h = tt

  -- or there is no room for them
  pub elements_lacks : (m n : ℕ) (r : Result (ℕ × ℕ) Refusal)
      → IfErr r (λ e. (e ≡ NoRoom) × ((m < length part) ⊎ (n < length characters)))
      → IfErr r (λ e. IsElementsFault text m n code e)
  elements_lacks m n (Ok k) h = tt
  elements_lacks m n (Err e) h = subst (λ (x : Refusal). IsElementsFault text m n code x) (sym h.0)
      (record {
        part = part;
        found = values_of characters;
        is_hrp = a.grammar.is_hrp;
        spelling = spelled.spelling;
        lacks = subst (λ (k : ℕ). (m < length part) ⊎ (n < k)) (sym (length-values_of characters)) h.1;
      })

-- why a text is not read is why it is not decoded
pub unread_elements : (text : List ℕ) (m n : ℕ) (code : Code) (e : Refusal) → IsTextFault text e → IsElementsFault text m n code e
unread_elements text m n code NotUtf8 h = h
unread_elements text m n code (Text e) h = h
unread_elements text m n code _ h = absurd h

-- why a checksum does not accept a text of the grammar
pub refused_elements : (text hrp data_part : List ℕ) (m n : ℕ) (code : Code) (e : ChecksumError) → IsText text hrp data_part
    → IsChecksumRefusal code (length text) hrp data_part e → IsElementsFault text m n code (Checksum e)
refused_elements text hrp data_part m n code e is refusal =
    (IsUtf8-from_text text hrp data_part is, record { hrp = hrp; data_part = data_part; grammar = is; refusal = refusal })

-- ---- encoding

-- the text that was put is that of a human-readable part and elements
pub elements_put : (code : Code) (hrp part values text old new : List ℕ) (count n : ℕ) → code.code_length < 2 ^ 32 → IsHrp hrp → part ≡ hrp → AreValues values
    → n ≡ encoded_length_of code hrp (elements_in values) → Fits code hrp values → n ≤ length old
    → IsEncodedText code part (elements_in values) text → IsPutAsFits text old new count → PutsElementsText hrp values old new count code
elements_put code hrp part values text old new count n small is_hrp same are sized fits room is put =
    let here = subst (λ (h : List ℕ). IsEncodedText code h (elements_in values) text) same is in
    let long : length text ≡ length hrp + 1 + length (elements_in values) + length code.generator = length-encoded code hrp (elements_in values) text here in
    let within : encoded_length_of code hrp (elements_in values) ≤ code.code_length = fits in
    let whole : length text ≤ length old = omega arith in
    record {
      text = text;
      is_hrp = is_hrp;
      are_values = are;
      is_text = here;
      fits = fits;
      put = put_whole text old new count put whole;
    }

no_values_fault : (code : Code) (hrp values : List ℕ) (room : ℕ) (e : Refusal) → HasElementsText hrp values room code → IsValuesFault hrp values room code e → ⊥
no_values_fault code hrp values room (TooLong e) t h =
    let over : code.code_length < encoded_length_of code hrp (elements_in values) = h.0 in
    let fits : encoded_length_of code hrp (elements_in values) ≤ code.code_length = t.fits in
    absurd (omega arith)
no_values_fault code hrp values room (BadElement place) t h = none-from_values values place t.are_values h.1
no_values_fault code hrp values room NoRoom t h =
    let over : room < encoded_length_of code hrp (elements_in values) = h.2 in
    let has_room : encoded_length_of code hrp (elements_in values) ≤ room = t.has_room in
    absurd (omega arith)
no_values_fault code hrp values room _ t h = h

pub no_elements_encode_fault : (hrp values : List ℕ) (room : ℕ) (code : Code) (e : Refusal) → HasElementsText hrp values room code → IsElementsEncodeFault hrp values room code e → ⊥
no_elements_encode_fault hrp values room code e t (inl h) = no_part_fault hrp e t.is_hrp h
no_elements_encode_fault hrp values room code e t (inr h) = no_values_fault code hrp values room e t h.1

-- ---- the place of a byte that is above 31

hrp_number : (e : HrpError) → number_of_hrp_error e ≡ 67 → ⊥
hrp_number Empty h = absurd (omega arith)
hrp_number (LongPart n) h = absurd (omega arith)
hrp_number (NonAsciiChar c) h = absurd (omega arith)
hrp_number (InvalidAsciiByte b) h = absurd (omega arith)
hrp_number MixedCase h = absurd (omega arith)
hrp_number Fmt h = absurd (omega arith)

part_number : (hrp : List ℕ) (e : Refusal) → IsPartFault hrp e → number_of e ≡ 67 → ⊥
part_number hrp NotUtf8 h n = absurd (omega arith)
part_number hrp (Hrp e) h n = hrp_number e n
part_number hrp _ h n = h

-- the number 67 is that of such a byte, whose place is found
abbrev IsPlaced : List ℕ → Refusal → Type 0
IsPlaced values e = (place : ℕ) × (element_place e ≡ Some place) × (first_above values ≡ Some place)

placed : (hrp values : List ℕ) (room : ℕ) (code : Code) (e : Refusal) → IsValuesFault hrp values room code e → number_of e ≡ 67 → IsPlaced values e
placed hrp values room code (TooLong e) h n = absurd (omega arith)
placed hrp values room code (BadElement place) h n = (place, refl, h.1)
placed hrp values room code NoRoom h n = absurd (omega arith)
placed hrp values room code _ h n = absurd h

place-from_fault : (hrp values : List ℕ) (room : ℕ) (code : Code) (e : Refusal) → number_of e ≡ 67 → IsElementsEncodeFault hrp values room code e → IsPlaced values e
place-from_fault hrp values room code e n (inl h) = absurd (part_number hrp e h n)
place-from_fault hrp values room code e n (inr h) = placed hrp values room code e h.1 n

pub place_by : (checksum : ℕ) (hrp values : List ℕ) (room : ℕ) (e : Refusal) → IsFaultOfTexts checksum (IsElementsEncodeFault hrp values room) e → number_of e ≡ 67
    → (place : ℕ) × (element_place e ≡ Some place) × (first_above values ≡ Some place)
place_by checksum hrp values room e h n =
    from_fault_of_texts (IsElementsEncodeFault hrp values room) e (IsPlaced values e)
    (λ bad. let four : 4 ≡ 67 = sym (ap number_of bad) ∙ n in absurd (omega arith))
    (λ code f. place-from_fault hrp values room code e n f) checksum h

-- and no other number has one
pub unplaced : (e : Refusal) → number_of e ≢ 67 → element_place e ≡ None
unplaced (BadElement place) n = absurd (n refl)
unplaced _ n = refl
