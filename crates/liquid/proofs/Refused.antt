-- A confidential address is not refused.
use Rattle.std.proofs.Common.{◌≡◌, ◌<◌, ◌≤◌, ◌-◌, ◌+◌, ◌/◌, ◌↔◌, ℕ, List, [], ◌∷◌, ◌++◌, ◌∙◌, None, Some, Result, Ok, Err, length, length-append, take, map, refl, sym, ap, subst, arith, inl, inr, ⊎_elim, IfErr, IfOk, IsOk, MatchResult}
use Rattle.std.proofs.lemmas.List.{length-map, take_at}
use Rattle.std.specs.Char.{to_ascii_uppercase}
use Rattle.std.specs.Str.{IsUtf8}
use Rattle.bech32_gf.specs.Fe32 as fe32
use Rattle.bech32_gf.specs.Fe32.{element_of, elements_of, ops}
use Rattle.bech32_gf.specs.declared.gf32.Fe32.{Fe32}
use Rattle.bech32_poly.specs.Polynomial.{appended}
use Rattle.bech32_poly.specs.Remainder.{IsRemainder}
use Rattle.bech32_bits.specs.Bits.{bytes_count, fes_count, to_bytes, to_fes}
use Rattle.bech32_bits.proofs.RoundTrip.{length-to_bytes, length-to_fes}
use Rattle.bech32_hrp.specs.Hrp.{IsHrp}
use Rattle.bech32_checksum.specs.Code.{Code}
use Rattle.bech32_checksum.specs.Encoded.{IsEncodedText}
use Rattle.bech32_checksum.specs.TextPolynomial.{text_polynomial}
use Rattle.bech32_checksum.proofs.Uniqueness.{length-encoded}
use Rattle.bech32_decode.specs.Acceptance.{IsAccepted}
use Rattle.bech32_decode.specs.BeforeChecksum.{IsBeforeChecksum}
use Rattle.bech32_decode.specs.Refusals.{HasValidChecksum, IsChecksumRefusal}
use Rattle.bech32_decode.specs.Segwit.{IsVersioned}
use Rattle.bech32_decode.specs.SegwitPadding.{IsPadded, IsPaddingRefusal}
use Rattle.bech32_decode.specs.Text.{IsInGrammar, IsText, text_refusal}
use Rattle.bech32_decode.proofs.Addresses.{no_length_refusal}
use Rattle.bech32_decode.proofs.Decoding.{not_valid}
use Rattle.bech32_decode.proofs.Grammar.{only-from_IsText, text_refusal-none}
use Rattle.bech32_decode.proofs.Padding.{padded-to_fes}
use Rattle.bech32_decode.proofs.Spelling.{IsSpelled, spelled-lower, spelled-raised}
use Rattle.bech32_refusals.specs.SegwitRules.{IsProgramLength, max_program_length}
use Rattle.bech32_refusals.specs.declared.error.ChecksumError.{ChecksumError}
use Rattle.bech32_refusals.specs.declared.error.PaddingError.{PaddingError}
use Rattle.bech32_refusals.specs.declared.error.PaddingError.TheVariants.{TooMuch, NonZero}
use Rattle.liquid.specs.Confidential.{IsConfidentialText, IsDecodedConfidential, IsLowerConfidential, IsKeyAndProgram}
use Rattle.liquid.specs.Parts.{confidential_key, confidential_part, confidential_program, confidential_version}
use Rattle.liquid.specs.Read.{IsReadConfidential}
use Rattle.liquid.specs.Refusals.{HasElements, IsConfidentialRefusal, IsOfOtherVersion, HasWrongChecksum, IsOfWrongPayload, IsOtherVersion, IsKeyAndProgramRefusal}
use Rattle.liquid.specs.declared.address.Address.{Address}
use Rattle.liquid.specs.declared.error.DecodeError.{DecodeError}
use Rattle.liquid.specs.declared.error.DecodeError.TheVariants.{Unchecked, NoData, InvalidWitnessVersion, UnsupportedVersion, Checksum, Padding, NoBlindingKey, WitnessLength}
use Rattle.liquid.proofs.ReadParts.{decoded-from_read, elements-before}

same_head : (x y : Fe32) (xs ys : List Fe32) → x ∷ xs ≡ y ∷ ys → x ≡ y
same_head x y xs ys e = cc

same_tail : (x y : Fe32) (xs ys : List Fe32) → x ∷ xs ≡ y ∷ ys → xs ≡ ys
same_tail x y xs ys e = cc

-- lists that end in as many items begin alike
same_front : (xs ys zs ws : List Fe32) → xs ++ ys ≡ zs ++ ws → length ys ≡ length ws → xs ≡ zs
same_front xs ys zs ws e n =
    let left : length (xs ++ ys) ≡ length xs + length ys = length-append xs ys in
    let right : length (zs ++ ws) ≡ length zs + length ws = length-append zs ws in
    let whole : length (xs ++ ys) ≡ length (zs ++ ws) = ap length e in
    let size : length xs ≡ length zs = omega arith in
    sym (take_at xs ys (length xs) refl) ∙ ap (take (length xs)) e ∙ ap (λ (k : ℕ). take k (zs ++ ws)) size ∙ take_at zs ws (length zs) refl

-- ---- what a confidential address is, as a text in its parts

record IsConfidentialIn (code : Code) (text : List ℕ) : Type 0 where
  part : List ℕ
  data_part : List ℕ
  version : Fe32
  payload : List Fe32
  checksum : List Fe32
  elements : elements_of data_part ≡ (version ∷ payload) ++ checksum
  size : length checksum ≡ length code.generator
  is_accepted : IsAccepted code text part data_part
  version_is : version.value ≡ 0
  lawful : IsKeyAndProgram version payload

module _ (code : Code) (twelve : length code.generator ≡ 12) (longest : code.code_length ≡ 1023) where
  parts : (hrp : List ℕ) (version : Fe32) (key program text lower : List ℕ) → IsHrp hrp → IsLowerConfidential code hrp version key program lower → length text ≡ length lower
      → (e : IsEncodedText code hrp (version ∷ to_fes (key ++ program)) lower) → IsSpelled text hrp ((version ∷ to_fes (key ++ program)) ++ e.checksum) → IsConfidentialIn code text
  parts hrp version key program text lower is a same e s =
      let bytes = key ++ program in
      let fes : List Fe32 = (version ∷ to_fes bytes) ++ e.checksum in
      let whole : length lower ≡ length hrp + 1 + length (version ∷ to_fes bytes) + length code.generator = length-encoded code hrp (version ∷ to_fes bytes) lower e in
      let short : length hrp ≤ 83 = is.not_long in
      let of_key : length key ≡ 33 = a.key_length in
      let of_program : length program ≤ max_program_length = a.program_length.not_long in
      let both_bytes : length bytes ≡ length key + length program = length-append key program in
      let count : length (elements_of s.data_part) ≡ length s.data_part = length-map s.data_part element_of in
      let count' : length (elements_of s.data_part) ≡ length fes = ap length s.elements in
      let both : length fes ≡ length (version ∷ to_fes bytes) + length e.checksum = length-append (version ∷ to_fes bytes) e.checksum in
      let sum : length e.checksum ≡ length code.generator = e.is_checksum.size in
      let more : length (to_bytes (to_fes bytes)) ≡ bytes_count 0 (length (to_fes bytes)) = length-to_bytes (to_fes bytes) in
      let elements : length (to_fes bytes) ≡ fes_count 0 (length bytes) = length-to_fes bytes in
      let back : length (to_bytes (to_fes bytes)) - 33 ≡ length program = omega (arith, more, elements, both_bytes, of_key) in
      let p : text_polynomial hrp fes ≡ text_polynomial s.part (elements_of s.data_part) =
      ap (λ (l : List ℕ). appended (fe32.one ∷ []) ((map (λ b. fe32.element (b / 32)) l ++ (fe32.zero ∷ map fe32.element l)) ++ fes)) (sym s.same_part)
      ∙ ap (text_polynomial s.part) (sym s.elements) in
      record {
        part = s.part;
        data_part = s.data_part;
        version = version;
        payload = to_fes bytes;
        checksum = e.checksum;
        elements = s.elements;
        size = sum;
        is_accepted = record {
          grammar = s.grammar;
          text_length = omega (arith, longest, same, whole, short, of_key, of_program, both_bytes, elements, twelve);
          data_length = omega (arith, count, count', both, sum);
          has_target = subst (λ (q : List Fe32). IsRemainder ops code.generator q code.target) p e.is_checksum.has_target;
        };
        version_is = a.version_is;
        lawful = record {
          padded = padded-to_fes bytes;
          has_key = omega (arith, more, elements, both_bytes, of_key);
          program_length = subst (IsProgramLength version) (sym back) a.program_length;
        };
      }

  parts-from_address : (text : List ℕ) → IsConfidentialText code text → IsConfidentialIn code text
  parts-from_address text (hrp, version, key, program, is_hrp, a) =
      let e = a.address.encoded in
      let fes : List Fe32 = (version ∷ to_fes (key ++ program)) ++ e.checksum in
      ⊎_elim
      (λ (same : text ≡ a.lower).
      parts hrp version key program text a.lower is_hrp a.address (ap length same) e
      (subst (λ (t : List ℕ). IsSpelled t hrp fes) (sym (same ∙ e.spelling)) (spelled-lower hrp fes is_hrp)))
      (λ (same : text ≡ map to_ascii_uppercase a.lower).
      parts hrp version key program text a.lower is_hrp a.address (ap length same ∙ length-map a.lower to_ascii_uppercase) e
      (subst (λ (t : List ℕ). IsSpelled t hrp fes) (sym (same ∙ ap (map to_ascii_uppercase) e.spelling)) (spelled-raised hrp fes is_hrp)))
      a.in_one_case

-- ---- it is not refused

no_other_version : (fes : List Fe32) (version : Fe32) (others : List Fe32) (e : DecodeError) → fes ≡ version ∷ others → version.value ≡ 0 → IsOtherVersion fes e → ⊥
no_other_version fes version others NoData is zero_ h = absurd (let both : [] ≡ version ∷ others = sym h ∙ is in cc)
no_other_version fes version others (InvalidWitnessVersion v) is zero_ (more, begins, over) =
    let same : v.value ≡ version.value = ap (λ (x : Fe32). x.value) (same_head v version more others (sym begins ∙ is)) in
    absurd (omega (arith, same, zero_, over))
no_other_version fes version others (UnsupportedVersion v) is zero_ (more, begins, over, fits) =
    let same : v.value ≡ version.value = ap (λ (x : Fe32). x.value) (same_head v version more others (sym begins ∙ is)) in
    absurd (omega (arith, same, zero_, over))
no_other_version fes version others _ is zero_ h = h

no_padding_refusal : (fes : List Fe32) (e : PaddingError) → IsPadded fes → IsPaddingRefusal fes e → ⊥
no_padding_refusal fes TooMuch p h = let few = p.few in absurd (omega arith)
no_padding_refusal fes NonZero p h = h.1 p.zeros

no_payload_refusal : (version : Fe32) (fes : List Fe32) (e : DecodeError) → IsKeyAndProgram version fes → IsKeyAndProgramRefusal version fes e → ⊥
no_payload_refusal version fes (Padding e) p h = no_padding_refusal fes e p.padded h
no_payload_refusal version fes NoBlindingKey p h =
    let few : length (to_bytes fes) < 33 = h.1 in
    let many : 33 ≤ length (to_bytes fes) = p.has_key in
    absurd (omega (arith, few, many))
no_payload_refusal version fes (WitnessLength e) p h = no_length_refusal version (length (to_bytes fes) - 33) e p.program_length h.2
no_payload_refusal version fes _ p h = h

module _ (code : Code) (text : List ℕ) (a : IsConfidentialIn code text) where
  same_data : (hrp data_part : List ℕ) → IsText text hrp data_part → (hrp ≡ a.part) × (data_part ≡ a.data_part)
  same_data hrp data_part is = only-from_IsText text a.part a.data_part a.is_accepted.grammar hrp data_part is.split is.data_bytes

  elements-of : (hrp data_part : List ℕ) → IsText text hrp data_part → elements_of data_part ≡ a.version ∷ (a.payload ++ a.checksum)
  elements-of hrp data_part is = ap elements_of (same_data hrp data_part is).1 ∙ a.elements

  not_of_other_version : (e : DecodeError) → IsOfOtherVersion text e → ⊥
  not_of_other_version e r =
      no_other_version (elements_of r.data_part) a.version (a.payload ++ a.checksum) e (elements-of r.hrp r.data_part r.grammar) a.version_is r.refusal

  -- what stands before the checksum
  elements-had : (elements : List Fe32) → HasElements code text elements → elements ≡ a.version ∷ a.payload
  elements-had elements r =
      let sum = r.before.checksum in
      let size : length sum ≡ length code.generator = r.before.size in
      let count : length (elements_of sum) ≡ length sum = length-map sum element_of in
      let size' : length a.checksum ≡ length code.generator = a.size in
      r.elements_are
      ∙ same_front (elements_of r.characters) (elements_of sum) (a.version ∷ a.payload) a.checksum
      (sym (elements-before code r.data_part r.characters r.before) ∙ elements-of r.hrp r.data_part r.accepted.grammar) (omega (arith, size, count, size'))

  not_of_wrong_checksum : (e : ChecksumError) → HasWrongChecksum code text e → ⊥
  not_of_wrong_checksum e r =
      let same = same_data r.hrp r.data_part r.grammar in
      let ok : HasValidChecksum code (length text) a.part a.data_part = (a.is_accepted.text_length, a.is_accepted.data_length, a.is_accepted.has_target) in
      not_valid code (length text) a.part a.data_part e
      (subst (λ (d : List ℕ). IsChecksumRefusal code (length text) a.part d e) same.1
      (subst (λ (h : List ℕ). IsChecksumRefusal code (length text) h r.data_part e) same.0 r.refusal))
      ok

  not_of_wrong_payload : (e : DecodeError) → IsOfWrongPayload code text e → ⊥
  not_of_wrong_payload e r =
      let both : r.version ∷ r.payload ≡ a.version ∷ a.payload = elements-had (r.version ∷ r.payload) r.has in
      no_payload_refusal a.version a.payload e a.lawful
      (subst (λ (l : List Fe32). IsKeyAndProgramRefusal a.version l e) (same_tail r.version a.version r.payload a.payload both)
      (subst (λ (v : Fe32). IsKeyAndProgramRefusal v r.payload e) (same_head r.version a.version r.payload a.payload both) r.refusal))

  not_refused : (e : DecodeError) → IsUtf8 text → IsConfidentialRefusal code text e → ⊥
  not_refused (Unchecked e) u h =
      let none : text_refusal text ≡ None = text_refusal-none text u (a.part, a.data_part, a.is_accepted.grammar) in
      let some : text_refusal text ≡ Some e = h in
      absurd cc
  not_refused NoData u (inl h) = not_of_other_version NoData h
  not_refused NoData u (inr h) = absurd (let both : [] ≡ a.version ∷ a.payload = elements-had [] h in cc)
  not_refused (InvalidWitnessVersion v) u h = not_of_other_version (InvalidWitnessVersion v) h
  not_refused (UnsupportedVersion v) u h = not_of_other_version (UnsupportedVersion v) h
  not_refused (Checksum e) u h = not_of_wrong_checksum e h
  not_refused (Padding e) u h = not_of_wrong_payload (Padding e) h
  not_refused NoBlindingKey u h = not_of_wrong_payload NoBlindingKey h
  not_refused (WitnessLength e) u h = not_of_wrong_payload (WitnessLength e) h

-- ---- what `decode` returns

module _ (code : Code) (twelve : length code.generator ≡ 12) (longest : code.code_length ≡ 1023) (text : List ℕ) where
  pub no_refusal : (e : DecodeError) → IsUtf8 text → IsConfidentialText code text → IsConfidentialRefusal code text e → ⊥
  no_refusal e u a h = not_refused code text (parts-from_address code twelve longest text a) e u h

  pub grammar-from_address : IsConfidentialText code text → IsInGrammar text
  grammar-from_address a = let at = parts-from_address code twelve longest text a in (at.part, at.data_part, at.is_accepted.grammar)

  pub accepts-from_outcome : IsUtf8 text → (r : Result Address DecodeError) → MatchResult r (λ a. IsReadConfidential code text a) (λ e. IsConfidentialRefusal code text e)
      → IsOk r ↔ IsConfidentialText code text
  accepts-from_outcome u (Ok a) h =
      let is = decoded-from_read code text a h in
      (λ _. (confidential_part a, confidential_version a, confidential_key a, confidential_program a, is.is_hrp, is.is_address), λ _. refl)
  accepts-from_outcome u (Err e) h = (λ ok. absurd cc, λ a. absurd (no_refusal e u a h))

  pub value-from_outcome : (r : Result Address DecodeError) → MatchResult r (λ a. IsReadConfidential code text a) (λ e. IsConfidentialRefusal code text e)
      → IfOk r (λ a. IsDecodedConfidential code text (confidential_part a) (confidential_version a) (confidential_key a) (confidential_program a))
  value-from_outcome (Ok a) h = decoded-from_read code text a h
  value-from_outcome (Err e) h = tt

  pub refused-from_outcome : (r : Result Address DecodeError) → MatchResult r (λ a. IsReadConfidential code text a) (λ e. IsConfidentialRefusal code text e)
      → IfErr r (λ e. IsConfidentialRefusal code text e)
  refused-from_outcome (Ok a) h = tt
  refused-from_outcome (Err e) h = h

-- ---- why a text that was read is refused

-- the data part does not begin with version 0
pub other_there : (code : Code) (text hrp data_part : List ℕ) (e : DecodeError) → IsText text hrp data_part → IsOtherVersion (elements_of data_part) e → IsConfidentialRefusal code text e
other_there code text hrp data_part NoData is h = inl (record { hrp = hrp; data_part = data_part; grammar = is; refusal = h })
other_there code text hrp data_part (InvalidWitnessVersion v) is h = record { hrp = hrp; data_part = data_part; grammar = is; refusal = h }
other_there code text hrp data_part (UnsupportedVersion v) is h = record { hrp = hrp; data_part = data_part; grammar = is; refusal = h }
other_there code text hrp data_part _ is h = absurd h

module _ (code : Code) (text hrp data_part : List ℕ) (version : Fe32) (others : List Fe32) (versioned : IsVersioned (elements_of data_part) version others) (zero_ : version.value ≡ 0) where
  -- the checksum refuses the text
  pub checksum_there : (e : ChecksumError) → IsText text hrp data_part → IsChecksumRefusal code (length text) hrp data_part e → IsConfidentialRefusal code text (Checksum e)
  checksum_there e is refusal = record {
    hrp = hrp;
    data_part = data_part;
    grammar = is;
    version = version;
    others = others;
    versioned = versioned;
    version_is = zero_;
    refusal = refusal;
  }

  module _ (accepted : IsAccepted code text hrp data_part) (characters : List ℕ) (before : IsBeforeChecksum code data_part characters) where
    elements_there : (elements : List Fe32) → elements ≡ elements_of characters → HasElements code text elements
    elements_there elements same = record {
      hrp = hrp;
      data_part = data_part;
      version = version;
      others = others;
      versioned = versioned;
      version_is = zero_;
      accepted = accepted;
      characters = characters;
      before = before;
      elements_are = same;
    }

    -- nothing stands before the checksum
    pub nothing_there : elements_of characters ≡ [] → IsConfidentialRefusal code text NoData
    nothing_there none = inr (elements_there [] (sym none))

    -- behind the version is no payload
    pub payload_there : (payload : List Fe32) (e : DecodeError) → elements_of characters ≡ version ∷ payload → IsKeyAndProgramRefusal version payload e → IsConfidentialRefusal code text e
    payload_there payload (Padding e) same h = record { version = version; payload = payload; has = elements_there (version ∷ payload) (sym same); refusal = h }
    payload_there payload NoBlindingKey same h = record { version = version; payload = payload; has = elements_there (version ∷ payload) (sym same); refusal = h }
    payload_there payload (WitnessLength e) same h = record { version = version; payload = payload; has = elements_there (version ∷ payload) (sym same); refusal = h }
    payload_there payload _ same h = absurd h
