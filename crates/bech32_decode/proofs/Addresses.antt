-- A text is read as a segwit address exactly where it is one.
use Rattle.std.proofs.Common.{◌≡◌, ◌≢◌, ◌⊎◌, ◌↔◌, ◌==◌, ℕ, ◌<◌, ◌≤◌, ◌+◌, ◌/◌, Bool, true, false, List, [], ◌∷◌, ◌++◌, None, Result, Ok, Err, length, length-append, map, take, drop, cond, refl, sym, ap, subst, ◌∙◌, arith, eq-eqb, inl, inr, ⊎_elim, MatchResult, IsOk, IfOk}
use Rattle.std.proofs.lemmas.Bool.Decides.{eqb_tells}
use Rattle.std.proofs.lemmas.List.{map-append, length-map, take_at}
use Rattle.std.specs.Char.{to_ascii_lowercase, to_ascii_uppercase}
use Rattle.std.specs.Str.{IsUtf8}
use Rattle.bech32_gf.specs.Fe32.{ops, element_of, elements_of}
use Rattle.bech32_gf.specs.declared.gf32.Fe32.{Fe32}
use Rattle.bech32_poly.specs.Polynomial.{appended}
use Rattle.bech32_poly.specs.Remainder.{IsRemainder}
use Rattle.bech32_bits.specs.Bits.{to_fes, to_bytes, fes_count, bytes_count}
use Rattle.bech32_checksum.specs.Code.{Code, bech32, bech32m}
use Rattle.bech32_hrp.specs.Hrp.{lowered}
use Rattle.bech32_hrp.specs.HrpBytes.{hrp_bytes}
use Rattle.bech32_checksum.specs.TextPolynomial.{text_polynomial}
use Rattle.bech32_gf.specs.Fe32 as fe32
use Rattle.bech32_bits.proofs.RoundTrip.{length-to_fes, length-to_bytes}
use Rattle.bech32_decode.specs.Text.{IsText, text_refusal}
use Rattle.bech32_checksum.specs.Encoded.{spelled, IsEncodedText}
use Rattle.bech32_decode.specs.Acceptance.{IsAccepted}
use Rattle.bech32_decode.specs.BeforeChecksum.{IsBeforeChecksum}
use Rattle.bech32_decode.specs.Checked.{IsWithoutChecksum}
use Rattle.bech32_decode.specs.Refusals.{HasValidChecksum, IsChecksumRefusal}
use Rattle.bech32_decode.specs.Segwit.{segwit_code, IsLowerAddress, IsAddress, IsAddressText, IsVersioned, IsVersionRefusal, IsSegwitData, IsDataRefusal, IsUnread, IsWithoutVersion, IsOfWrongChecksum, IsOfWrongData, IsAddressRefusal, IsSegwitRefusal}
use Rattle.bech32_decode.specs.SegwitParts.{IsSegwitOf, IsDataOf, IsReadIn, IsReadAddress, IsReadBy, IsRefusedBy, IsWrongDataOf}
use Rattle.bech32_refusals.specs.SegwitRules.{IsProgramLength, IsLengthRefusal, max_address_length, max_witness_version}
use Rattle.bech32_decode.specs.SegwitPadding.{IsPadded, IsPaddingRefusal}
use Rattle.bech32_decode.specs.declared.address.SegwitHrpstring.{SegwitHrpstring}
use Rattle.bech32_decode.specs.declared.address_data.AddressData.{AddressData}
use Rattle.bech32_decode.specs.declared.checked.CheckedHrpstring.{CheckedHrpstring}
use Rattle.bech32_refusals.specs.declared.error.ChecksumError.{ChecksumError}
use Rattle.bech32_refusals.specs.declared.error.PaddingError.{PaddingError}
use Rattle.bech32_refusals.specs.declared.error.PaddingError.TheVariants.{TooMuch, NonZero}
use Rattle.bech32_refusals.specs.declared.error.SegwitHrpstringError.{SegwitHrpstringError}
use Rattle.bech32_refusals.specs.declared.error.SegwitHrpstringError.TheVariants.{Unchecked, NoData, TooLong, InvalidWitnessVersion, Padding, WitnessLength, Checksum, Memory}
use Rattle.bech32_decode.specs.declared.unchecked.UncheckedHrpstring.{UncheckedHrpstring}
use Rattle.bech32_refusals.specs.declared.segwit.WitnessLengthError.{WitnessLengthError}
use Rattle.bech32_refusals.specs.declared.segwit.WitnessLengthError.TheVariants.{TooShort, TooLong as ProgramTooLong, InvalidSegwitV0}
use Rattle.bech32_decode.proofs.Decoding.{accepted, not_valid}
use Rattle.bech32_decode.proofs.Grammar.{only-from_IsText, text_refusal-none}
use Rattle.bech32_decode.proofs.Padding.{to_fes-to_bytes, padded-to_fes}
use Rattle.bech32_decode.proofs.Spelling.{lower_text, in_one_case, IsSpelled, spelled-lower, spelled-raised}

elements-append : (xs ys : List ℕ) → elements_of (xs ++ ys) ≡ elements_of xs ++ elements_of ys
elements-append xs ys = map-append element_of xs ys

same_head : (x y : Fe32) (xs ys : List Fe32) → x ∷ xs ≡ y ∷ ys → x ≡ y
same_head x y xs ys e = cc

-- the elements of a data part are those before its checksum, and those of the checksum
elements-before : (code : Code) (data_part characters : List ℕ) (b : IsBeforeChecksum code data_part characters)
    → elements_of data_part ≡ elements_of characters ++ elements_of b.checksum
elements-before code data_part characters b = ap elements_of b.data_part_is ∙ elements-append characters b.checksum

-- ---- from what was read to the address

pub address-from_parts : (text hrp : List ℕ) (v : Fe32) (characters : List ℕ) → IsReadIn segwit_code text hrp v characters
    → IsAddress hrp v (to_bytes (elements_of characters)) text
address-from_parts text hrp v characters h =
    let program = elements_of characters in
    let sum = elements_of h.before.checksum in
    let all : elements_of h.data_part ≡ (v ∷ to_fes (to_bytes program)) ++ sum =
    elements-before (segwit_code v) h.data_part h.checked h.before
    ∙ ap (λ (l : List Fe32). l ++ sum) (h.elements ∙ ap (λ (l : List Fe32). v ∷ l) (sym (to_fes-to_bytes program h.lawful.padded))) in
    let size : length (lowered text) ≡ length text = length-map text to_ascii_lowercase in
    let few : length text ≤ max_address_length = h.lawful.text_length in
    record {
      lower = lowered text;
      address = record {
        version_fits = h.lawful.version_fits;
        program_length = h.lawful.program_length;
        text_length = omega arith;
        encoded = record {
          checksum = sum;
          is_checksum = record {
            size = length-map h.before.checksum element_of ∙ h.before.size;
            has_target = subst (λ (l : List Fe32). IsRemainder ops (segwit_code v).generator (text_polynomial hrp l) (segwit_code v).target) all h.accepted.has_target;
          };
          spelling = lower_text text hrp h.data_part h.accepted.grammar ∙ ap (spelled hrp) all;
        };
      };
      in_one_case = in_one_case text hrp h.data_part h.accepted.grammar;
    }

pub address-from_read : (text : List ℕ) (a : SegwitHrpstring) → IsReadAddress segwit_code text a
    → IsAddress (hrp_bytes a.hrp) a.witness_version (to_bytes (elements_of a.ascii.now)) text
address-from_read text a h = address-from_parts text (hrp_bytes a.hrp) a.witness_version a.ascii.now h

-- ---- from the address to what is read

-- what an address is, as a text in its parts
pub record IsAddressIn (text : List ℕ) : Type 0 where
  part : List ℕ
  data_part : List ℕ
  version : Fe32
  program : List Fe32
  checksum : List Fe32
  elements : elements_of data_part ≡ (version ∷ program) ++ checksum
  size : length checksum ≡ length (segwit_code version).generator
  is_accepted : IsAccepted (segwit_code version) text part data_part
  lawful : IsSegwitData (length text) version program

pub short : (version : Fe32) → length (segwit_code version).generator ≡ 6
short version = short_at (version.value == 0)
  where
    short_at : (b : Bool) → length (cond b bech32 bech32m).generator ≡ 6
    short_at true = refl
    short_at false = refl

within : (version : Fe32) → (segwit_code version).code_length ≡ 1023
within version = within_at (version.value == 0)
  where
    within_at : (b : Bool) → (cond b bech32 bech32m).code_length ≡ 1023
    within_at true = refl
    within_at false = refl

address-parts : (hrp : List ℕ) (version : Fe32) (program text lower : List ℕ) → IsLowerAddress hrp version program lower → length text ≡ length lower
    → (e : IsEncodedText (segwit_code version) hrp (version ∷ to_fes program) lower) → IsSpelled text hrp ((version ∷ to_fes program) ++ e.checksum) → IsAddressIn text
address-parts hrp version program text lower a same e s =
    let code = segwit_code version in
    let few : length lower ≤ max_address_length = a.text_length in
    let degree = short version in
    let longest = within version in
    let fes : List Fe32 = (version ∷ to_fes program) ++ e.checksum in
    let count : length (elements_of s.data_part) ≡ length s.data_part = length-map s.data_part element_of in
    let count' : length (elements_of s.data_part) ≡ length fes = ap length s.elements in
    let both : length fes ≡ length (version ∷ to_fes program) + length e.checksum = length-append (version ∷ to_fes program) e.checksum in
    let sum : length e.checksum ≡ length code.generator = e.is_checksum.size in
    let more : length (to_bytes (to_fes program)) ≡ bytes_count 0 (length (to_fes program)) = length-to_bytes (to_fes program) in
    let elements : length (to_fes program) ≡ fes_count 0 (length program) = length-to_fes program in
    let back : length (to_bytes (to_fes program)) ≡ length program = omega arith in
    let p : text_polynomial hrp fes ≡ text_polynomial s.part (elements_of s.data_part) =
    ap (λ (l : List ℕ). appended (fe32.one ∷ []) ((map (λ b. fe32.element (b / 32)) l ++ (fe32.zero ∷ map fe32.element l)) ++ fes)) (sym s.same_part)
    ∙ ap (text_polynomial s.part) (sym s.elements) in
    record {
      part = s.part;
      data_part = s.data_part;
      version = version;
      program = to_fes program;
      checksum = e.checksum;
      elements = s.elements;
      size = sum;
      is_accepted = record {
        grammar = s.grammar;
        text_length = omega arith;
        data_length = omega arith;
        has_target = subst (λ (q : List Fe32). IsRemainder ops code.generator q code.target) p e.is_checksum.has_target;
      };
      lawful = record {
        text_length = omega arith;
        version_fits = a.version_fits;
        padded = padded-to_fes program;
        program_length = subst (IsProgramLength version) (sym back) a.program_length;
      };
    }

pub parts-from_address : (text : List ℕ) → IsAddressText text → IsAddressIn text
parts-from_address text (hrp, version, program, is_hrp, a) =
    let e = a.address.encoded in
    let fes : List Fe32 = (version ∷ to_fes program) ++ e.checksum in
    ⊎_elim
    (λ (same : text ≡ a.lower).
    address-parts hrp version program text a.lower a.address (ap length same) e
    (subst (λ (t : List ℕ). IsSpelled t hrp fes) (sym (same ∙ e.spelling)) (spelled-lower hrp fes is_hrp)))
    (λ (same : text ≡ map to_ascii_uppercase a.lower).
    address-parts hrp version program text a.lower a.address (ap length same ∙ length-map a.lower to_ascii_uppercase) e
    (subst (λ (t : List ℕ). IsSpelled t hrp fes) (sym (same ∙ ap (map to_ascii_uppercase) e.spelling)) (spelled-raised hrp fes is_hrp)))
    a.in_one_case

-- ---- an address is not refused

no_version_refusal : (fes : List Fe32) (version : Fe32) (others : List Fe32) (e : SegwitHrpstringError) → fes ≡ version ∷ others → version.value ≤ max_witness_version
    → IsVersionRefusal fes e → ⊥
no_version_refusal fes version others NoData is fits h = absurd (let both : [] ≡ version ∷ others = sym h ∙ is in cc)
no_version_refusal fes version others (InvalidWitnessVersion v) is fits (more, parts, over) =
    let same : v.value ≡ version.value = ap (λ (x : Fe32). x.value) (same_head v version more others (sym parts ∙ is)) in
    absurd (omega arith)
no_version_refusal fes version others (Unchecked e) is fits h = h
no_version_refusal fes version others (TooLong n) is fits h = h
no_version_refusal fes version others (Padding e) is fits h = h
no_version_refusal fes version others (WitnessLength e) is fits h = h
no_version_refusal fes version others (Checksum e) is fits h = h
no_version_refusal fes version others Memory is fits h = h

no_padding_refusal : (fes : List Fe32) (e : PaddingError) → IsPadded fes → IsPaddingRefusal fes e → ⊥
no_padding_refusal fes TooMuch p h = let few = p.few in absurd (omega arith)
no_padding_refusal fes NonZero p h = h.1 p.zeros

pub no_length_refusal : (version : Fe32) (n : ℕ) (e : WitnessLengthError) → IsProgramLength version n → IsLengthRefusal version n e → ⊥
no_length_refusal version n TooShort p h = let a = p.not_short in absurd (omega arith)
no_length_refusal version n ProgramTooLong p h = let a = p.not_long in absurd (omega arith)
no_length_refusal version n InvalidSegwitV0 p (zero_, a, b, not_20, not_32) = ⊎_elim not_20 not_32 (p.of_version_0 zero_)

same_tail : (x y : Fe32) (xs ys : List Fe32) → x ∷ xs ≡ y ∷ ys → xs ≡ ys
same_tail x y xs ys e = cc

no_data_refusal : (n : ℕ) (fes : List Fe32) (version : Fe32) (program : List Fe32) (e : SegwitHrpstringError) → fes ≡ version ∷ program
    → IsSegwitData n version program → IsDataRefusal n fes e → ⊥
no_data_refusal n fes version program NoData is d h = no_version_refusal fes version program NoData is d.version_fits h
no_data_refusal n fes version program (TooLong m) is d h =
    let few : n ≤ max_address_length = d.text_length in
    let over : max_address_length < n = h.1 in
    absurd (omega arith)
no_data_refusal n fes version program (InvalidWitnessVersion v) is d h = no_version_refusal fes version program (InvalidWitnessVersion v) is d.version_fits h.1
no_data_refusal n fes version program (Padding e) is d (few, v, others, versioned, h) =
    let both : v ∷ others ≡ version ∷ program = sym versioned.parts ∙ is in
    no_padding_refusal others e (subst IsPadded (sym (same_tail v version others program both)) d.padded) h
no_data_refusal n fes version program (WitnessLength e) is d (few, v, others, versioned, padded, h) =
    let both : v ∷ others ≡ version ∷ program = sym versioned.parts ∙ is in
    let program_length : IsProgramLength v (length (to_bytes others)) =
    subst (λ (x : Fe32). IsProgramLength x (length (to_bytes others))) (sym (same_head v version others program both))
    (subst (λ (l : List Fe32). IsProgramLength version (length (to_bytes l))) (sym (same_tail v version others program both)) d.program_length) in
    no_length_refusal v (length (to_bytes others)) e program_length h
no_data_refusal n fes version program (Unchecked e) is d h = h
no_data_refusal n fes version program (Checksum e) is d h = h
no_data_refusal n fes version program Memory is d h = h

-- lists that end in as many items begin alike
same_front : (xs ys zs ws : List Fe32) → xs ++ ys ≡ zs ++ ws → length ys ≡ length ws → xs ≡ zs
same_front xs ys zs ws e n =
    let left : length (xs ++ ys) ≡ length xs + length ys = length-append xs ys in
    let right : length (zs ++ ws) ≡ length zs + length ws = length-append zs ws in
    let whole : length (xs ++ ys) ≡ length (zs ++ ws) = ap length e in
    let size : length xs ≡ length zs = omega arith in
    sym (take_at xs ys (length xs) refl) ∙ ap (take (length xs)) e ∙ ap (λ (k : ℕ). take k (zs ++ ws)) size ∙ take_at zs ws (length zs) refl

module _ (text : List ℕ) (a : IsAddressIn text) where
  same_data : (hrp data_part : List ℕ) → IsText text hrp data_part → (hrp ≡ a.part) × (data_part ≡ a.data_part)
  same_data hrp data_part is = only-from_IsText text a.part a.data_part a.is_accepted.grammar hrp data_part is.split is.data_bytes

  elements-of : (hrp data_part : List ℕ) → IsText text hrp data_part → elements_of data_part ≡ a.version ∷ (a.program ++ a.checksum)
  elements-of hrp data_part is = ap elements_of (same_data hrp data_part is).1 ∙ a.elements

  same_version : (hrp data_part : List ℕ) (version : Fe32) (others : List Fe32) → IsText text hrp data_part → IsVersioned (elements_of data_part) version others
      → version ≡ a.version
  same_version hrp data_part version others is v = same_head version a.version others (a.program ++ a.checksum) (sym v.parts ∙ elements-of hrp data_part is)

  not_unread : (e : SegwitHrpstringError) → IsUtf8 text → IsUnread text e → ⊥
  not_unread e u r =
      let none : text_refusal text ≡ None = text_refusal-none text u (a.part, a.data_part, a.is_accepted.grammar) in
      let some = r.refusal in
      absurd cc

  not_without_version : (e : SegwitHrpstringError) → IsWithoutVersion text e → ⊥
  not_without_version e r =
      no_version_refusal (elements_of r.data_part) a.version (a.program ++ a.checksum) e (elements-of r.hrp r.data_part r.grammar) a.lawful.version_fits r.refusal

  not_of_wrong_checksum : (e : SegwitHrpstringError) → IsOfWrongChecksum segwit_code text e → ⊥
  not_of_wrong_checksum e r =
      let version = same_version r.hrp r.data_part r.version r.others r.grammar r.versioned in
      let same = same_data r.hrp r.data_part r.grammar in
      let ok : HasValidChecksum (segwit_code a.version) (length text) a.part a.data_part =
      (a.is_accepted.text_length, a.is_accepted.data_length, a.is_accepted.has_target) in
      not_valid (segwit_code a.version) (length text) a.part a.data_part r.error
      (subst (λ (d : List ℕ). IsChecksumRefusal (segwit_code a.version) (length text) a.part d r.error) same.1
      (subst (λ (h : List ℕ). IsChecksumRefusal (segwit_code a.version) (length text) h r.data_part r.error) same.0
      (subst (λ (x : Fe32). IsChecksumRefusal (segwit_code x) (length text) r.hrp r.data_part r.error) version r.refusal)))
      ok

  not_of_wrong_data : (e : SegwitHrpstringError) → IsOfWrongData segwit_code text e → ⊥
  not_of_wrong_data e r =
      let code = segwit_code r.version in
      let sum = r.before.checksum in
      let size : length sum ≡ length code.generator = r.before.size in
      let count : length (elements_of sum) ≡ length sum = length-map sum element_of in
      let here : length code.generator ≡ 6 = short r.version in
      let there : length (segwit_code a.version).generator ≡ 6 = short a.version in
      let size' : length a.checksum ≡ length (segwit_code a.version).generator = a.size in
      let front : elements_of r.characters ≡ a.version ∷ a.program =
      same_front (elements_of r.characters) (elements_of sum) (a.version ∷ a.program) a.checksum
      (sym (elements-before code r.data_part r.characters r.before) ∙ elements-of r.hrp r.data_part r.accepted.grammar) (omega arith) in
      no_data_refusal (length text) (elements_of r.characters) a.version a.program e front a.lawful r.refusal

  pub not_refused : (e : SegwitHrpstringError) → IsUtf8 text → IsSegwitRefusal text e → ⊥
  not_refused e u (inl long) =
      let few : length text ≤ max_address_length = a.lawful.text_length in
      let over : max_address_length < length text = long.0 in
      absurd (omega arith)
  not_refused e u (inr (few, inl r)) = not_unread e u r
  not_refused e u (inr (few, inr (inl r))) = not_without_version e r
  not_refused e u (inr (few, inr (inr (inl r)))) = not_of_wrong_checksum e r
  not_refused e u (inr (few, inr (inr (inr r)))) = not_of_wrong_data e r

-- ---- what `new` returns

pub address-from_outcome : (text : List ℕ) (r : Result SegwitHrpstring SegwitHrpstringError)
    → MatchResult r (λ a. IsReadAddress segwit_code text a) (λ e. IsSegwitRefusal text e)
    → IfOk r (λ a. IsAddress (hrp_bytes a.hrp) a.witness_version (to_bytes (elements_of a.ascii.now)) text)
address-from_outcome text (Ok a) h = address-from_read text a h
address-from_outcome text (Err e) h = tt

pub accepts-from_outcome : (text : List ℕ) → IsUtf8 text → (r : Result SegwitHrpstring SegwitHrpstringError)
    → MatchResult r (λ a. IsReadAddress segwit_code text a) (λ e. IsSegwitRefusal text e) → IsOk r ↔ IsAddressText text
accepts-from_outcome text u (Ok a) h =
    (λ _. (hrp_bytes a.hrp, a.witness_version, to_bytes (elements_of a.ascii.now), h.accepted.grammar.is_hrp, address-from_read text a h), λ _. refl)
accepts-from_outcome text u (Err e) h = (λ ok. absurd cc, λ a. absurd (not_refused text (parts-from_address text a) e u h))

-- ---- from the checksum's outcome to the text's

module _ (code : Fe32 → Code) (text : List ℕ) (u : UncheckedHrpstring) (version : Fe32) (others : List Fe32)
    (is : IsText text (hrp_bytes u.hrp) u.data_part_ascii.now) (n : u.hrpstring_length ≡ length text)
    (versioned : IsVersioned (elements_of u.data_part_ascii.now) version others) where
  read-as : (a : SegwitHrpstring) → IsReadBy (code version) u a → IsReadAddress code text a
  read-as a h =
      let hrp = hrp_bytes u.hrp in
      let d = u.data_part_ascii.now in
      let sum = elements_of h.without.characters.checksum in
      let whole : elements_of d ≡ (a.witness_version ∷ elements_of a.ascii.now) ++ sum =
      elements-before (code version) d h.checked.ascii.now h.without.characters ∙ ap (λ (l : List Fe32). l ++ sum) h.segwit.elements in
      let same : version ≡ a.witness_version = same_head version a.witness_version others (elements_of a.ascii.now ++ sum) (sym versioned.parts ∙ whole) in
      let part : hrp_bytes a.hrp ≡ hrp = ap hrp_bytes (h.segwit.hrp ∙ h.without.hrp) in
      let valid : HasValidChecksum (code version) (length text) hrp d = subst (λ (k : ℕ). HasValidChecksum (code version) k hrp d) n h.valid in
      record {
        data_part = d;
        accepted = subst (λ (x : List ℕ). IsAccepted (code a.witness_version) text x d) (sym part)
            (subst (λ (v : Fe32). IsAccepted (code v) text hrp d) same (accepted (code version) text hrp d is valid));
        checked = h.checked.ascii.now;
        before = subst (λ (v : Fe32). IsBeforeChecksum (code v) d h.checked.ascii.now) same h.without.characters;
        elements = h.segwit.elements;
        characters = h.segwit.characters;
        lawful = subst (λ (k : ℕ). IsSegwitData k a.witness_version (elements_of a.ascii.now)) (h.without.text_length ∙ n) h.segwit.lawful;
      }

  refused-as : (e : SegwitHrpstringError) → IsRefusedBy (code version) u e ⊎ IsWrongDataOf (code version) u e → IsAddressRefusal code text e
  refused-as e (inl r) = inr (inr (inl (record {
    hrp = hrp_bytes u.hrp;
    data_part = u.data_part_ascii.now;
    grammar = is;
    version = version;
    others = others;
    versioned = versioned;
    error = r.error;
    is = r.is;
    refusal = subst (λ (k : ℕ). IsChecksumRefusal (code version) k (hrp_bytes u.hrp) u.data_part_ascii.now r.error) n r.refusal;
  })))
  refused-as e (inr r) = inr (inr (inr (record {
    hrp = hrp_bytes u.hrp;
    data_part = u.data_part_ascii.now;
    version = version;
    others = others;
    versioned = versioned;
    accepted = accepted (code version) text (hrp_bytes u.hrp) u.data_part_ascii.now is
        (subst (λ (k : ℕ). HasValidChecksum (code version) k (hrp_bytes u.hrp) u.data_part_ascii.now) n r.valid);
    characters = r.checked.ascii.now;
    before = r.without.characters;
    refusal = subst (λ (k : ℕ). IsDataRefusal k (elements_of r.checked.ascii.now) e) (r.without.text_length ∙ n) r.refusal;
  })))

  pub outcome-from_checksum : (ck : Code) → ck ≡ code version → (r : Result SegwitHrpstring SegwitHrpstringError)
      → MatchResult r (λ a. IsReadBy ck u a) (λ e. IsRefusedBy ck u e ⊎ IsWrongDataOf ck u e)
      → MatchResult r (λ a. IsReadAddress code text a) (λ e. IsAddressRefusal code text e)
  outcome-from_checksum ck same (Ok a) h = read-as a (subst (λ (c : Code). IsReadBy c u a) same h)
  outcome-from_checksum ck same (Err e) h = refused-as e (subst (λ (c : Code). IsRefusedBy c u e ⊎ IsWrongDataOf c u e) same h)

-- ---- from the tests of what stands before the checksum

-- whether there are characters
pub some_of : (characters : List ℕ) (b : Bool) → b ≡ (length characters == 0) → b ≡ false → characters ≢ []
some_of characters b e f = λ none.
    let is : true ≡ false = sym (e ∙ eq-eqb (length characters) 0 (ap length none)) ∙ f in
    cc is

pub elements_some : (characters : List ℕ) → characters ≢ [] → elements_of characters ≢ []
elements_some [] some = λ none. some refl
elements_some (x ∷ characters) some = λ none. cc none

pub no_elements : (characters : List ℕ) (b : Bool) → b ≡ (length characters == 0) → b ≡ true → elements_of characters ≡ []
no_elements [] b e t = refl
no_elements (x ∷ characters) b e t = elim (eqb_tells (length (x ∷ characters)) 0) [
  | inl y ↦ absurd (omega (arith, y.1))
  | inr y ↦ (let is : false ≡ true = sym (e ∙ y.0) ∙ t in absurd (cc is))
]

pub outcome-from_segwit : (code : Code) (u : UncheckedHrpstring) (c : CheckedHrpstring) → HasValidChecksum code u.hrpstring_length (hrp_bytes u.hrp) u.data_part_ascii.now
    → IsWithoutChecksum code u c → (r : Result SegwitHrpstring SegwitHrpstringError)
    → MatchResult r (λ a. IsSegwitOf c a) (λ e. IsDataRefusal c.hrpstring_length (elements_of c.ascii.now) e)
    → MatchResult r (λ a. IsReadBy code u a) (λ e. IsRefusedBy code u e ⊎ IsWrongDataOf code u e)
outcome-from_segwit code u c valid without (Ok a) h = record { valid = valid; checked = c; without = without; segwit = h }
outcome-from_segwit code u c valid without (Err e) h = inr (record { valid = valid; checked = c; without = without; refusal = h })

-- ---- from the outcome of one walk to the text's

-- what stands before a checksum begins with the version of the data part
pub versioned-before : (code : Code) (data_part characters : List ℕ) (version : Fe32) (others : List Fe32) → IsBeforeChecksum code data_part characters
    → IsVersioned (elements_of data_part) version others → characters ≢ [] → IsVersioned (elements_of characters) version (elements_of (drop 1 characters))
versioned-before code data_part [] version others before versioned some = absurd (some refl)
versioned-before code data_part (b ∷ bs) version others before versioned some =
    let whole : elements_of data_part ≡ element_of b ∷ (elements_of bs ++ elements_of before.checksum) = elements-before code data_part (b ∷ bs) before in
    let same : element_of b ≡ version = same_head (element_of b) version (elements_of bs ++ elements_of before.checksum) others (sym whole ∙ versioned.parts) in
    record { parts = ap (λ (x : Fe32). x ∷ elements_of bs) same; fits = versioned.fits }

-- each version has a checksum of six characters
pub room-of_version : (version : Fe32) (data_part : List ℕ) → length (segwit_code version).generator ≤ length data_part → 6 ≤ length data_part
room-of_version version data_part room = let six : length (segwit_code version).generator ≡ 6 = short version in omega arith

pub before-of_version : (version : Fe32) (data_part characters : List ℕ) → IsBeforeChecksum bech32m data_part characters
    → IsBeforeChecksum (segwit_code version) data_part characters
before-of_version version data_part characters before = record { checksum = before.checksum; data_part_is = before.data_part_is; size = before.size ∙ sym (short version) }

module _ (text hrp d : List ℕ) (version : Fe32) (others : List Fe32) (versioned : IsVersioned (elements_of d) version others) where
  -- the checksum of that version is refused
  pub refused-by_checksum : (e : ChecksumError) → IsText text hrp d → IsChecksumRefusal (segwit_code version) (length text) hrp d e
      → IsAddressRefusal segwit_code text (Checksum e)
  refused-by_checksum e is refusal = inr (inr (inl (record {
    hrp = hrp;
    data_part = d;
    grammar = is;
    version = version;
    others = others;
    versioned = versioned;
    error = e;
    is = refl;
    refusal = refusal;
  })))

  module _ (accepted : IsAccepted (segwit_code version) text hrp d) (characters : List ℕ) (before : IsBeforeChecksum bech32m d characters) where
    pub refused-by_data : (e : SegwitHrpstringError) → IsDataRefusal (length text) (elements_of characters) e → IsAddressRefusal segwit_code text e
    refused-by_data e refusal = inr (inr (inr (record {
      hrp = hrp;
      data_part = d;
      version = version;
      others = others;
      versioned = versioned;
      accepted = accepted;
      characters = characters;
      before = before-of_version version d characters before;
      refusal = refusal;
    })))

    read-in : (v : Fe32) (program : List ℕ) → version ≡ v → IsDataOf (length text) characters v program → IsReadIn segwit_code text hrp v program
    read-in v program same h = record {
      data_part = d;
      accepted = subst (λ (x : Fe32). IsAccepted (segwit_code x) text hrp d) same accepted;
      checked = characters;
      before = before-of_version v d characters before;
      elements = h.elements;
      characters = h.characters;
      lawful = h.lawful;
    }

    pub outcome-from_data : IsVersioned (elements_of characters) version (elements_of (drop 1 characters)) → (r : Result AddressData SegwitHrpstringError)
        → MatchResult r (λ a. IsDataOf (length text) characters a.version a.program.now) (λ e. IsDataRefusal (length text) (elements_of characters) e)
        → MatchResult r (λ a. IsReadIn segwit_code text hrp a.version a.program.now) (λ e. IsAddressRefusal segwit_code text e)
    outcome-from_data begins (Ok a) h =
        read-in a.version a.program.now (same_head version a.version (elements_of (drop 1 characters)) (elements_of a.program.now) (sym begins.parts ∙ h.elements)) h
    outcome-from_data begins (Err e) h = refused-by_data e h
