-- A text that a checksum accepts is the only spelling of its elements, and a spelling is accepted.
use Rattle.std.proofs.Common.{◌≡◌, ◌≤◌, ◌<◌, ◌⊎◌, ◌∙◌, ◌+◌, ◌++◌, ℕ, true, nat_lt, List, None, Result, Ok, Err, map, length, length-append, take, refl, sym, ap, subst, arith, ⊎_elim, IfOk, IfErr}
use Rattle.std.proofs.lemmas.List.{length-map, map-append, take_at}
use Rattle.std.specs.Char.{to_ascii_uppercase}
use Rattle.std.specs.List.{list_all}
use Rattle.std.specs.Result.{IsOkUnless}
use Rattle.std.specs.Str.{IsUtf8}
use Rattle.bech32_gf.specs.Fe32.{ops, element_of, elements_of}
use Rattle.bech32_gf.specs.declared.gf32.Fe32.{Fe32}
use Rattle.bech32_poly.specs.Remainder.{IsRemainder}
use Rattle.bech32_bits.specs.Bits.{to_bytes, to_fes}
use Rattle.bech32_bits.proofs.RoundTrip.{to_bytes-to_fes}
use Rattle.bech32_checksum.specs.Code.{Code}
use Rattle.bech32_checksum.specs.Encoded.{spelled, IsEncodedText}
use Rattle.bech32_checksum.specs.TextPolynomial.{text_polynomial}
use Rattle.bech32_checksum.proofs.Uniqueness.{one_text, lower_encoded, lower_raised}
use Rattle.bech32_hrp.specs.Hrp.{IsHrp, lowered}
use Rattle.bech32_hrp.specs.HrpBytes.{hrp_bytes}
use Rattle.bech32_hrp.specs.declared.Hrp.{Hrp}
use Rattle.bech32_decode.specs.Acceptance.{Accepts, IsAccepted}
use Rattle.bech32_decode.specs.BeforeChecksum.{IsBeforeChecksum}
use Rattle.bech32_decode.specs.Checked.{IsCheckedRefusal, IsRefusedByChecksum}
use Rattle.bech32_decode.specs.SegwitPadding.{padding, IsPadded, IsPaddingRefusal}
use Rattle.bech32_decode.specs.Text.{IsText, text_refusal}
use Rattle.bech32_decode.proofs.Decoding.{not_valid, valid-from_accepts}
use Rattle.bech32_decode.proofs.Grammar.{only-from_IsText, text_refusal-none}
use Rattle.bech32_decode.proofs.Padding.{padded-to_fes, to_fes-to_bytes}
use Rattle.bech32_decode.proofs.Spelling.{in_one_case, lower_text, IsSpelled, spelled-lower, spelled-raised}
use Rattle.bech32_refusals.specs.declared.error.CheckedHrpstringError.{CheckedHrpstringError}
use Rattle.bech32_refusals.specs.declared.error.CheckedHrpstringError.TheVariants.{Parse as NoText, Checksum as NotAccepted}
use Rattle.bech32_refusals.specs.declared.error.ChecksumError.{ChecksumError}
use Rattle.bech32_refusals.specs.declared.error.PaddingError.{PaddingError}
use Rattle.bech32_refusals.specs.declared.error.PaddingError.TheVariants.{TooMuch, NonZero}
use Rattle.bech32_refusals.specs.Texts.{of_checked_text}
use Rattle.bech32.specs.Spelling.{IsSpelling, IsOnlySpelling, IsSpelledBy, IsPaddedText, SpellsBytes, IsStrictRefusal}
use Rattle.bech32_refusals.specs.declared.texts.TextError.{TextError}
use Rattle.bech32_refusals.specs.declared.texts.TextError.TheVariants.{Parse, Checksum, Padding, Memory}
use Rattle.bech32.proofs.RoundTrip.{accepted-from_spelled}

-- the elements of a data part are those before its checksum, and those of the checksum
elements-before : (code : Code) (data_part characters : List ℕ) (b : IsBeforeChecksum code data_part characters)
    → elements_of data_part ≡ elements_of characters ++ elements_of b.checksum
elements-before code data_part characters b = ap elements_of b.data_part_is ∙ map-append element_of characters b.checksum

-- ---- from an accepted text to what it spells

spelling-from_parts : (code : Code) (text hrp data_part characters : List ℕ) → IsAccepted code text hrp data_part → IsBeforeChecksum code data_part characters
    → IsSpelling code hrp (elements_of characters) text
spelling-from_parts code text hrp data_part characters a b =
    let sum = elements_of b.checksum in
    let all : elements_of data_part ≡ elements_of characters ++ sum = elements-before code data_part characters b in
    record {
      lower = lowered text;
      encoded = record {
        checksum = sum;
        is_checksum = record {
          size = length-map b.checksum element_of ∙ b.size;
          has_target = subst (λ (l : List Fe32). IsRemainder ops code.generator (text_polynomial hrp l) code.target) all a.has_target;
        };
        spelling = lower_text text hrp data_part a.grammar ∙ ap (spelled hrp) all;
      };
      in_one_case = in_one_case text hrp data_part a.grammar;
      fits = a.text_length;
    }

-- in lower case a spelling is the lower-case one
lowered-spelling : (code : Code) (hrp : List ℕ) (fes : List Fe32) (text : List ℕ) (s : IsSpelling code hrp fes text) → lowered text ≡ s.lower
lowered-spelling code hrp fes text s =
    let low : lowered s.lower ≡ s.lower = lower_encoded code hrp fes s.lower s.encoded in
    ⊎_elim
    (λ (same : text ≡ s.lower). ap lowered same ∙ low)
    (λ (same : text ≡ map to_ascii_uppercase s.lower). ap lowered same ∙ lower_raised s.lower low)
    s.in_one_case

only-spelling : (code : Code) (hrp : List ℕ) (fes : List Fe32) (text : List ℕ) → IsSpelling code hrp fes text → IsOnlySpelling code hrp fes text
only-spelling code hrp fes text s h t same other =
    lowered-spelling code h fes t other
    ∙ one_text code h hrp fes other.lower s.lower same other.encoded s.encoded
    ∙ sym (lowered-spelling code hrp fes text s)

pub spelled-from_parts : (code : Code) (text hrp data_part characters : List ℕ) → IsAccepted code text hrp data_part → IsBeforeChecksum code data_part characters
    → IsSpelledBy code text hrp (elements_of characters)
spelled-from_parts code text hrp data_part characters a b =
    let s = spelling-from_parts code text hrp data_part characters a b in
    record { has_part = (data_part, a.grammar); spelling = s; only = only-spelling code hrp (elements_of characters) text s }

-- padded elements are those of their bytes
pub spelled-from_padded : (code : Code) (text hrp data_part characters : List ℕ) → IsAccepted code text hrp data_part → IsBeforeChecksum code data_part characters
    → IsPadded (elements_of characters) → IsSpelledBy code text hrp (to_fes (to_bytes (elements_of characters)))
spelled-from_padded code text hrp data_part characters a b p =
    subst (λ (l : List Fe32). IsSpelledBy code text hrp l) (sym (to_fes-to_bytes (elements_of characters) p)) (spelled-from_parts code text hrp data_part characters a b)

pub spells-from_padded : (code : Code) (text hrp data_part characters : List ℕ) → IsAccepted code text hrp data_part → IsBeforeChecksum code data_part characters
    → IsPadded (elements_of characters) → SpellsBytes code text
spells-from_padded code text hrp data_part characters a b p =
    (hrp, to_bytes (elements_of characters), a.grammar.is_hrp, (spelled-from_padded code text hrp data_part characters a b p).spelling)

-- ---- from a spelling to the accepted text

-- a spelling in its parts
pub record IsInParts (code : Code) (text hrp : List ℕ) (fes : List Fe32) : Type 0 where
  pub part : List ℕ
  pub data_part : List ℕ
  pub checksum : List Fe32
  pub accepted : IsAccepted code text part data_part
  pub same_part : lowered part ≡ lowered hrp
  pub elements : elements_of data_part ≡ fes ++ checksum
  pub size : length checksum ≡ length code.generator

in_parts : (code : Code) (text hrp : List ℕ) (fes : List Fe32) (s : IsSpelling code hrp fes text) → IsSpelled text hrp (fes ++ s.encoded.checksum) → IsInParts code text hrp fes
in_parts code text hrp fes s is = record {
  part = is.part;
  data_part = is.data_part;
  checksum = s.encoded.checksum;
  accepted = accepted-from_spelled code hrp fes text s.lower s.encoded is s.fits;
  same_part = is.same_part;
  elements = is.elements;
  size = s.encoded.is_checksum.size;
}

pub parts-from_spelling : (code : Code) (text hrp : List ℕ) (fes : List Fe32) → IsHrp hrp → IsSpelling code hrp fes text → IsInParts code text hrp fes
parts-from_spelling code text hrp fes is_hrp s =
    let all : List Fe32 = fes ++ s.encoded.checksum in
    ⊎_elim
    (λ (same : text ≡ s.lower).
    in_parts code text hrp fes s (subst (λ (t : List ℕ). IsSpelled t hrp all) (sym (same ∙ s.encoded.spelling)) (spelled-lower hrp all is_hrp)))
    (λ (same : text ≡ map to_ascii_uppercase s.lower).
    in_parts code text hrp fes s (subst (λ (t : List ℕ). IsSpelled t hrp all) (sym (same ∙ ap (map to_ascii_uppercase) s.encoded.spelling)) (spelled-raised hrp all is_hrp)))
    s.in_one_case

-- lists that end in as many items begin alike
same_front : (xs ys zs ws : List Fe32) → xs ++ ys ≡ zs ++ ws → length ys ≡ length ws → xs ≡ zs
same_front xs ys zs ws e n =
    let left : length (xs ++ ys) ≡ length xs + length ys = length-append xs ys in
    let right : length (zs ++ ws) ≡ length zs + length ws = length-append zs ws in
    let whole : length (xs ++ ys) ≡ length (zs ++ ws) = ap length e in
    let size : length xs ≡ length zs = omega arith in
    sym (take_at xs ys (length xs) refl) ∙ ap (take (length xs)) e ∙ ap (λ (k : ℕ). take k (zs ++ ws)) size ∙ take_at zs ws (length zs) refl

-- the parts that are read of a spelling are those that it spells
pub same_parts : (code : Code) (text hrp : List ℕ) (fes : List Fe32) → IsInParts code text hrp fes
    → (part data_part characters : List ℕ) → IsAccepted code text part data_part → IsBeforeChecksum code data_part characters
    → (lowered part ≡ lowered hrp) × (elements_of characters ≡ fes)
same_parts code text hrp fes p part data_part characters a b =
    let same = only-from_IsText text p.part p.data_part p.accepted.grammar part data_part a.grammar.split a.grammar.data_bytes in
    let sum : length (elements_of b.checksum) ≡ length b.checksum = length-map b.checksum element_of in
    let ends : length (elements_of b.checksum) ≡ length p.checksum = sum ∙ b.size ∙ sym p.size in (
      ap lowered same.0 ∙ p.same_part,
      same_front (elements_of characters) (elements_of b.checksum) fes p.checksum
          (sym (elements-before code data_part characters b) ∙ ap elements_of same.1 ∙ p.elements) ends,
    )

-- a text spells one human-readable part, but for its case, and one list of elements
pub one_spelled : (code : Code) (text hrp other : List ℕ) (fes more : List Fe32) → IsHrp hrp → IsSpelling code hrp fes text → IsHrp other → IsSpelling code other more text
    → (lowered hrp ≡ lowered other) × (fes ≡ more)
one_spelled code text hrp other fes more is s is_other t =
    let p = parts-from_spelling code text hrp fes is s in
    let q = parts-from_spelling code text other more is_other t in
    let same = only-from_IsText text p.part p.data_part p.accepted.grammar q.part q.data_part q.accepted.grammar.split q.accepted.grammar.data_bytes in (
      sym p.same_part ∙ ap lowered (sym same.0) ∙ q.same_part,
      same_front fes p.checksum more q.checksum (sym p.elements ∙ ap elements_of (sym same.1) ∙ q.elements) (p.size ∙ sym q.size),
    )

-- ---- a spelling is not refused

pub not_unread : (code : Code) (text : List ℕ) → IsUtf8 text → Accepts code text → text_refusal text ≡ None
not_unread code text u (hrp, data_part, a) = text_refusal-none text u (hrp, data_part, a.grammar)

pub not_refused : (code : Code) (text : List ℕ) (h : Accepts code text) (e : ChecksumError) → IsRefusedByChecksum code text e → ⊥
not_refused code text h e r = not_valid code (length text) r.hrp r.data_part e r.refusal (valid-from_accepts code text r.hrp r.data_part r.grammar h)

no_padding_refusal : (fes : List Fe32) (e : PaddingError) → IsPadded fes → IsPaddingRefusal fes e → ⊥
no_padding_refusal fes TooMuch p h = let few : length (padding fes) ≤ 4 = p.few in absurd (omega arith)
no_padding_refusal fes NonZero p h = h.1 p.zeros

accepts-from_parts : (code : Code) (text hrp : List ℕ) (fes : List Fe32) → IsInParts code text hrp fes → Accepts code text
accepts-from_parts code text hrp fes p = (p.part, p.data_part, p.accepted)

-- what spells bytes is decoded, unless out of memory
pub decoded-from_strict : {D : Type 0} (code : Code) (text : List ℕ) → IsUtf8 text → (r : Result D TextError) → IfErr r (λ e. IsStrictRefusal code text e)
    → SpellsBytes code text → IsOkUnless r Memory
decoded-from_strict code text u (Ok d) h s = tt
decoded-from_strict code text u (Err (Parse e)) h (hrp, bytes, is, s) =
    let none : text_refusal text ≡ None = not_unread code text u (accepts-from_parts code text hrp (to_fes bytes) (parts-from_spelling code text hrp (to_fes bytes) is s)) in
    absurd cc
decoded-from_strict code text u (Err (Checksum e)) h (hrp, bytes, is, s) =
    absurd (not_refused code text (accepts-from_parts code text hrp (to_fes bytes) (parts-from_spelling code text hrp (to_fes bytes) is s)) e h)
decoded-from_strict code text u (Err (Padding e)) h (hrp, bytes, is, s) =
    let same = same_parts code text hrp (to_fes bytes) (parts-from_spelling code text hrp (to_fes bytes) is s) h.hrp h.data_part h.characters h.accepted h.before in
    absurd (no_padding_refusal (elements_of h.characters) e (subst IsPadded (sym same.1) (padded-to_fes bytes)) h.refusal)
decoded-from_strict code text u (Err Memory) h s = refl

-- ---- the outcome of decoding

-- why a checksum does not accept a text is why it is not decoded
pub refused_by_checked : (code : Code) (text : List ℕ) (e : CheckedHrpstringError) → IsCheckedRefusal code text e → IsStrictRefusal code text (of_checked_text e)
refused_by_checked code text (NoText e) h = h
refused_by_checked code text (NotAccepted e) h = h

pub spelled-from_outcome : {V : Type 0} (items : V → List ℕ) (code : Code) (text : List ℕ) (r : Result (Hrp × V) TextError)
    → IfOk r (λ d. IsPaddedText code text (hrp_bytes d.0) (items d.1)) → IfOk r (λ d. IsSpelledBy code text (hrp_bytes d.0) (to_fes (items d.1)))
spelled-from_outcome items code text (Ok d) h =
    subst (λ (b : List ℕ). IsSpelledBy code text (hrp_bytes d.0) (to_fes b)) (sym h.bytes_are)
    (spelled-from_padded code text (hrp_bytes d.0) h.data_part h.characters h.accepted h.before h.padded)
spelled-from_outcome items code text (Err e) h = tt

parts-from_outcome : {V : Type 0} (items : V → List ℕ) (code : Code) (text : List ℕ) (r : Result (Hrp × V) TextError)
    → IfOk r (λ d. IsPaddedText code text (hrp_bytes d.0) (items d.1))
    → (hrp bytes : List ℕ) → IsHrp hrp → list_all (λ b. nat_lt b 256) bytes ≡ true → IsSpelling code hrp (to_fes bytes) text
    → IfOk r (λ d. (lowered (hrp_bytes d.0) ≡ lowered hrp) × (items d.1 ≡ bytes))
parts-from_outcome items code text (Ok d) h hrp bytes is below s =
    let same = same_parts code text hrp (to_fes bytes) (parts-from_spelling code text hrp (to_fes bytes) is s) (hrp_bytes d.0) h.data_part h.characters h.accepted h.before in
    (same.0, h.bytes_are ∙ ap to_bytes same.1 ∙ to_bytes-to_fes bytes below)
parts-from_outcome items code text (Err e) h hrp bytes is below s = tt

pub bytes_back : {V : Type 0} (items : V → List ℕ) (code : Code) (text : List ℕ) → IsUtf8 text → (r : Result (Hrp × V) TextError)
    → IfOk r (λ d. IsPaddedText code text (hrp_bytes d.0) (items d.1)) → IfErr r (λ e. IsStrictRefusal code text e)
    → (hrp bytes : List ℕ) → IsHrp hrp → list_all (λ b. nat_lt b 256) bytes ≡ true → IsSpelling code hrp (to_fes bytes) text
    → IsOkUnless r Memory × IfOk r (λ d. (lowered (hrp_bytes d.0) ≡ lowered hrp) × (items d.1 ≡ bytes))
bytes_back items code text u r value refused hrp bytes is below s =
    (decoded-from_strict code text u r refused (hrp, bytes, is, s), parts-from_outcome items code text r value hrp bytes is below s)
