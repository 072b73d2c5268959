-- Strings of either length: of what was read, and of elements; and none is refused.
use Rattle.std.specs.Prelude.{◌↔◌, IsOk, MatchResult}
use Rattle.std.specs.Str.{IsUtf8}
use Rattle.std.proofs.Common.{◌≡◌, ℕ, ◌+◌, true, List, [], ◌∷◌, ◌++◌, None, Result, Ok, Err, length, map, take, get_or, inl, inr, refl, sym, ap, subst, ◌∙◌, arith}
use Rattle.std.proofs.lemmas.Bool.{and_parts}
use Rattle.std.proofs.lemmas.List.{length-append, length-map, map-append}
use Rattle.bech32_gf.specs.Alphabet.{is_data, is_of_alphabet}
use Rattle.bech32_gf.specs.Fe32.{element_of, elements_of, ops}
use Rattle.bech32_gf.specs.declared.gf32.Fe32.{Fe32}
use Rattle.bech32_poly.specs.Remainder.{IsRemainder}
use Rattle.bech32_checksum.specs.Code.{Code}
use Rattle.bech32_checksum.specs.Encoded.{char_of_element, spelled}
use Rattle.bech32_checksum.specs.TextPolynomial.{text_polynomial}
use Rattle.bech32_hrp.specs.Hrp.{IsHrp}
use Rattle.bech32_decode.specs.Acceptance.{IsAccepted}
use Rattle.bech32_decode.specs.Text.{IsText}
use Rattle.bech32_decode.proofs.Grammar.{only-from_IsText, text_refusal-none}
use Rattle.bech32_decode.proofs.Letters.{is_data-drop}
use Rattle.bech32_decode.proofs.Spelling.{characters-elements, spelled-text}
use Rattle.codex32.specs.Code.{code_of_length}
use Rattle.codex32.specs.HeaderParts.{header_elements_of, secret_index, threshold_number}
use Rattle.codex32.specs.Share.{IsEither, IsShareOf, IsShareRefusal, IsShareString, identifier_of_share, index_of_share, payload_of_share, threshold_of_share}
use Rattle.codex32.specs.ShareParts.{ms}
use Rattle.codex32.specs.Strings.{IsBodyRefusalBy, header_fault, is_ms, is_threshold, is_within_either}
use Rattle.codex32.specs.declared.error.Codex32Error.{Codex32Error}
use Rattle.codex32.specs.declared.identifier.Identifier.{Identifier}
use Rattle.codex32.specs.declared.share.Share.{Share}
use Rattle.codex32.specs.declared.threshold.Threshold.{Threshold}
use Rattle.codex32.proofs.Digits.{digit_is, s_is, threshold_of_digit}
use Rattle.codex32.proofs.ShareParts.{checksum_in, fits, length-checksum, split-data}
use Rattle.codex32.proofs.Refused.{body_refuted, header_none, not_refused}

-- ---- what was read

pub string_of_share : (text hrp : List ℕ) (s : Share) → IsAccepted (code_of_length (length text)) text hrp s.data_part.now → is_ms hrp ≡ true → length text ≡ 3 + length s.data_part.now
    → IsShareString text (threshold_of_share s) (identifier_of_share s) (index_of_share s) (payload_of_share s)
string_of_share text hrp s accepted part size =
    let given : List ℕ = s.data_part.now in
    record {
      hrp = hrp;
      front = take 6 given;
      checksum = checksum_in given;
      accepted =
          subst (IsAccepted (code_of_length (length text)) text hrp)
          (sym (ap (λ (u : List ℕ). take 6 given ++ (u ++ checksum_in given)) s.payload_is ∙ split-data given)) accepted;
      is_ms = part;
      within = ap is_within_either size ∙ s.within;
      header = s.header_is;
      checksum_length = length-checksum given s.within ∙ ap (λ (n : ℕ). length (code_of_length n).generator) (sym size);
      unshared = s.header.unshared;
    }

pub share_of_text : (text hrp : List ℕ) (s : Share) → IsText text hrp s.data_part.now → IsAccepted (code_of_length (length text)) text hrp s.data_part.now → is_ms hrp ≡ true → length text ≡ 3 + length s.data_part.now
    → IsShareOf text s
share_of_text text hrp s is accepted part size = record { hrp = hrp; is_text = is; is_string = string_of_share text hrp s accepted part size }

-- ---- elements that are spelled

pub hrp_of_strings : IsHrp ms
hrp_of_strings = record { not_empty = omega arith; not_long = omega arith; graphic = refl; one_case = refl }

pub string_of_elements : (text : List ℕ) (t : Threshold) (i : Identifier) (x : Fe32) (payload checksum : List Fe32)
    → text ≡ spelled ms (header_elements_of t i x ++ (payload ++ checksum)) → is_within_either (length text) ≡ true → length checksum ≡ length (code_of_length (length text)).generator
    → IsRemainder ops (code_of_length (length text)).generator (text_polynomial ms (header_elements_of t i x ++ (payload ++ checksum))) (code_of_length (length text)).target
    → (threshold_number t ≡ 0 → x ≡ secret_index) → IsShareString text t i x (map char_of_element payload)
string_of_elements text t i x payload checksum spelling within size target unshared =
    let header : List Fe32 = header_elements_of t i x in
    let all : List Fe32 = header ++ (payload ++ checksum) in
    let code : Code = code_of_length (length text) in
    let sized = fits (length text) within in
    let parts : map char_of_element all ≡ map char_of_element header ++ (map char_of_element payload ++ map char_of_element checksum) =
    map-append char_of_element header (payload ++ checksum) ∙ ap (λ (u : List ℕ). map char_of_element header ++ u) (map-append char_of_element payload checksum) in
    let whole : length text ≡ 3 + length (map char_of_element all) = let k = ap length spelling in omega (arith, k) in
    let last : length (map char_of_element checksum) ≡ length checksum = length-map checksum char_of_element in
    let accepted : IsAccepted code text ms (map char_of_element all) =
    record {
      grammar = subst (λ (u : List ℕ). IsText u ms (map char_of_element all)) (sym spelling) (spelled-text ms all hrp_of_strings);
      text_length = sized.not_longer;
      data_length = omega (arith, sized.room, whole);
      has_target = subst (λ (es : List Fe32). IsRemainder ops code.generator (text_polynomial ms es) code.target) (sym (characters-elements all)) target;
    } in
    record {
      hrp = ms;
      front = map char_of_element header;
      checksum = map char_of_element checksum;
      accepted = subst (IsAccepted code text ms) parts accepted;
      is_ms = refl;
      within = within;
      header = characters-elements header;
      checksum_length = last ∙ size;
      unshared = unshared;
    }

-- ---- the first characters

-- of a string of either length nothing is wrong with these
wrong_size : (front : List ℕ) (t : Threshold) (i : Identifier) (x : Fe32) → elements_of front ≡ header_elements_of t i x → (length front ≡ 6 → ⊥) → ⊥
wrong_size front t i x header other =
    other (let full = i.full in let both = length-append i.elements (x ∷ []) in let k = ap length header in omega (arith, length-map front element_of, k, both, full))

header_fine : (front rest : List ℕ) (t : Threshold) (i : Identifier) (x : Fe32) → is_data (front ++ rest) ≡ true → elements_of front ≡ header_elements_of t i x → (threshold_number t ≡ 0 → x ≡ secret_index)
    → header_fault (front ++ rest) ≡ None
header_fine (a ∷ b ∷ c ∷ d ∷ e ∷ f ∷ []) rest t i x letters header unshared =
    let first = and_parts (is_of_alphabet a) (is_data (b ∷ c ∷ d ∷ e ∷ f ∷ rest)) letters in
    let last : is_of_alphabet f ≡ true = sixth a b c d e f rest letters in
    let size : length i.elements ≡ 4 = i.full in
    let digit : a ≡ 48 + t.number = digit_is a t.number first.0 t.lawful (ap (λ (es : List Fe32). get_or es 0 (element_of 0)) header) in
    let index : element_of f ≡ x = ap (λ (es : List Fe32). get_or es 5 (element_of 0)) header ∙ fifth i.elements x (element_of 0) size in
    header_none a f (b ∷ c ∷ d ∷ e ∷ []) rest refl (ap is_threshold digit ∙ threshold_of_digit t.number t.lawful)
    (λ zero. s_is f last (index ∙ unshared (omega (arith, zero, digit))))
  where
    sixth : (a b c d e f : ℕ) (rest : List ℕ) → is_data (a ∷ b ∷ c ∷ d ∷ e ∷ f ∷ rest) ≡ true → is_of_alphabet f ≡ true
    sixth a b c d e f rest h = (and_parts (is_of_alphabet f) (is_data rest) (is_data-drop 5 (a ∷ b ∷ c ∷ d ∷ e ∷ f ∷ rest) h)).0

    fifth : (es : List Fe32) (x z : Fe32) → length es ≡ 4 → get_or (es ++ (x ∷ [])) 4 z ≡ x
    fifth (a ∷ b ∷ c ∷ d ∷ []) x z size = refl
    fifth [] x z size = absurd (omega (arith, size))
    fifth (a ∷ []) x z size = absurd (omega (arith, size))
    fifth (a ∷ b ∷ []) x z size = absurd (omega (arith, size))
    fifth (a ∷ b ∷ c ∷ []) x z size = absurd (omega (arith, size))
    fifth (a ∷ b ∷ c ∷ d ∷ e ∷ es) x z size = absurd (omega (arith, size))
header_fine [] rest t i x letters header unshared = absurd (wrong_size [] t i x header (λ k. absurd (omega (arith, k))))
header_fine (a ∷ []) rest t i x letters header unshared = absurd (wrong_size (a ∷ []) t i x header (λ k. absurd (omega (arith, k))))
header_fine (a ∷ b ∷ []) rest t i x letters header unshared = absurd (wrong_size (a ∷ b ∷ []) t i x header (λ k. absurd (omega (arith, k))))
header_fine (a ∷ b ∷ c ∷ []) rest t i x letters header unshared = absurd (wrong_size (a ∷ b ∷ c ∷ []) t i x header (λ k. absurd (omega (arith, k))))
header_fine (a ∷ b ∷ c ∷ d ∷ []) rest t i x letters header unshared = absurd (wrong_size (a ∷ b ∷ c ∷ d ∷ []) t i x header (λ k. absurd (omega (arith, k))))
header_fine (a ∷ b ∷ c ∷ d ∷ e ∷ []) rest t i x letters header unshared = absurd (wrong_size (a ∷ b ∷ c ∷ d ∷ e ∷ []) t i x header (λ k. absurd (omega (arith, k))))
header_fine (a ∷ b ∷ c ∷ d ∷ e ∷ f ∷ g ∷ front) rest t i x letters header unshared = absurd (wrong_size (a ∷ b ∷ c ∷ d ∷ e ∷ f ∷ g ∷ front) t i x header (λ k. absurd (omega (arith, k))))

-- ---- none is refused

refuted : (text : List ℕ) (e : Codex32Error) → IsUtf8 text → IsEither text → IsShareRefusal text e → ⊥
refuted text e u (t, i, x, payload, is) (inl h) =
    absurd (let k = sym (not_refused is_within_either text is.hrp (is.front ++ (payload ++ is.checksum))
    (text_refusal-none text u (is.hrp, is.front ++ (payload ++ is.checksum), is.accepted.grammar)) is.within is.accepted.grammar is.is_ms) ∙ h in cc)
refuted text e u (t, i, x, payload, is) (inr later) =
    let given : List ℕ = is.front ++ (payload ++ is.checksum) in
    let code : Code = code_of_length (length text) in
    let (same_hrp, same_data) = only-from_IsText text is.hrp given is.accepted.grammar later.hrp later.data_part later.grammar.split later.grammar.data_bytes in
    body_refuted code text is.hrp given e is.accepted (header_fine is.front (payload ++ is.checksum) t i x is.accepted.grammar.data_bytes is.header is.unshared)
    (subst (λ (h : List ℕ). IsBodyRefusalBy code text h given e) same_hrp
    (subst (λ (d : List ℕ). IsBodyRefusalBy code text later.hrp d e) same_data later.refusal))

pub accepts-from_outcome : (text : List ℕ) → IsUtf8 text → (r : Result Share Codex32Error) → MatchResult r (λ s. IsShareOf text s) (λ e. IsShareRefusal text e) → IsOk r ↔ IsEither text
accepts-from_outcome text u (Ok s) h = (λ _. (threshold_of_share s, identifier_of_share s, index_of_share s, payload_of_share s, h.is_string), λ _. refl)
accepts-from_outcome text u (Err e) h = (λ ok. absurd cc, λ is. absurd (refuted text e u is h))
