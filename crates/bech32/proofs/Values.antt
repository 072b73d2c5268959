-- Numbers that are elements, and the elements of characters as numbers.
use Rattle.std.specs.Prelude.{All, position, nat_lt}
use Rattle.std.proofs.Common.{◌≡◌, ◌≤◌, ◌<◌, ◌∙◌, ◌+◌, ◌-◌, ◌%◌, ◌^◌, ◌≢◌, ◌++◌, ℕ, Bool, true, false, cond, not, ltb, ltb-false, List, [], ◌∷◌, Option, Some, None, Result, Ok, Err, get_or, set, map, length, length-append, take, drop, min, append_assoc, refl, rules, sym, ap, subst, arith, IfOk, IfErr, MatchOption}
use Rattle.std.proofs.lemmas.List.{drop_more, length-map, length-take-le, map-append, map_more, set_at}
use Rattle.std.proofs.lemmas.List.Elements.{All-cons, All-from_get_or, All-get_or, All-head, All-nil, All-tail}
use Rattle.std.proofs.lemmas.List.Sums.{prefix_len_passes, prefix_len_stops}
use Rattle.std.specs.List.{position_or_len}
use Rattle.std.specs.Result.{IsOkUnless}
use Rattle.std.specs.Str.{IsUtf8}
use Rattle.bech32_gf.specs.Fe32.{element, element_of, elements_of, path, value}
use Rattle.bech32_gf.specs.declared.gf32.Fe32.{Fe32}
use Rattle.bech32_checksum.specs.Code.{Code}
use Rattle.bech32_checksum.specs.Encoded.{IsEncodedText}
use Rattle.bech32_checksum.proofs.Uniqueness.{length-encoded}
use Rattle.bech32_hrp.specs.Hrp.{IsHrp, lowered}
use Rattle.bech32_hrp.specs.HrpBytes.{hrp_bytes}
use Rattle.bech32_hrp.specs.declared.Hrp.{Hrp}
use Rattle.bech32_decode.specs.Acceptance.{Accepts, IsAccepted}
use Rattle.bech32_decode.specs.BeforeChecksum.{IsBeforeChecksum}
use Rattle.bech32_decode.specs.Checked.{IsCheckedRefusal}
use Rattle.bech32_encode.specs.Buffers.{IsPut}
use Rattle.bech32_encode.specs.TextLength.{encoded_length_of}
use Rattle.bech32_encode.proofs.Encoding.{filled_buffer}
use Rattle.bech32_refusals.specs.declared.error.CodeLengthError.{CodeLengthError}
use Rattle.bech32_refusals.specs.declared.error.CheckedHrpstringError.{CheckedHrpstringError}
use Rattle.bech32_refusals.specs.declared.error.CheckedHrpstringError.TheVariants.{Parse as NoText, Checksum as NotAccepted}
use Rattle.bech32_refusals.specs.Texts.{of_checked_text}
use Rattle.bech32.specs.Elements.{AreValues, IsElementsDecodeRefusal, IsInElements, elements_in, first_above}
use Rattle.bech32.specs.Spelling.{IsSpelledBy, IsSpelling}
use Rattle.bech32_refusals.specs.declared.texts.TextError.{TextError}
use Rattle.bech32_refusals.specs.declared.texts.TextError.TheVariants.{Parse, Checksum, Padding, Memory}
use Rattle.bech32.proofs.Spellings.{not_refused, not_unread, parts-from_spelling, same_parts, spelled-from_parts}

-- ---- numbers above 31

none-when : (b : Bool) (n : ℕ) → cond b (Some n) None ≡ None → b ≡ false
none-when true n e = absurd (cc)
none-when false n e = refl

some-when : (b : Bool) (n p : ℕ) → cond b (Some n) None ≡ Some p → (b ≡ true) × (n ≡ p)
some-when true n p e = let same : n ≡ p = cc in (refl, same)
some-when false n p e = absurd (cc)

passed : (b : Bool) → not b ≡ true → b ≡ false
passed true h = absurd (cc)
passed false h = refl

abbrev is_above : ℕ → Bool
is_above x = nat_lt 31 x

-- where none is found, each is that of an element
pub values-from_none : (values : List ℕ) → first_above values ≡ None → AreValues values
values-from_none values e =
    let n = position_or_len is_above values in
    let all : length values ≤ n = ltb-false n (length values) (none-when (nat_lt n (length values)) n e) in
    All-from_get_or (λ x. x ≤ 31) values 0
    (λ k l. ltb-false 31 (get_or values k 0) (passed (is_above (get_or values k 0)) (prefix_len_passes (λ x. not (is_above x)) values k 0 (omega arith))))

-- what is found
pub found_above : (values : List ℕ) (r : Option ℕ) → r ≡ first_above values → MatchOption r (AreValues values) (λ place. first_above values ≡ Some place)
found_above values None e = values-from_none values (sym e)
found_above values (Some place) e = sym e

-- where one is found, that is above 31
pub none-from_values : (values : List ℕ) (place : ℕ) → AreValues values → first_above values ≡ Some place → ⊥
none-from_values values place h e =
    let n = position_or_len is_above values in
    let (found, same) = some-when (nat_lt n (length values)) n place e in
    let within : n < length values = search rules in
    let small : get_or values n 0 ≤ 31 = All-get_or (λ x. x ≤ 31) values n 0 within h in
    let stops : not (is_above (get_or values n 0)) ≡ false = prefix_len_stops (λ x. not (is_above x)) values 0 within in
    grind arith

-- ---- numbers and elements

pub elements-values : (fes : List Fe32) → elements_in (map value fes) ≡ fes
elements-values [] = refl
elements-values (x ∷ fes) =
    let lt : x.value < 32 = x.in_field in
    let same : element x.value ≡ x = path (element x.value) x (omega arith) in
    ap (λ (y : Fe32). y ∷ elements_in (map value fes)) same ∙ ap (λ (l : List Fe32). x ∷ l) (elements-values fes)

pub values-elements : (values : List ℕ) → AreValues values → map value (elements_in values) ≡ values
values-elements [] h = refl
values-elements (x ∷ values) h =
    let small : x ≤ 31 = All-head (λ n. n ≤ 31) x values h in
    let same : x % 32 ≡ x = omega arith in
    ap (λ (n : ℕ). n ∷ map value (elements_in values)) same ∙ ap (λ (l : List ℕ). x ∷ l) (values-elements values (All-tail (λ n. n ≤ 31) x values h))

pub are_values : (fes : List Fe32) → AreValues (map value fes)
are_values [] = All-nil (λ n. n ≤ 31)
are_values (x ∷ fes) =
    let lt : x.value < 32 = x.in_field in
    All-cons (λ n. n ≤ 31) x.value (map value fes) (omega arith) (are_values fes)

-- ---- the elements of characters in a buffer

abbrev values_of : List ℕ → List ℕ
values_of characters = map value (elements_of characters)

values-more : (characters : List ℕ) (i : ℕ) → i < length characters
    → values_of (take (i + 1) characters) ≡ values_of (take i characters) ++ (element_of (get_or characters i 0)).value ∷ []
values-more characters i l =
    ap (map value) (map_more element_of characters i 0 l)
    ∙ map-append value (elements_of (take i characters)) (element_of (get_or characters i 0) ∷ [])

-- one more behind those that were put
pub value_more : (characters old before : List ℕ) (i byte : ℕ) → i < length characters → length characters ≤ length old
    → byte ≡ (element_of (get_or characters i 0)).value
    → before ≡ values_of (take i characters) ++ drop i old
    → set before i byte ≡ values_of (take (i + 1) characters) ++ drop (i + 1) old
value_more characters old before i byte l room is so_far =
    let front : List ℕ = values_of (take i characters) in
    let size : length front ≡ i =
    length-map (elements_of (take i characters)) value ∙ length-map (take i characters) element_of ∙ length-take-le i characters (omega arith) in
    ap (λ (b : List ℕ). set b i byte) (so_far ∙ ap (λ (b : List ℕ). front ++ b) (drop_more old i 0 (omega arith)))
    ∙ set_at front (get_or old i 0) (drop (i + 1) old) byte i size
    ∙ sym (append_assoc front (byte ∷ []) (drop (i + 1) old))
    ∙ ap (λ (n : ℕ). (front ++ n ∷ []) ++ drop (i + 1) old) is
    ∙ ap (λ (b : List ℕ). b ++ drop (i + 1) old) (sym (values-more characters i l))

-- ---- a walk

-- ---- the text of elements

-- errors of equal lengths are equal
abbrev lengths : ℕ → ℕ → CodeLengthError
lengths n m = record { encoded_length = n; code_length = m }

pub same_lengths : (a b m n : ℕ) → a ≡ b → m ≡ n
    → ◌≡◌ {A = CodeLengthError} (record { encoded_length = a; code_length = m }) (record { encoded_length = b; code_length = n })
same_lengths a b m n e f = ap (λ (x : ℕ). lengths x m) e ∙ ap (lengths b) f

-- a buffer of its length is filled
pub elements_fill : (code : Code) (hrp : List ℕ) (fes : List Fe32) (text old new behind : List ℕ) (count size : ℕ)
    → IsEncodedText code hrp fes text → size ≡ encoded_length_of code hrp fes → size ≢ 2 ^ 64 - 1
    → length old ≡ size → (length text ≤ length old → IsPut text old new count) → take size (new ++ behind) ≡ text
elements_fill code hrp fes text old new behind count size is sized less room put =
    let long : length text ≡ length hrp + 1 + length fes + length code.generator = length-encoded code hrp fes text is in
    let whole : size ≡ length hrp + 1 + length fes + length code.generator = omega arith in
    ap (λ (k : ℕ). take k (new ++ behind)) (sym room) ∙ filled_buffer text old new behind count (put (omega arith)) (omega arith)

-- ---- the outcome of decoding

-- why a checksum does not accept a text is why it is not decoded
pub elements_refused : (code : Code) (text : List ℕ) (e : CheckedHrpstringError) → IsCheckedRefusal code text e → IsElementsDecodeRefusal code text (of_checked_text e)
elements_refused code text (NoText e) h = h
elements_refused code text (NotAccepted e) h = h

pub decoded-from_elements : {D : Type 0} (code : Code) (text : List ℕ) → IsUtf8 text → (r : Result D TextError) → IfErr r (λ e. IsElementsDecodeRefusal code text e)
    → Accepts code text → IsOkUnless r Memory
decoded-from_elements code text u (Ok d) h a = tt
decoded-from_elements code text u (Err (Parse e)) h a = let none = not_unread code text u a in absurd (cc)
decoded-from_elements code text u (Err (Checksum e)) h a = absurd (not_refused code text a e h)
decoded-from_elements code text u (Err (Padding e)) h a = absurd h
decoded-from_elements code text u (Err Memory) h a = refl

-- the numbers of elements spell what these do
pub spelled-from_values : (code : Code) (text hrp values data_part characters : List ℕ) → values ≡ values_of characters → IsAccepted code text hrp data_part
    → IsBeforeChecksum code data_part characters → IsSpelledBy code text hrp (elements_in values)
spelled-from_values code text hrp values data_part characters is a b =
    subst (λ (l : List Fe32). IsSpelledBy code text hrp l) (sym (ap elements_in is ∙ elements-values (elements_of characters)))
    (spelled-from_parts code text hrp data_part characters a b)

pub elements-from_outcome : {V : Type 0} (items : V → List ℕ) (code : Code) (text : List ℕ) (r : Result (Hrp × V) TextError)
    → IfOk r (λ d. IsInElements code text (hrp_bytes d.0) (items d.1)) → IfOk r (λ d. IsSpelledBy code text (hrp_bytes d.0) (elements_in (items d.1)))
elements-from_outcome items code text (Ok d) h = spelled-from_values code text (hrp_bytes d.0) (items d.1) h.data_part h.characters h.values_are h.accepted h.before
elements-from_outcome items code text (Err e) h = tt

pub values-from_outcome : {V : Type 0} (items : V → List ℕ) (code : Code) (text : List ℕ) (r : Result (Hrp × V) TextError)
    → IfOk r (λ d. IsInElements code text (hrp_bytes d.0) (items d.1)) → IfOk r (λ d. AreValues (items d.1))
values-from_outcome items code text (Ok d) h = subst AreValues (sym h.values_are) (are_values (elements_of h.characters))
values-from_outcome items code text (Err e) h = tt

parts-from_elements : {V : Type 0} (items : V → List ℕ) (code : Code) (text : List ℕ) (r : Result (Hrp × V) TextError)
    → IfOk r (λ d. IsInElements code text (hrp_bytes d.0) (items d.1))
    → (hrp values : List ℕ) → IsHrp hrp → AreValues values → IsSpelling code hrp (elements_in values) text
    → IfOk r (λ d. (lowered (hrp_bytes d.0) ≡ lowered hrp) × (items d.1 ≡ values))
parts-from_elements items code text (Ok d) h hrp values is small s =
    let same = same_parts code text hrp (elements_in values) (parts-from_spelling code text hrp (elements_in values) is s) (hrp_bytes d.0) h.data_part h.characters h.accepted h.before in
    (same.0, h.values_are ∙ ap (map value) same.1 ∙ values-elements values small)
parts-from_elements items code text (Err e) h hrp values is small s = tt

pub elements_back : {V : Type 0} (items : V → List ℕ) (code : Code) (text : List ℕ) → IsUtf8 text → (r : Result (Hrp × V) TextError)
    → IfOk r (λ d. IsInElements code text (hrp_bytes d.0) (items d.1)) → IfErr r (λ e. IsElementsDecodeRefusal code text e)
    → (hrp values : List ℕ) → IsHrp hrp → AreValues values → IsSpelling code hrp (elements_in values) text
    → IsOkUnless r Memory × IfOk r (λ d. (lowered (hrp_bytes d.0) ≡ lowered hrp) × (items d.1 ≡ values))
elements_back items code text u r value refused hrp values is small s =
    let p = parts-from_spelling code text hrp (elements_in values) is s in
    (decoded-from_elements code text u r refused (p.part, p.data_part, p.accepted), parts-from_elements items code text r value hrp values is small s)
