-- A damaged text as it is read, and why it is refused.
use Rattle.std.specs.Char.{IsScalar}
use Rattle.std.specs.List.{list_any}
use Rattle.std.specs.Str.{IsUtf8, chars}
use Rattle.std.proofs.Common.{◌≡◌, ◌≢◌, ℕ, ◌+◌, ◌≤◌, ◌&&◌, ◌||◌, Bool, true, false, cond, eqb, List, [], ◌∷◌, ◌++◌, Option, Some, None, length, map, inl, inr, refl, sym, ap, subst, ◌∙◌, append_assoc, length-append, arith}
use Rattle.std.proofs.Math.Utf8.{encode}
use Rattle.std.proofs.lemmas.Bool.{and_parts, cond-false, cond-true}
use Rattle.std.proofs.lemmas.Bool.Decides.{eqb_tells}
use Rattle.std.proofs.lemmas.List.{map-append}
use Rattle.std.proofs.lemmas.List.Folds.{list_any-append}
use Rattle.std.proofs.lemmas.Str.{IsUtf8-append, IsUtf8-encode, chars-append, chars_past_char, encode_ascii}
use Rattle.bech32_gf.specs.Alphabet.{is_data, is_of_alphabet}
use Rattle.bech32_gf.proofs.Characters.{below-from_alphabet, is_of_alphabet-high}
use Rattle.bech32_hrp.specs.Hrp.{IsHrp, first_of, hrp_refusal, is_lower, is_mixed_case, is_upper}
use Rattle.bech32_decode.specs.Text.{as_char, as_hrp, bad_hrp, invalid_character, last_stranger, missing_separator, mixed_case, split_at_last, text_refusal, unless_separator}
use Rattle.bech32_decode.proofs.Letters.{is_data-more}
use Rattle.bech32_decode.proofs.Texts.{invalid_character-at, separator-at, split_at_last-data}
use Rattle.bech32_refusals.specs.declared.error.CharError.{CharError}
use Rattle.bech32_refusals.specs.declared.error.CharError.TheVariants.{InvalidChar, MixedCase}
use Rattle.bech32_refusals.specs.declared.error.UncheckedHrpstringError.TheVariants.{Char}
use Rattle.codex32.specs.Damaged.{AreParts, read_character, read_data, read_text}
use Rattle.codex32.proofs.Locations.{count_data}
use Rattle.codex32.proofs.Reading.{read_encoded}
use Rattle.codex32.specs.Strings.{frame_refusal_by, codex32_length_fault, part_fault}
use Rattle.codex32.proofs.Refused.{past_grammar}
use Rattle.codex32.proofs.Separated.{is_split, none_read, read_none, read_text-split, split_at}
use lib.Utf8.{encodes, scalar, scalars}

-- ---- a text as it is read is a text

encodes-read : (cs : List ℕ) → read_data (encodes cs) ≡ encodes (map (λ c. read_character c) cs)
encodes-read [] = refl
encodes-read (c ∷ cs) =
    map-append (λ b. read_character b) (encode c) (encodes cs)
    ∙ ap (λ (t : List ℕ). t ++ read_data (encodes cs)) (read_encoded c)
    ∙ ap (λ (t : List ℕ). encode (read_character c) ++ t) (encodes-read cs)

scalar-read : (c : ℕ) → scalar c ≡ true → scalar (read_character c) ≡ true
scalar-read c s = elim (eqb_tells c 63) [
  | inl h ↦ ap (λ (b : Bool). scalar (cond b 48 c)) h.0
  | inr h ↦ ap (λ (b : Bool). scalar (cond b 48 c)) h.0 ∙ s
]

scalars-read : (cs : List ℕ) → scalars cs ≡ true → scalars (map (λ c. read_character c) cs) ≡ true
scalars-read [] s = refl
scalars-read (c ∷ cs) s =
    let parts = and_parts (scalar c) (scalars cs) s in
    ap (λ (b : Bool). b && scalars (map (λ d. read_character d) cs)) (scalar-read c parts.0) ∙ scalars-read cs parts.1

pub IsUtf8-read : (bs : List ℕ) → IsUtf8 bs → IsUtf8 (read_data bs)
IsUtf8-read bs u = (map (λ c. read_character c) u.0, (scalars-read u.0 u.1.0, sym (encodes-read u.0) ∙ ap (λ (t : List ℕ). read_data t) u.1.1))

separated : (behind : List ℕ) → IsUtf8 behind → IsUtf8 (49 ∷ behind)
separated behind u = IsUtf8-append (49 ∷ []) behind (subst IsUtf8 (encode_ascii 49 (omega arith)) (IsUtf8-encode 49 refl)) u

-- ---- its characters behind the last `1`, from the end

passed : (damaged front front' behind : List ℕ) (c : ℕ) → damaged ≡ front ++ behind → front ≡ front' ++ encode c → damaged ≡ front' ++ (encode c ++ behind)
passed damaged front front' behind c e f = e ∙ ap (λ (t : List ℕ). t ++ behind) f ∙ append_assoc front' (encode c) behind

-- what was passed, with one more character
pub passed_more : (damaged front front' behind : List ℕ) (c : ℕ) → damaged ≡ front ++ behind → front ≡ front' ++ encode c → is_data (read_data behind) ≡ true
    → is_of_alphabet (read_character c) ≡ true → (more : List ℕ) × (damaged ≡ front' ++ more) × (is_data (read_data more) ≡ true)
passed_more damaged front front' behind c e f h good =
    let read : read_data (encode c ++ behind) ≡ read_character c ∷ read_data behind =
    map-append (λ b. read_character b) (encode c) behind
    ∙ ap (λ (t : List ℕ). t ++ read_data behind) (read_encoded c ∙ encode_ascii (read_character c) (below-from_alphabet (read_character c) good)) in
    (encode c ++ behind, passed damaged front front' behind c e f, ap is_data read ∙ is_data-more (read_character c) (read_data behind) good h)

not_unreadable : is_of_alphabet 48 ≡ true
unfolding is_of_alphabet
not_unreadable = refl

-- the last character that may not stand there
pub stranger_there : (damaged front front' behind : List ℕ) (c : ℕ) → IsUtf8 damaged → IsScalar c → split_at_last damaged ≡ None → damaged ≡ front ++ behind
    → front ≡ front' ++ encode c → is_data (read_data behind) ≡ true → is_of_alphabet (read_character c) ≡ false
    → invalid_character (read_data damaged) ≡ Some (InvalidChar c)
stranger_there damaged front front' behind c u s none e f h n = elim (eqb_tells c 63) [
  | inl is ↦ absurd (let k = sym (ap (λ (b : Bool). is_of_alphabet (cond b 48 c)) is.0 ∙ not_unreadable) ∙ n in cc)
  | inr other ↦
      let whole : read_data damaged ≡ read_data front' ++ (encode c ++ read_data behind) =
      ap (λ (t : List ℕ). read_data t) (passed damaged front front' behind c e f)
      ∙ map-append (λ b. read_character b) front' (encode c ++ behind)
      ∙ ap (λ (t : List ℕ). read_data front' ++ t) (map-append (λ b. read_character b) (encode c) behind)
      ∙ ap (λ (t : List ℕ). read_data front' ++ (t ++ read_data behind)) (read_encoded c ∙ ap (λ (b : Bool). encode (cond b 48 c)) other.0) in
      let stranger : is_of_alphabet c ≡ false = sym (ap (λ (b : Bool). is_of_alphabet (cond b 48 c)) other.0) ∙ n in
      invalid_character-at (read_data damaged) (read_data front') (read_data behind) c (IsUtf8-read damaged u) s whole h stranger no_separator
]
  where
    no_separator : c ≢ 49
    no_separator is =
        let there : damaged ≡ front' ++ (49 ∷ behind) =
        passed damaged front front' behind c e f ∙ ap (λ (d : ℕ). front' ++ (encode d ++ behind)) is ∙ ap (λ (t : List ℕ). front' ++ (t ++ behind)) (encode_ascii 49 (omega arith)) in
        let cut : split_at_last damaged ≡ Some (front', behind) = ap split_at_last there ∙ split_at front' behind (read_none behind (split_at_last-data (read_data behind) h)) in
        absurd (let k = sym none ∙ cut in cc)

-- `?` stands in a data part as it is read
pub read_mark : (c : ℕ) → eqb c 63 ≡ true → is_of_alphabet (read_character c) ≡ true
read_mark c is = ap (λ (b : Bool). is_of_alphabet (cond b 48 c)) is ∙ not_unreadable

-- another character where it is of the alphabet
pub read_other : (c : ℕ) → eqb c 63 ≡ false → is_of_alphabet (read_character c) ≡ is_of_alphabet c
read_other c other = ap (λ (b : Bool). is_of_alphabet (cond b 48 c)) other

-- what is no ASCII does not
pub no_ascii : (c : ℕ) → 128 ≤ c → is_of_alphabet (read_character c) ≡ false
no_ascii c high = elim (eqb_tells c 63) [
  | inl h ↦ absurd (omega (arith, high, h.1))
  | inr h ↦ ap (λ (b : Bool). is_of_alphabet (cond b 48 c)) h.0 ∙ is_of_alphabet-high c high
]

-- ---- the faults of its grammar

lower-read : (b : ℕ) → is_lower (read_character b) ≡ is_lower b
lower-read b = elim (eqb_tells b 63) [
  | inl h ↦ ap (λ (t : Bool). is_lower (cond t 48 b)) h.0 ∙ ap is_lower (sym h.1)
  | inr h ↦ ap (λ (t : Bool). is_lower (cond t 48 b)) h.0
]

upper-read : (b : ℕ) → is_upper (read_character b) ≡ is_upper b
upper-read b = elim (eqb_tells b 63) [
  | inl h ↦ ap (λ (t : Bool). is_upper (cond t 48 b)) h.0 ∙ ap is_upper (sym h.1)
  | inr h ↦ ap (λ (t : Bool). is_upper (cond t 48 b)) h.0
]

any-read : (p : ℕ → Bool) → ((b : ℕ) → p (read_character b) ≡ p b) → (bs : List ℕ) → list_any p (read_data bs) ≡ list_any p bs
any-read p same [] = refl
any-read p same (b ∷ bs) = ap (λ (t : Bool). t || list_any p (read_data bs)) (same b) ∙ ap (λ (t : Bool). p b || t) (any-read p same bs)

any-behind : (p : ℕ → Bool) (front bs : List ℕ) → ((b : ℕ) → p (read_character b) ≡ p b) → list_any p (front ++ (49 ∷ read_data bs)) ≡ list_any p (front ++ (49 ∷ bs))
any-behind p front bs same =
    list_any-append p front (49 ∷ read_data bs)
    ∙ ap (λ (t : Bool). list_any p front || (p 49 || t)) (any-read p same bs)
    ∙ sym (list_any-append p front (49 ∷ bs))

last_stranger-behind : (front cs : List ℕ) (c : ℕ) → last_stranger cs ≡ Some c → last_stranger (front ++ cs) ≡ Some c
unfolding last_stranger
last_stranger-behind [] cs c h = h
last_stranger-behind (b ∷ bs) cs c h = ap (λ (o : Option ℕ). first_of o (cond (is_of_alphabet b) None (Some b))) (last_stranger-behind bs cs c h)

invalid-behind : (front cs : List ℕ) (o : Option ℕ) (e : CharError) → last_stranger cs ≡ o → unless_separator o ≡ Some e → unless_separator (last_stranger (front ++ cs)) ≡ Some e
invalid-behind front cs None e is h = absurd (cc)
invalid-behind front cs (Some c) e is h = ap unless_separator (last_stranger-behind front cs c is) ∙ h

-- a text of which these stand before and after the last `1`
module _ (text front damaged : List ℕ) (cut : split_at_last text ≡ Some (front, damaged)) where
  is_whole : text ≡ front ++ (49 ∷ damaged)
  is_whole = (is_split text front damaged cut).split

  is_read : read_text text ≡ front ++ (49 ∷ read_data damaged)
  is_read = read_text-split text front damaged cut

  pub none_behind : split_at_last damaged ≡ None
  none_behind = (is_split text front damaged cut).last

  cut-read : split_at_last (read_text text) ≡ Some (front, read_data damaged)
  cut-read = ap split_at_last is_read ∙ split_at front (read_data damaged) (none_read damaged none_behind)

  length-read : length (read_text text) ≡ length text
  length-read =
      let read : length (read_text text) ≡ length front + length (49 ∷ read_data damaged) = ap length is_read ∙ length-append front (49 ∷ read_data damaged) in
      let whole : length text ≡ length front + length (49 ∷ damaged) = ap length is_whole ∙ length-append front (49 ∷ damaged) in
      let same : length (read_data damaged) ≡ length damaged = count_data damaged in
      omega (arith, read, whole, same)

  mixed-read : is_mixed_case (read_text text) ≡ is_mixed_case text
  mixed-read =
      ap is_mixed_case is_read
      ∙ ap (λ (t : Bool). t && list_any is_upper (front ++ (49 ∷ read_data damaged))) (any-behind is_lower front damaged lower-read)
      ∙ ap (λ (t : Bool). list_any is_lower (front ++ (49 ∷ damaged)) && t) (any-behind is_upper front damaged upper-read)
      ∙ sym (ap is_mixed_case is_whole)

  -- its parts, where each of them is in the grammar
  pub parts-read : IsHrp front → is_data (read_data damaged) ≡ true → is_mixed_case text ≡ false → AreParts text front damaged
  parts-read is_hrp characters one = record {
    split = is_whole;
    cut = cut;
    grammar = record { split = is_read; is_hrp = is_hrp; data_bytes = characters; one_case = mixed-read ∙ one };
  }

  -- the faults of its grammar, in their order
  faults-read : text_refusal (read_text text) ≡ first_of (as_char (invalid_character (read_text text))) (first_of (as_char (mixed_case text)) (as_hrp (hrp_refusal front)))
  faults-read =
      ap (λ (p : Option (List ℕ × List ℕ)). first_of (as_char (invalid_character (read_text text))) (first_of (as_char (mixed_case (read_text text))) (first_of (as_char (missing_separator p)) (as_hrp (bad_hrp p))))) cut-read
      ∙ ap (λ (b : Bool). first_of (as_char (invalid_character (read_text text))) (first_of (as_char (cond b (Some MixedCase) None)) (as_hrp (hrp_refusal front)))) mixed-read

  -- past the grammar, these are left
  pub frame-read : (may : ℕ → Bool) → text_refusal (read_text text) ≡ None → frame_refusal_by may (read_text text) ≡ first_of (codex32_length_fault may (length text)) (part_fault front)
  frame-read may fine =
      past_grammar may (read_text text) front (read_data damaged) fine cut-read
      ∙ ap (λ (n : ℕ). first_of (codex32_length_fault may n) (part_fault front)) length-read

  module _ (front_text : IsUtf8 front) (damaged_text : IsUtf8 damaged) where
    read_is_text : IsUtf8 (read_text text)
    read_is_text = subst IsUtf8 (sym is_read) (IsUtf8-append front (49 ∷ read_data damaged) front_text (separated (read_data damaged) (IsUtf8-read damaged damaged_text)))

    valid-read : is_data (read_data damaged) ≡ true → invalid_character (read_text text) ≡ None
    valid-read h = separator-at (read_text text) front (read_data damaged) read_is_text is_read h

    invalid-read : (e : CharError) → invalid_character (read_data damaged) ≡ Some e → invalid_character (read_text text) ≡ Some e
    invalid-read e h =
        let behind : IsUtf8 (read_data damaged) = IsUtf8-read damaged damaged_text in
        let characters : chars (read_text text) ≡ chars front ++ (49 ∷ chars (read_data damaged)) =
        ap chars is_read ∙ chars-append front (49 ∷ read_data damaged) front_text
        ∙ ap (λ (t : List ℕ). chars front ++ t) (chars_past_char (49 ∷ read_data damaged) (read_data damaged) 49 (separated (read_data damaged) behind)
        (ap (λ (t : List ℕ). t ++ read_data damaged) (sym (encode_ascii 49 (omega arith))))) in
        ap (λ (t : List ℕ). unless_separator (last_stranger t)) (characters ∙ sym (append_assoc (chars front) (49 ∷ []) (chars (read_data damaged))))
        ∙ invalid-behind (chars front ++ (49 ∷ [])) (chars (read_data damaged)) (last_stranger (chars (read_data damaged))) e refl h

    past_invalid : (o : Option CharError) → invalid_character (read_text text) ≡ o → text_refusal (read_text text) ≡ first_of (as_char o) (first_of (as_char (mixed_case text)) (as_hrp (hrp_refusal front)))
    past_invalid o h = faults-read ∙ ap (λ (f : Option CharError). first_of (as_char f) (first_of (as_char (mixed_case text)) (as_hrp (hrp_refusal front)))) h

    pub refused_character : (e : CharError) → invalid_character (read_data damaged) ≡ Some e → text_refusal (read_text text) ≡ Some (Char e)
    refused_character e h = past_invalid (Some e) (invalid-read e h)

    pub refused_cases : is_data (read_data damaged) ≡ true → is_mixed_case text ≡ true → text_refusal (read_text text) ≡ Some (Char MixedCase)
    refused_cases h mixed =
        past_invalid None (valid-read h)
        ∙ ap (λ (f : Option CharError). first_of (as_char f) (as_hrp (hrp_refusal front))) (cond-true (is_mixed_case text) (Some MixedCase) None mixed)

    pub past_cases : is_data (read_data damaged) ≡ true → is_mixed_case text ≡ false → text_refusal (read_text text) ≡ as_hrp (hrp_refusal front)
    past_cases h one =
        past_invalid None (valid-read h)
        ∙ ap (λ (f : Option CharError). first_of (as_char f) (as_hrp (hrp_refusal front))) (cond-false (is_mixed_case text) (Some MixedCase) None one)
