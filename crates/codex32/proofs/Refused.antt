-- Texts in their parts, and why they are refused.
use Rattle.std.specs.Prelude.{◌↔◌, ◌&&◌, not, nat_le}
use Rattle.std.specs.Char.{to_ascii_lowercase}
use Rattle.std.proofs.Common.{◌≡◌, ℕ, ◌+◌, ◌≤◌, Bool, true, false, cond, eqb, List, [], ◌∷◌, ◌++◌, Option, Some, None, length, inl, inr, refl, sym, ap, ◌∙◌, arith}
use Rattle.std.proofs.lemmas.Bool.{and_cases, and_left, and_parts, and_right, cases_Bool, cond-false, cond-true, eq-eqb, eqb-true, false_from_ne_true, leb-true, not-false, not_from_true}
use Rattle.std.proofs.lemmas.List.{length-append, length-map}
use Rattle.bech32_hrp.specs.Hrp.{first_of, lowered}
use Rattle.bech32_decode.specs.Acceptance.{IsAccepted}
use Rattle.bech32_decode.specs.Text.{IsText, split_at_last, text_refusal}
use Rattle.bech32_decode.proofs.Decoding.{not_valid}
use Rattle.bech32_decode.proofs.Grammar.{none_first}
use Rattle.bech32_decode.proofs.Texts.{split_at_last-at}
use Rattle.bech32_refusals.specs.declared.error.UncheckedHrpstringError.{UncheckedHrpstringError}
use Rattle.bech32_checksum.specs.Code.{Code}
use Rattle.codex32.specs.Strings.{IsBodyRefusalBy, as_text, frame_refusal, frame_refusal_by, header_fault, hrp_fault, is_ms, is_threshold, is_within, codex32_length_fault, part_fault, share_index_fault, threshold_fault}
use Rattle.codex32.specs.declared.error.Codex32Error.{Codex32Error}
use Rattle.codex32.specs.declared.error.Codex32Error.TheVariants.{Text, Length, Hrp, Checksum, Threshold, ShareIndex, Memory}
use lib.Pointwise.{bytes_decides}

-- ---- the human-readable part

-- the test by lower cases
pub ms-tested : (hrp : List ℕ) (r : Bool) → (r ≡ true) ↔ (lowered hrp ≡ 109 ∷ 115 ∷ []) → r ≡ is_ms hrp
ms-tested hrp true h = sym ((bytes_decides (lowered hrp) (109 ∷ 115 ∷ [])).1 (h.0 refl))
ms-tested hrp false h = sym (false_from_ne_true (is_ms hrp) (λ t. absurd (let e = h.1 ((bytes_decides (lowered hrp) (109 ∷ 115 ∷ [])).0 t) in cc)))

pub lowered_ms : (hrp : List ℕ) → is_ms hrp ≡ true → lowered hrp ≡ 109 ∷ 115 ∷ []
lowered_ms hrp t = (bytes_decides (lowered hrp) (109 ∷ 115 ∷ [])).0 t

ms_length : (hrp : List ℕ) → is_ms hrp ≡ true → length hrp ≡ 2
ms_length hrp t = sym (length-map hrp to_ascii_lowercase) ∙ ap length ((bytes_decides (lowered hrp) (109 ∷ 115 ∷ [])).0 t)

pub cut_of : (text hrp data_part : List ℕ) → IsText text hrp data_part → split_at_last text ≡ Some (hrp, data_part)
cut_of text hrp data_part is = ap split_at_last is.split ∙ split_at_last-at hrp data_part is.data_bytes

none_hrp : (hrp : List ℕ) → cond (is_ms hrp) None (Some Hrp) ≡ None → is_ms hrp ≡ true
none_hrp hrp h = elim (cases_Bool (is_ms hrp)) [
  | inl fine ↦ fine
  | inr other ↦ absurd (let e = sym (cond-false (is_ms hrp) None (Some Hrp) other) ∙ h in cc)
]

-- ---- what is asked before the checksum, where a test says how many characters there may be

module _ (may : ℕ → Bool) where
  past_text : (text : List ℕ) → text_refusal text ≡ None → frame_refusal_by may text ≡ first_of (codex32_length_fault may (length text)) (hrp_fault (split_at_last text))
  past_text text h = ap (λ (o : Option UncheckedHrpstringError). first_of (as_text o) (first_of (codex32_length_fault may (length text)) (hrp_fault (split_at_last text)))) h

  -- the length, and then the human-readable part
  pub refused_length : (n : ℕ) (hrp : List ℕ) → may n ≡ false → first_of (codex32_length_fault may n) (part_fault hrp) ≡ Some Length
  refused_length n hrp out = ap (λ (b : Bool). first_of (cond b None (Some Length)) (part_fault hrp)) out

  past_length : (n : ℕ) (hrp : List ℕ) → may n ≡ true → first_of (codex32_length_fault may n) (part_fault hrp) ≡ part_fault hrp
  past_length n hrp within = ap (λ (b : Bool). first_of (cond b None (Some Length)) (part_fault hrp)) within

  pub refused_hrp : (n : ℕ) (hrp : List ℕ) → may n ≡ true → is_ms hrp ≡ false → first_of (codex32_length_fault may n) (part_fault hrp) ≡ Some Hrp
  refused_hrp n hrp within other = past_length n hrp within ∙ cond-false (is_ms hrp) None (Some Hrp) other

  pub fine_outline : (n : ℕ) (hrp : List ℕ) → may n ≡ true → is_ms hrp ≡ true → first_of (codex32_length_fault may n) (part_fault hrp) ≡ None
  fine_outline n hrp within ms = past_length n hrp within ∙ cond-true (is_ms hrp) None (Some Hrp) ms

  -- past the grammar, these are left
  pub past_grammar : (text hrp behind : List ℕ) → text_refusal text ≡ None → split_at_last text ≡ Some (hrp, behind)
      → frame_refusal_by may text ≡ first_of (codex32_length_fault may (length text)) (part_fault hrp)
  past_grammar text hrp behind h cut = past_text text h ∙ ap (λ (p : Option (List ℕ × List ℕ)). first_of (codex32_length_fault may (length text)) (hrp_fault p)) cut

  pub past_parts : (text hrp data_part : List ℕ) → text_refusal text ≡ None → IsText text hrp data_part → frame_refusal_by may text ≡ first_of (codex32_length_fault may (length text)) (part_fault hrp)
  past_parts text hrp data_part h is = past_grammar text hrp data_part h (cut_of text hrp data_part is)

  pub not_refused : (text hrp data_part : List ℕ) → text_refusal text ≡ None → may (length text) ≡ true → IsText text hrp data_part
      → is_ms hrp ≡ true → frame_refusal_by may text ≡ None
  not_refused text hrp data_part h within is ms = past_parts text hrp data_part h is ∙ fine_outline (length text) hrp within ms

  -- what is so of a text of which nothing of that is wrong
  pub record IsFramedBy (text hrp data_part : List ℕ) : Type 0 where
    pub within : may (length text) ≡ true
    pub is_ms : is_ms hrp ≡ true
    pub two : length hrp ≡ 2
    pub size : length text ≡ 3 + length data_part

  none_length : (n : ℕ) → codex32_length_fault may n ≡ None → may n ≡ true
  none_length n h = elim (cases_Bool (may n)) [
    | inl fine ↦ fine
    | inr out ↦ absurd (let e = sym (cond-false (may n) None (Some Length) out) ∙ h in cc)
  ]

  pub framed_by-from : (text hrp data_part : List ℕ) → frame_refusal_by may text ≡ None → IsText text hrp data_part → IsFramedBy text hrp data_part
  framed_by-from text hrp data_part h is =
      let first = none_first (as_text (text_refusal text)) (first_of (codex32_length_fault may (length text)) (hrp_fault (split_at_last text))) h in
      let second = none_first (codex32_length_fault may (length text)) (hrp_fault (split_at_last text)) first.1 in
      let ms : is_ms hrp ≡ true = none_hrp hrp (sym (ap hrp_fault (cut_of text hrp data_part is)) ∙ second.1) in
      let two : length hrp ≡ 2 = ms_length hrp ms in
      let whole : length text ≡ length hrp + length (49 ∷ data_part) = ap length is.split ∙ length-append hrp (49 ∷ data_part) in
      record { within = none_length (length text) second.0; is_ms = ms; two = two; size = omega (arith, two, whole) }

-- the same of 48 to 93 characters
pub record IsFramed (text hrp data_part : List ℕ) : Type 0 where
  pub long : 48 ≤ length text
  pub short : length text ≤ 93
  pub is_ms : is_ms hrp ≡ true
  pub two : length hrp ≡ 2
  pub size : length text ≡ 3 + length data_part

pub framed-from : (text hrp data_part : List ℕ) → frame_refusal text ≡ None → IsText text hrp data_part → IsFramed text hrp data_part
framed-from text hrp data_part h is =
    let framed = framed_by-from is_within text hrp data_part h is in
    let parts = and_parts (nat_le 48 (length text)) (nat_le (length text) 93) framed.within in
    record { long = leb-true 48 (length text) parts.0; short = leb-true (length text) 93 parts.1; is_ms = framed.is_ms; two = framed.two; size = framed.size }

-- ---- the first characters

pub none_threshold : (c : ℕ) → threshold_fault c ≡ None → is_threshold c ≡ true
none_threshold c h = elim (cases_Bool (is_threshold c)) [
  | inl fine ↦ fine
  | inr other ↦ absurd (let e = sym (cond-false (is_threshold c) None (Some Threshold) other) ∙ h in cc)
]

abbrev is_shared : ℕ → ℕ → Bool
is_shared t c = eqb t 48 && not (eqb (to_ascii_lowercase c) 115)

pub none_share_index : (t c : ℕ) → share_index_fault t c ≡ None → t ≡ 48 → to_ascii_lowercase c ≡ 115
none_share_index t c h e = elim (cases_Bool (is_shared t c)) [
  | inl bad ↦ absurd (let k = sym (cond-true (is_shared t c) (Some ShareIndex) None bad) ∙ h in cc)
  | inr fine ↦ elim (and_cases (eqb t 48) (not (eqb (to_ascii_lowercase c) 115)) fine) [
    | inl other ↦ absurd (let k = eq-eqb t 48 e in cc)
    | inr same ↦ eqb-true (to_ascii_lowercase c) 115 (not-false (eqb (to_ascii_lowercase c) 115) same)
  ]
]

share_index_none : (t c : ℕ) → (t ≡ 48 → to_ascii_lowercase c ≡ 115) → share_index_fault t c ≡ None
share_index_none t c f = elim (cases_Bool (eqb t 48)) [
  | inl zero ↦ cond-false (is_shared t c) (Some ShareIndex) None
      (and_right (eqb t 48) (not (eqb (to_ascii_lowercase c) 115)) (not_from_true (eqb (to_ascii_lowercase c) 115) (eq-eqb (to_ascii_lowercase c) 115 (f (eqb-true t 48 zero)))))
  | inr other ↦ cond-false (is_shared t c) (Some ShareIndex) None (and_left (eqb t 48) (not (eqb (to_ascii_lowercase c) 115)) other)
]

pub header_none : (t c : ℕ) (identifier rest : List ℕ) → length identifier ≡ 4 → is_threshold t ≡ true → (t ≡ 48 → to_ascii_lowercase c ≡ 115) → header_fault (t ∷ (identifier ++ (c ∷ rest))) ≡ None
header_none t c (i ∷ j ∷ k ∷ l ∷ []) rest four digit unshared =
    ap (λ (b : Bool). first_of (cond b None (Some Threshold)) (share_index_fault t c)) digit ∙ share_index_none t c unshared
header_none t c [] rest four digit unshared = absurd (omega (arith, four))
header_none t c (i ∷ []) rest four digit unshared = absurd (omega (arith, four))
header_none t c (i ∷ j ∷ []) rest four digit unshared = absurd (omega (arith, four))
header_none t c (i ∷ j ∷ k ∷ []) rest four digit unshared = absurd (omega (arith, four))
header_none t c (i ∷ j ∷ k ∷ l ∷ m ∷ more) rest four digit unshared = absurd (omega (arith, four))

-- ---- what is accepted, with right first characters, is not refused

pub body_refuted : (code : Code) (text hrp data_part : List ℕ) (e : Codex32Error) → IsAccepted code text hrp data_part → header_fault data_part ≡ None → IsBodyRefusalBy code text hrp data_part e → ⊥
body_refuted code text hrp data_part (Checksum e) is none h = not_valid code (length text) hrp data_part e h (is.text_length, is.data_length, is.has_target)
body_refuted code text hrp data_part (Text e) is none h = absurd (let k = sym none ∙ h.1 in cc)
body_refuted code text hrp data_part Length is none h = absurd (let k = sym none ∙ h.1 in cc)
body_refuted code text hrp data_part Hrp is none h = absurd (let k = sym none ∙ h.1 in cc)
body_refuted code text hrp data_part Threshold is none h = absurd (let k = sym none ∙ h.1 in cc)
body_refuted code text hrp data_part ShareIndex is none h = absurd (let k = sym none ∙ h.1 in cc)
body_refuted code text hrp data_part Memory is none h = absurd (let k = sym none ∙ h.1 in cc)
