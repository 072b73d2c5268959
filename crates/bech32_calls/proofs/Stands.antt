-- Where the fault of a text stands: there is such a place.
use Rattle.std.specs.Prelude.{MatchBool}
use Rattle.std.proofs.Common.{◌≡◌, ℕ, ◌<◌, List, [], Option, Some, None, length, eqb, ltb, inl, inr, refl, sym, ap, subst, ◌∙◌, arith}
use Rattle.std.proofs.lemmas.Bool.{cases_eq, eqb-true, ltb-true}
use Rattle.std.specs.Str.{chars, IsUtf8}
use Rattle.bech32_checksum.specs.Code.{Code}
use Rattle.bech32_hrp.specs.declared.Error.{Error}
use Rattle.bech32_hrp.specs.declared.Error.TheVariants.{Empty, TooLong, NonAsciiChar, InvalidAsciiByte, MixedCase as HrpMixedCase}
use Rattle.bech32_hrp.specs.Hrp.{empty_fault, length_fault, first_bad, first_of, hrp_refusal, is_mixed_case}
use Rattle.bech32_refusals.specs.declared.error.CharError.{CharError}
use Rattle.bech32_refusals.specs.declared.error.CharError.TheVariants.{InvalidChar, MixedCase, MissingSeparator}
use Rattle.bech32_refusals.specs.declared.error.ChecksumError.TheVariants.{CodeLength, InvalidLength, InvalidResidue}
use Rattle.bech32_refusals.specs.declared.error.UncheckedHrpstringError.{UncheckedHrpstringError}
use Rattle.bech32_refusals.specs.declared.error.UncheckedHrpstringError.TheVariants.{Char, Hrp}
use Rattle.bech32_decode.specs.Text.{as_char, as_hrp, bad_hrp, invalid_character, last_stranger, missing_separator, mixed_case, split_at_last, text_refusal, unless_separator}
use Rattle.bech32_numbers.specs.Numbers.{number_of_hrp_error, number_of_text_error}
use Rattle.bech32_calls.specs.Check.{IsCheckFault}
use Rattle.bech32_calls.specs.Checksums.{IsFaultOfTexts}
use Rattle.bech32_calls.specs.Numbers.{number_of}
use Rattle.bech32_calls.specs.Place.{IsPlace, IsOfPart, IsFirstWrong, IsNotAscii, IsNotGraphic, IsOfOtherCase, IsLastStranger, IsFirstOfOtherCase}
use Rattle.bech32_calls.specs.declared.refusal.Refusal.{Refusal}
use Rattle.bech32_calls.specs.declared.refusal.Refusal.TheVariants.{NotUtf8, BadNumber, Text, Checksum}
use Rattle.bech32_calls.proofs.ByNumber.{from_fault_of_texts}
use Rattle.bech32_calls.proofs.Cases.{other_case-stands}
use Rattle.bech32_calls.proofs.Options.{first_of-some, cond-some, unless-some, same_inside}
use Rattle.bech32_calls.proofs.Separators.{IsUtf8-part}
use Rattle.bech32_calls.proofs.Strangers.{stranger-stands}
use Rattle.bech32_calls.proofs.Wrong.{IsWrongBy, wrong-also, wrong-stands}

-- ---- a place, by a test of the number

abbrev ByNumber : List ℕ → ℕ → ℕ → Type 0
ByNumber text n p =
    MatchBool (eqb n 11) (IsOfPart (λ hrp. (p ≡ length hrp) × (p ≡ 0)) text)
    (MatchBool (eqb n 12) (IsOfPart (λ hrp. (p ≡ length hrp) × (83 < p)) text)
    (MatchBool (eqb n 13) (IsOfPart (λ hrp. IsFirstWrong IsNotAscii hrp p) text)
    (MatchBool (eqb n 14) (IsOfPart (λ hrp. IsFirstWrong IsNotGraphic hrp p) text)
    (MatchBool (eqb n 15) (IsOfPart (λ hrp. IsFirstWrong IsOfOtherCase hrp p) text)
    (MatchBool (eqb n 21) (IsLastStranger text p)
    (MatchBool (eqb n 22) (IsFirstOfOtherCase text p)
    (MatchBool (eqb n 23) (p ≡ length text)
    (MatchBool (eqb n 31) (p ≡ length text)
    (MatchBool (eqb n 32) (p ≡ length text)
    (MatchBool (eqb n 33) (p ≡ length text)
    (Unit {0})))))))))))

IsPlace-from : (text : List ℕ) (n p : ℕ) → ByNumber text n p → IsPlace text n p
IsPlace-from text n p h =
    let at : (m : ℕ) → n ≡ m → ByNumber text m p = λ m e. subst (λ (x : ℕ). ByNumber text x p) e h in
    record {
      empty = at 11;
      long = at 12;
      not_ascii = at 13;
      not_graphic = at 14;
      part_case = at 15;
      stranger = at 21;
      mixed_case = at 22;
      no_separator = at 23;
      checksum =
          λ r. elim (cases_eq n 31) [
            | inl e ↦ at 31 e
            | inr not_31 ↦ elim (cases_eq n 32) [
              | inl e ↦ at 32 e
              | inr not_32 ↦ at 33 (omega (arith, r.0, r.1, not_31, not_32))
            ]
          ];
    }

-- ---- of a human-readable part

wrong-by : (text hrp data_part : List ℕ) (p : ℕ) (e : Error) → split_at_last text ≡ Some (hrp, data_part) → IsFirstWrong (IsWrongBy e) hrp p
    → ByNumber text (number_of_hrp_error e) p
wrong-by text hrp data_part p (NonAsciiChar c) h w = record { hrp = hrp; data_part = data_part; split = h; holds = w }
wrong-by text hrp data_part p (InvalidAsciiByte c) h w = record { hrp = hrp; data_part = data_part; split = h; holds = w }
wrong-by text hrp data_part p HrpMixedCase h w = record {
  hrp = hrp;
  data_part = data_part;
  split = h;
  holds = wrong-also (IsWrongBy HrpMixedCase) IsOfOtherCase (λ before byte m. m.1) hrp p w;
}
wrong-by text hrp data_part p _ h w = absurd w.wrong

module _ (text : List ℕ) where
  abbrev OfPart : Error → Type 0
  OfPart e = (p : ℕ) × ByNumber text (number_of_hrp_error e) p

  hrp-stands : (hrp data_part : List ℕ) (e : Error) → IsUtf8 text → split_at_last text ≡ Some (hrp, data_part) → hrp_refusal hrp ≡ Some e → OfPart e
  hrp-stands hrp data_part e u h r =
      let n = length hrp in
      elim (first_of-some (empty_fault n) (first_of (length_fault n) (first_bad [] (chars hrp))) e r) [
        | inl f ↦
            let parts = cond-some (eqb n 0) Empty e f in
            subst OfPart parts.1 (0, record { hrp = hrp; data_part = data_part; split = h; holds = (sym (eqb-true n 0 parts.0), refl) })
        | inr f ↦ elim (first_of-some (length_fault n) (first_bad [] (chars hrp)) e f.1) [
          | inl g ↦
              let parts = cond-some (ltb 83 n) (TooLong n) e g in
              subst OfPart parts.1 (n, record { hrp = hrp; data_part = data_part; split = h; holds = (refl, ltb-true 83 n parts.0) })
          | inr g ↦
              let found = wrong-stands hrp e (IsUtf8-part text hrp data_part u h) g.1 in
              (found.0, wrong-by text hrp data_part found.0 e h found.1)
        ]
      ]

-- ---- of a text

as_char-some : (o : Option CharError) (e : UncheckedHrpstringError) → as_char o ≡ Some e → (x : CharError) × (o ≡ Some x) × (Char x ≡ e)
as_char-some None e h = absurd (cc)
as_char-some (Some x) e h = (x, refl, same_inside (Char x) e h)

as_hrp-some : (o : Option Error) (e : UncheckedHrpstringError) → as_hrp o ≡ Some e → (x : Error) × (o ≡ Some x) × (Hrp x ≡ e)
as_hrp-some None e h = absurd (cc)
as_hrp-some (Some x) e h = (x, refl, same_inside (Hrp x) e h)

unless_separator-some : (o : Option ℕ) (e : CharError) → unless_separator o ≡ Some e → (c : ℕ) × (o ≡ Some c) × (InvalidChar c ≡ e)
unless_separator-some None e h = absurd (cc)
unless_separator-some (Some c) e h = (c, refl, (unless-some (eqb c 49) (InvalidChar c) e h).1)

abbrev Parts : Type 0
Parts = List ℕ × List ℕ

missing_separator-some : (o : Option Parts) (e : CharError) → missing_separator o ≡ Some e → MissingSeparator ≡ e
missing_separator-some None e h = same_inside MissingSeparator e h
missing_separator-some (Some p) e h = absurd (cc)

bad_hrp-some : (o : Option Parts) (e : Error) → bad_hrp o ≡ Some e → (p : Parts) × (o ≡ Some p) × (hrp_refusal p.0 ≡ Some e)
bad_hrp-some None e h = absurd (cc)
bad_hrp-some (Some p) e h = (p, refl, h)

module _ (text : List ℕ) where
  abbrev OfText : UncheckedHrpstringError → Type 0
  OfText e = (p : ℕ) × ByNumber text (number_of_text_error e) p

  text-stands : (e : UncheckedHrpstringError) → IsUtf8 text → text_refusal text ≡ Some e → OfText e
  text-stands e u h =
      let parts = split_at_last text in
      let third = first_of (as_char (missing_separator parts)) (as_hrp (bad_hrp parts)) in
      elim (first_of-some (as_char (invalid_character text)) (first_of (as_char (mixed_case text)) third) e h) [
        | inl f ↦
            let found = as_char-some (invalid_character text) e f in
            let stranger = unless_separator-some (last_stranger (chars text)) found.0 found.1 in
            subst OfText (ap (λ (x : CharError). Char x) stranger.2 ∙ found.2) (stranger-stands text stranger.0 u stranger.1)
        | inr f ↦ elim (first_of-some (as_char (mixed_case text)) third e f.1) [
          | inl g ↦
              let found = as_char-some (mixed_case text) e g in
              let mixed = cond-some (is_mixed_case text) MixedCase found.0 found.1 in
              subst OfText (ap (λ (x : CharError). Char x) mixed.1 ∙ found.2) (other_case-stands text mixed.0)
          | inr g ↦ elim (first_of-some (as_char (missing_separator parts)) (as_hrp (bad_hrp parts)) e g.1) [
            | inl k ↦
                let found = as_char-some (missing_separator parts) e k in
                subst OfText (ap (λ (x : CharError). Char x) (missing_separator-some parts found.0 found.1) ∙ found.2) (length text, refl)
            | inr k ↦
                let found = as_hrp-some (bad_hrp parts) e k.1 in
                let hrp = bad_hrp-some parts found.0 found.1 in
                subst OfText found.2 (hrp-stands text hrp.0.0 hrp.0.1 found.0 u hrp.1 hrp.2)
          ]
        ]
      ]

-- ---- of a call

check-stands : (text : List ℕ) (code : Code) (e : Refusal) → IsCheckFault text code e → (p : ℕ) × ByNumber text (number_of e) p
check-stands text code NotUtf8 h = (0, tt)
check-stands text code (Text e) h = text-stands text e h.0 h.1
check-stands text code (Checksum (CodeLength e)) h = (length text, refl)
check-stands text code (Checksum InvalidLength) h = (length text, refl)
check-stands text code (Checksum (InvalidResidue e)) h = (length text, refl)
check-stands text code _ h = absurd h

pub fault-stands : (text : List ℕ) (checksum : ℕ) (e : Refusal) (n : ℕ) → n ≡ number_of e → IsFaultOfTexts checksum (IsCheckFault text) e
    → (p : ℕ) × IsPlace text n p
fault-stands text checksum e n is h =
    let OfNumber : ℕ → Type 0 = λ m. (p : ℕ) × ByNumber text m p in
    let none : e ≡ BadNumber → OfNumber (number_of e) = λ k. subst (λ (x : Refusal). OfNumber (number_of x)) (sym k) (0, tt) in
    let found = from_fault_of_texts (IsCheckFault text) e (OfNumber (number_of e)) none (λ code. check-stands text code e) checksum h in
    (found.0, IsPlace-from text n found.0 (subst (λ (m : ℕ). ByNumber text m found.0) (sym is) found.1))

pub accepted-stands : (text : List ℕ) → (p : ℕ) × IsPlace text 0 p
accepted-stands text = (0, IsPlace-from text 0 0 tt)
