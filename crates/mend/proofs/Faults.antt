-- The fault of a text that a checksum refuses has a place.
use Rattle.std.specs.Prelude.{nat_le, nat_lt}
use Rattle.std.proofs.Common.{◌≡◌, ℕ, Bool, true, false, List, [], ◌∷◌, ◌++◌, Option, Some, None, if◌then◌else◌, eqb, length, inl, inr, refl, ap, arith}
use Rattle.std.specs.Str.{chars, IsUtf8}
use Rattle.bech32_checksum.specs.Code.{Code}
use Rattle.bech32_hrp.specs.Hrp.{bad_after, bad_case, empty_fault, first_bad, first_of, hrp_refusal, is_graphic, is_mixed_case, length_fault}
use Rattle.bech32_hrp.specs.declared.Error.{Error}
use Rattle.bech32_hrp.specs.declared.Error.TheVariants as hrp_errors
use Rattle.bech32_refusals.specs.declared.error.CharError.{CharError}
use Rattle.bech32_refusals.specs.declared.error.CharError.TheVariants as char_errors
use Rattle.bech32_refusals.specs.declared.error.UncheckedHrpstringError.{UncheckedHrpstringError}
use Rattle.bech32_refusals.specs.declared.error.UncheckedHrpstringError.TheVariants.{Char, Hrp}
use Rattle.bech32_refusals.specs.declared.error.ChecksumError.TheVariants.{CodeLength, InvalidLength, InvalidResidue}
use Rattle.bech32_refusals.specs.declared.error.CheckedHrpstringError.{CheckedHrpstringError}
use Rattle.bech32_refusals.specs.declared.error.CheckedHrpstringError.TheVariants.{Parse, Checksum}
use Rattle.bech32_decode.specs.Checked.{IsCheckedRefusal}
use Rattle.bech32_decode.specs.Text.{as_char, as_hrp, bad_hrp, invalid_character, last_stranger, missing_separator, mixed_case, split_at_last, text_refusal, unless_separator}
use Rattle.bech32_numbers.specs.Numbers.{number_of_checked_error, number_of_checksum_error, number_of_text_error}
use Rattle.bech32_calls.specs.Place.{HasPlace, IsPlace}
use Rattle.bech32_calls.specs.declared.refusal.Refusal.TheVariants as refusals
use Rattle.bech32_calls.proofs.Options.{cond-some, first_of-some, unless-some}
use Rattle.bech32_calls.proofs.Stands.{fault-stands}
use Rattle.b32_replies.specs.Request.{code_of_name}
use Rattle.b32_replies.specs.declared.command.ChecksumName.{ChecksumName}
use Rattle.b32_replies.specs.declared.command.ChecksumName.TheVariants.{Bech32, Bech32m}

-- ---- a part that was read does not fail to print

no_fmt_after : (far graphic other_case : Bool) (c : ℕ)
    → (if far then Some (hrp_errors.NonAsciiChar c) else (if graphic then (if other_case then Some hrp_errors.MixedCase else None) else Some (hrp_errors.InvalidAsciiByte c))) ≡ Some hrp_errors.Fmt → ⊥
no_fmt_after true graphic other_case c h = cc
no_fmt_after false true true c h = cc
no_fmt_after false true false c h = cc
no_fmt_after false false other_case c h = cc

no_fmt_in : (before cs : List ℕ) → first_bad before cs ≡ Some hrp_errors.Fmt → ⊥
unfolding first_bad
no_fmt_in before [] h = cc
no_fmt_in before (c ∷ cs) h = elim (first_of-some (bad_after before c) (first_bad (before ++ c ∷ []) cs) hrp_errors.Fmt h) [
  | inl f ↦ no_fmt_after (nat_le 128 c) (is_graphic c) (bad_case before c) c f
  | inr f ↦ no_fmt_in (before ++ c ∷ []) cs f.1
]

no_fmt : (hrp : List ℕ) → hrp_refusal hrp ≡ Some hrp_errors.Fmt → ⊥
no_fmt hrp h =
    let n = length hrp in
    elim (first_of-some (empty_fault n) (first_of (length_fault n) (first_bad [] (chars hrp))) hrp_errors.Fmt h) [
      | inl f ↦ let same : hrp_errors.Empty ≡ hrp_errors.Fmt = (cond-some (eqb n 0) hrp_errors.Empty hrp_errors.Fmt f).1 in cc
      | inr f ↦ elim (first_of-some (length_fault n) (first_bad [] (chars hrp)) hrp_errors.Fmt f.1) [
        | inl g ↦ let same : hrp_errors.TooLong n ≡ hrp_errors.Fmt = (cond-some (nat_lt 83 n) (hrp_errors.TooLong n) hrp_errors.Fmt g).1 in cc
        | inr g ↦ no_fmt_in [] (chars hrp) g.1
      ]
    ]

-- ---- nor is it refused for nothing behind the separator

module _ (text : List ℕ) where
  -- where a text is refused by none of the first three
  last_of_four : (e : UncheckedHrpstringError) → text_refusal text ≡ Some e → (as_char (invalid_character text) ≡ Some e → ⊥) → (as_char (mixed_case text) ≡ Some e → ⊥)
      → (as_char (missing_separator (split_at_last text)) ≡ Some e → ⊥) → as_hrp (bad_hrp (split_at_last text)) ≡ Some e
  last_of_four e h one two three =
      let parts = split_at_last text in
      let third = first_of (as_char (missing_separator parts)) (as_hrp (bad_hrp parts)) in
      elim (first_of-some (as_char (invalid_character text)) (first_of (as_char (mixed_case text)) third) e h) [
        | inl f ↦ absurd (one f)
        | inr f ↦ elim (first_of-some (as_char (mixed_case text)) third e f.1) [
          | inl g ↦ absurd (two g)
          | inr g ↦ elim (first_of-some (as_char (missing_separator parts)) (as_hrp (bad_hrp parts)) e g.1) [
            | inl k ↦ absurd (three k)
            | inr k ↦ k.1
          ]
        ]
      ]

  -- a fault of a character is not one of a part
  not_hrp : (o : Option CharError) (e : Error) → as_char o ≡ Some (Hrp e) → ⊥
  not_hrp None e h = cc
  not_hrp (Some x) e h = cc

  not_char : (o : Option Error) (e : CharError) → as_hrp o ≡ Some (Char e) → ⊥
  not_char None e h = cc
  not_char (Some x) e h = cc

  no_hrp_fmt : text_refusal text ≡ Some (Hrp hrp_errors.Fmt) → ⊥
  no_hrp_fmt h =
      by_parts (split_at_last text)
      (last_of_four (Hrp hrp_errors.Fmt) h (not_hrp (invalid_character text) hrp_errors.Fmt) (not_hrp (mixed_case text) hrp_errors.Fmt)
      (not_hrp (missing_separator (split_at_last text)) hrp_errors.Fmt))
    where
      inside : (o : Option Error) → as_hrp o ≡ Some (Hrp hrp_errors.Fmt) → o ≡ Some hrp_errors.Fmt
      inside None k = absurd (cc)
      inside (Some x) k = let same : x ≡ hrp_errors.Fmt = cc in ap (λ (y : Error). Some y) same

      by_parts : (o : Option (List ℕ × List ℕ)) → as_hrp (bad_hrp o) ≡ Some (Hrp hrp_errors.Fmt) → ⊥
      by_parts None k = cc
      by_parts (Some p) k = no_fmt p.0 (inside (hrp_refusal p.0) k)

  nothing_after : text_refusal text ≡ Some (Char char_errors.NothingAfterSeparator) → ⊥
  nothing_after h =
      let e : CharError = char_errors.NothingAfterSeparator in
      not_char (bad_hrp (split_at_last text)) e
      (last_of_four (Char e) h (λ k. stranger (last_stranger (chars text)) (inside (invalid_character text) k)) (λ k. mixed (is_mixed_case text) (inside (mixed_case text) k))
      (λ k. missing (split_at_last text) (inside (missing_separator (split_at_last text)) k)))
    where
      inside : (o : Option CharError) → as_char o ≡ Some (Char char_errors.NothingAfterSeparator) → o ≡ Some char_errors.NothingAfterSeparator
      inside None k = absurd (cc)
      inside (Some x) k = let same : x ≡ char_errors.NothingAfterSeparator = cc in ap (λ (y : CharError). Some y) same

      stranger : (o : Option ℕ) → unless_separator o ≡ Some char_errors.NothingAfterSeparator → ⊥
      stranger None k = cc
      stranger (Some c) k =
          let same : char_errors.InvalidChar c ≡ char_errors.NothingAfterSeparator = (unless-some (eqb c 49) (char_errors.InvalidChar c) char_errors.NothingAfterSeparator k).1 in cc

      mixed : (b : Bool) → (if b then Some char_errors.MixedCase else None) ≡ Some char_errors.NothingAfterSeparator → ⊥
      mixed true k = cc
      mixed false k = cc

      missing : (o : Option (List ℕ × List ℕ)) → missing_separator o ≡ Some char_errors.NothingAfterSeparator → ⊥
      missing None k = cc
      missing (Some p) k = cc

  -- ---- the number of a fault that has a place

  pub has-place : (code : Code) (e : CheckedHrpstringError) → IsCheckedRefusal code text e → HasPlace (number_of_checked_error e)
  has-place code (Parse (Char (char_errors.InvalidChar c))) h = inr (inl (omega arith, omega arith))
  has-place code (Parse (Char char_errors.MixedCase)) h = inr (inl (omega arith, omega arith))
  has-place code (Parse (Char char_errors.MissingSeparator)) h = inr (inl (omega arith, omega arith))
  has-place code (Parse (Char char_errors.NothingAfterSeparator)) h = absurd (nothing_after h)
  has-place code (Parse (Hrp hrp_errors.Empty)) h = inl (omega arith, omega arith)
  has-place code (Parse (Hrp (hrp_errors.TooLong n))) h = inl (omega arith, omega arith)
  has-place code (Parse (Hrp (hrp_errors.NonAsciiChar c))) h = inl (omega arith, omega arith)
  has-place code (Parse (Hrp (hrp_errors.InvalidAsciiByte b))) h = inl (omega arith, omega arith)
  has-place code (Parse (Hrp hrp_errors.MixedCase)) h = inl (omega arith, omega arith)
  has-place code (Parse (Hrp hrp_errors.Fmt)) h = absurd (no_hrp_fmt h)
  has-place code (Checksum (CodeLength e)) h = inr (inr (omega arith, omega arith))
  has-place code (Checksum InvalidLength) h = inr (inr (omega arith, omega arith))
  has-place code (Checksum (InvalidResidue e)) h = inr (inr (omega arith, omega arith))

  pub stands : (checksum : ChecksumName) (e : CheckedHrpstringError) → IsUtf8 text → IsCheckedRefusal (code_of_name checksum) text e → (p : ℕ) × IsPlace text (number_of_checked_error e) p
  stands Bech32 (Parse e) u h = fault-stands text 1 (refusals.Text e) (number_of_text_error e) refl (u, h)
  stands Bech32 (Checksum e) u h = fault-stands text 1 (refusals.Checksum e) (number_of_checksum_error e) refl (u, h)
  stands Bech32m (Parse e) u h = fault-stands text 2 (refusals.Text e) (number_of_text_error e) refl (u, h)
  stands Bech32m (Checksum e) u h = fault-stands text 2 (refusals.Checksum e) (number_of_checksum_error e) refl (u, h)
