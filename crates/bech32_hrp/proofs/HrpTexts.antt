-- Which texts are refused as human-readable parts.
use Rattle.std.proofs.Common.{◌≡◌, ℕ, zero, suc, ◌<◌, ◌≤◌, Bool, true, false, List, [], ◌∷◌, ◌++◌, Option, Some, None, ◌||◌, ◌&&◌, length, cond, ltb, leb, eqb, refl, sym, ap, ◌∙◌, arith, inl, inr, append_assoc, append-nil, Result, Ok, Err, IsOk, ◌↔◌}
use Rattle.std.proofs.lemmas.Bool.{and_parts, and_from, cases_Bool, cases_lt, cond-true, cond-false, lt-leb, leb-true, le-ltb, ne_eqb, lt-ltb}
use Rattle.std.proofs.lemmas.List.Folds.{list_any-append}
use Rattle.std.proofs.lemmas.Str.{chars-IsAscii, encodes-IsAscii, encodes-chars}
use Rattle.std.proofs.lemmas.Str.Ascii.{IsAscii-nil, IsAscii-cons}
use Rattle.std.proofs.lemmas.Bool.Decides.{nat_tests}
use Rattle.std.specs.List.{list_any, list_all}
use Rattle.std.specs.Str.{chars, IsUtf8, IsAscii}
use Rattle.bech32_hrp.specs.declared.Error.{Error}
use Rattle.bech32_hrp.specs.declared.Error.TheVariants.{TooLong, NonAsciiChar, InvalidAsciiByte, MixedCase}
use Rattle.bech32_hrp.specs.declared.Hrp.{Hrp}
use Rattle.bech32_hrp.specs.Hrp.{is_lower, is_upper, is_graphic, is_mixed_case, first_of, bad_case, bad_after, first_bad, empty_fault, length_fault, hrp_refusal, IsHrp}
use Rattle.bech32_hrp.specs.HrpBytes.{IsParsed}

none_first : (f r : Option Error) → first_of f r ≡ None → (f ≡ None) × (r ≡ None)
none_first None r h = (refl, h)
none_first (Some e) r h = absurd (cc)

first_none : (f r : Option Error) → f ≡ None → r ≡ None → first_of f r ≡ None
first_none f r e h = ap (λ (o : Option Error). first_of o r) e ∙ h

ascii-from_graphic : (c : ℕ) → is_graphic c ≡ true → c < 128
ascii-from_graphic c g = let parts = and_parts (leb 33 c) (leb c 126) g in omega (arith, leb-true c 126 parts.1)

IsAscii-from_graphic : (bytes : List ℕ) → list_all is_graphic bytes ≡ true → IsAscii bytes
IsAscii-from_graphic [] h = IsAscii-nil
IsAscii-from_graphic (b ∷ bs) h =
    let parts = and_parts (is_graphic b) (list_all is_graphic bs) h in
    IsAscii-cons b bs (ascii-from_graphic b parts.0) (IsAscii-from_graphic bs parts.1)

-- a character that is not bad is graphic, and no letter of the other case stands before it
parts-from_bad_after : (before : List ℕ) (c : ℕ) → bad_after before c ≡ None → (is_graphic c ≡ true) × (bad_case before c ≡ false)
parts-from_bad_after before c h =
    let case_fault = cond (bad_case before c) (Some MixedCase) None in
    elim (cases_Bool (leb 128 c)) [
      | inl high ↦ absurd (let e = sym (cond-true (leb 128 c) (Some (NonAsciiChar c)) (cond (is_graphic c) case_fault (Some (InvalidAsciiByte c))) high) ∙ h in cc)
      | inr low ↦
          let e = sym (cond-false (leb 128 c) (Some (NonAsciiChar c)) (cond (is_graphic c) case_fault (Some (InvalidAsciiByte c))) low) ∙ h in
          elim (cases_Bool (is_graphic c)) [
            | inr other ↦ absurd (let f = sym (cond-false (is_graphic c) case_fault (Some (InvalidAsciiByte c)) other) ∙ e in cc)
            | inl graphic ↦
                let f = sym (cond-true (is_graphic c) case_fault (Some (InvalidAsciiByte c)) graphic) ∙ e in
                elim (cases_Bool (bad_case before c)) [
                  | inl mixed ↦ absurd (let g = sym (cond-true (bad_case before c) (Some MixedCase) None mixed) ∙ f in cc)
                  | inr fine ↦ (graphic, fine)
                ]
          ]
    ]

bad_after-none : (before : List ℕ) (c : ℕ) → is_graphic c ≡ true → bad_case before c ≡ false → bad_after before c ≡ None
bad_after-none before c g m =
    cond-false (leb 128 c) _ _ (lt-leb 128 c (ascii-from_graphic c g))
    ∙ cond-true (is_graphic c) _ _ g
    ∙ cond-false (bad_case before c) _ _ m

-- one letter more: `L` and `U` say whether letters of each case stand before it, `l` and `u` of which case it is
letter_more : (L U l u : Bool) → (L && U) ≡ false → (l && u) ≡ false → ((l && U) || (u && L)) ≡ false → ((L || (l || false)) && (U || (u || false))) ≡ false
letter_more true true l u a b d = absurd (cc)
letter_more true false true true a b d = absurd (cc)
letter_more true false false true a b d = absurd (cc)
letter_more true false true false a b d = refl
letter_more true false false false a b d = refl
letter_more false true true u a b d = absurd (cc)
letter_more false true false u a b d = refl
letter_more false false true true a b d = absurd (cc)
letter_more false false true false a b d = refl
letter_more false false false u a b d = refl

-- no letter of the other case stands before one of a text in one case
letter_fine : (L U l u M V : Bool) → ((L || (l || M)) && (U || (u || V))) ≡ false → ((l && U) || (u && L)) ≡ false
letter_fine true true l u M V h = absurd (cc)
letter_fine true false l true M V h = absurd (cc)
letter_fine true false true false M V h = refl
letter_fine true false false false M V h = refl
letter_fine false true true u M V h = absurd (cc)
letter_fine false true false true M V h = refl
letter_fine false true false false M V h = refl
letter_fine false false true true M V h = absurd (cc)
letter_fine false false true false M V h = refl
letter_fine false false false true M V h = refl
letter_fine false false false false M V h = refl

one_letter_case : (c : ℕ) → (is_lower c && is_upper c) ≡ false
one_letter_case c = grind (arith, nat_tests)

is_mixed_case-append : (xs ys : List ℕ) → is_mixed_case (xs ++ ys) ≡ ((list_any is_lower xs || list_any is_lower ys) && (list_any is_upper xs || list_any is_upper ys))
is_mixed_case-append xs ys = rw (list_any-append is_lower xs ys, list_any-append is_upper xs ys)

one_case-more : (before : List ℕ) (c : ℕ) → is_mixed_case before ≡ false → bad_case before c ≡ false → is_mixed_case (before ++ c ∷ []) ≡ false
one_case-more before c h m =
    is_mixed_case-append before (c ∷ [])
    ∙ letter_more (list_any is_lower before) (list_any is_upper before) (is_lower c) (is_upper c) h (one_letter_case c) m

bad_case-none : (before cs : List ℕ) (c : ℕ) → is_mixed_case (before ++ (c ∷ cs)) ≡ false → bad_case before c ≡ false
bad_case-none before cs c h =
    letter_fine (list_any is_lower before) (list_any is_upper before) (is_lower c) (is_upper c) (list_any is_lower cs) (list_any is_upper cs)
    (sym (is_mixed_case-append before (c ∷ cs)) ∙ h)

-- characters without a bad one
parts-from_first_bad : (before cs : List ℕ) → is_mixed_case before ≡ false → first_bad before cs ≡ None
    → (list_all is_graphic cs ≡ true) × (is_mixed_case (before ++ cs) ≡ false)
unfolding first_bad
parts-from_first_bad before [] m h = (refl, ap is_mixed_case (append-nil before) ∙ m)
parts-from_first_bad before (c ∷ cs) m h =
    let none = none_first (bad_after before c) (first_bad (before ++ c ∷ []) cs) h in
    let here = parts-from_bad_after before c none.0 in
    let rest = parts-from_first_bad (before ++ c ∷ []) cs (one_case-more before c m here.1) none.1 in
    (and_from (is_graphic c) (list_all is_graphic cs) here.0 rest.0, sym (ap is_mixed_case (append_assoc before (c ∷ []) cs)) ∙ rest.1)

first_bad-none : (before cs : List ℕ) → list_all is_graphic cs ≡ true → is_mixed_case (before ++ cs) ≡ false → first_bad before cs ≡ None
unfolding first_bad
first_bad-none before [] g m = refl
first_bad-none before (c ∷ cs) g m =
    let parts = and_parts (is_graphic c) (list_all is_graphic cs) g in
    first_none (bad_after before c) (first_bad (before ++ c ∷ []) cs)
    (bad_after-none before c parts.0 (bad_case-none before cs c m))
    (first_bad-none (before ++ c ∷ []) cs parts.1 (ap is_mixed_case (append_assoc before (c ∷ []) cs) ∙ m))

not_empty-from_none : (n : ℕ) → empty_fault n ≡ None → 1 ≤ n
not_empty-from_none zero h = absurd (cc)
not_empty-from_none (suc n) h = omega arith

not_long-from_none : (n : ℕ) → length_fault n ≡ None → n ≤ 83
not_long-from_none n h =
    elim (cases_lt 83 n) [
      | inl long ↦ absurd (let e = sym (cond-true (ltb 83 n) (Some (TooLong n)) None (lt-ltb 83 n long)) ∙ h in cc)
      | inr fits ↦ fits
    ]

empty_fault-none : (n : ℕ) → 1 ≤ n → empty_fault n ≡ None
empty_fault-none n h = cond-false (eqb n 0) _ _ (ne_eqb n 0 (λ e. omega arith))

-- a text of graphic characters is its bytes
chars-from_graphic : (bytes : List ℕ) → IsUtf8 bytes → list_all is_graphic (chars bytes) ≡ true → chars bytes ≡ bytes
chars-from_graphic bytes u g = sym (encodes-IsAscii (chars bytes) (IsAscii-from_graphic (chars bytes) g)) ∙ encodes-chars bytes u

-- a human-readable part is not refused
pub hrp_refusal-none : (bytes : List ℕ) → IsHrp bytes → hrp_refusal bytes ≡ None
hrp_refusal-none bytes h =
    first_none (empty_fault (length bytes)) _ (empty_fault-none (length bytes) h.not_empty)
    (first_none (length_fault (length bytes)) _ (cond-false (ltb 83 (length bytes)) _ _ (le-ltb 83 (length bytes) h.not_long))
    (ap (first_bad []) (chars-IsAscii bytes (IsAscii-from_graphic bytes h.graphic)) ∙ first_bad-none [] bytes h.graphic h.one_case))

-- and only such a text is not refused
pub IsHrp-from_refusal : (bytes : List ℕ) → IsUtf8 bytes → hrp_refusal bytes ≡ None → IsHrp bytes
IsHrp-from_refusal bytes u h =
    let first = none_first (empty_fault (length bytes)) (first_of (length_fault (length bytes)) (first_bad [] (chars bytes))) h in
    let second = none_first (length_fault (length bytes)) (first_bad [] (chars bytes)) first.1 in
    let parts = parts-from_first_bad [] (chars bytes) refl second.1 in
    let same = chars-from_graphic bytes u parts.0 in
    record {
      not_empty = not_empty-from_none (length bytes) first.0;
      not_long = not_long-from_none (length bytes) second.0;
      graphic = ap (list_all is_graphic) (sym same) ∙ parts.0;
      one_case = ap is_mixed_case (sym same) ∙ parts.1;
    }

pub accepts-from_outcome : (text : List ℕ) → IsUtf8 text → (r : Result Hrp Error) → IsParsed text r → IsOk r ↔ IsHrp text
accepts-from_outcome text u (Ok h) o = (λ w. IsHrp-from_refusal text u o.0, λ w. refl)
accepts-from_outcome text u (Err e) o = (λ w. absurd (cc), λ w. absurd (let none = hrp_refusal-none text w in cc))
