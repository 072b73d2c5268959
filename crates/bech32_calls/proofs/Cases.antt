-- The first letter with one of the other case before it.
use Rattle.std.specs.Prelude.{max, ◌&&◌, ◌||◌}
use Rattle.std.proofs.Common.{◌≡◌, ℕ, ◌+◌, ◌<◌, ◌≤◌, Bool, true, false, not, List, [], ◌∷◌, ◌++◌, length, inl, inr, refl, sym, ap, subst, ◌∙◌, arith, append-nil, append_assoc}
use Rattle.std.proofs.lemmas.Bool.{and_cases, and_parts, both_ways, cases_Bool, cond-true, cond-false, not_from_false, not_from_true, or_cases, or_parts}
use Rattle.std.proofs.lemmas.Bool.Decides.{nat_tests}
use Rattle.std.proofs.lemmas.List.Folds.{list_any-append}
use Rattle.std.specs.List.{list_any, position_or_len}
use Rattle.bech32_hrp.specs.Hrp.{is_lower, is_upper, is_mixed_case, bad_case}
use Rattle.bech32_calls.specs.Place.{IsFirstOfOtherCase}

-- ---- the first place that passes, where the list is what stands before it and behind it

module _ (q : ℕ → Bool) where
  pub first-behind : (xs ys : List ℕ) → list_any q xs ≡ false → length xs ≤ position_or_len q (xs ++ ys)
  first-behind [] ys h = omega arith
  first-behind (x ∷ xs) ys h =
      let parts = or_parts (q x) (list_any q xs) h in
      let more : position_or_len q (x ∷ (xs ++ ys)) ≡ 1 + position_or_len q (xs ++ ys) = cond-true (not (q x)) _ _ (not_from_false (q x) parts.0) in
      omega (arith, more, first-behind xs ys parts.1)

  pub first-at : (xs ys : List ℕ) (x : ℕ) → list_any q xs ≡ false → q x ≡ true → position_or_len q (xs ++ (x ∷ ys)) ≡ length xs
  first-at [] ys x h t = cond-false (not (q x)) _ _ (not_from_true (q x) t)
  first-at (y ∷ xs) ys x h t =
      let parts = or_parts (q y) (list_any q xs) h in
      let more : position_or_len q (y ∷ (xs ++ (x ∷ ys))) ≡ 1 + position_or_len q (xs ++ (x ∷ ys)) = cond-true (not (q y)) _ _ (not_from_false (q y) parts.0) in
      omega (arith, more, first-at xs ys x parts.1 t)

  pub first-within : (xs ys : List ℕ) → list_any q xs ≡ true → position_or_len q (xs ++ ys) < length xs
  first-within [] ys h = absurd (cc)
  first-within (x ∷ xs) ys h = elim (cases_Bool (q x)) [
    | inl here ↦
        let none : position_or_len q (x ∷ (xs ++ ys)) ≡ 0 = cond-false (not (q x)) _ _ (not_from_true (q x) here) in
        omega (arith, none)
    | inr other ↦
        let more : position_or_len q (x ∷ (xs ++ ys)) ≡ 1 + position_or_len q (xs ++ ys) = cond-true (not (q x)) _ _ (not_from_false (q x) other) in
        let rest : list_any q xs ≡ true = sym (ap (λ (b : Bool). b || list_any q xs) other) ∙ h in
        omega (arith, more, first-within xs ys rest)
  ]

-- ---- what the code finds

-- where the first lower-case letter and the first upper-case one both are
abbrev later : List ℕ → ℕ
later bytes = max (position_or_len is_lower bytes) (position_or_len is_upper bytes)

none-of-other : (a b : Bool) → (a && b) ≡ false → a ≡ true → b ≡ false
none-of-other a b h t = elim (and_cases a b h) [
  | inl f ↦ absurd (both_ways a f t)
  | inr f ↦ f
]

none-of-one : (a b : Bool) → (a && b) ≡ false → b ≡ true → a ≡ false
none-of-one a b h t = elim (and_cases a b h) [
  | inl f ↦ f
  | inr f ↦ absurd (both_ways b f t)
]

pub other_case-at : (bytes : List ℕ) (p : ℕ) → IsFirstOfOtherCase bytes p → later bytes ≡ p
other_case-at bytes p h =
    let low = list_any is_lower h.before in
    let up = list_any is_upper h.before in
    let found : later (h.before ++ (h.letter ∷ h.behind)) ≡ length h.before =
    elim (or_cases (is_lower h.letter && up) (is_upper h.letter && low) h.other_case) [
      | inl lower ↦
          let parts = and_parts (is_lower h.letter) up lower in
          omega (
            arith,
            first-at is_lower h.before h.behind h.letter (none-of-one low up h.one_case_before parts.1) parts.0,
            first-within is_upper h.before (h.letter ∷ h.behind) parts.1,
          )
      | inr upper ↦
          let parts = and_parts (is_upper h.letter) low upper in
          omega (
            arith,
            first-at is_upper h.before h.behind h.letter (none-of-other low up h.one_case_before parts.1) parts.0,
            first-within is_lower h.before (h.letter ∷ h.behind) parts.1,
          )
    ] in
    ap later h.split ∙ found ∙ sym h.place_is

pub other_case-behind : (bytes front behind : List ℕ) → bytes ≡ front ++ behind → is_mixed_case front ≡ false → length front ≤ later bytes
other_case-behind bytes front behind e h =
    let found : length front ≤ later (front ++ behind) =
    elim (and_cases (list_any is_lower front) (list_any is_upper front) h) [
      | inl none ↦ omega (arith, first-behind is_lower front behind none)
      | inr none ↦ omega (arith, first-behind is_upper front behind none)
    ] in
    subst (λ (x : List ℕ). length front ≤ later x) (sym e) found

-- ---- a text of both cases has one

-- one letter more: `L` and `U` say whether letters of each case stand before it, `l` and `u` of which case it is
letter-more : (L U l u : Bool) → (L && U) ≡ false → (l && u) ≡ false → ((l && U) || (u && L)) ≡ false → ((L || (l || false)) && (U || (u || false))) ≡ false
letter-more true true l u a b d = absurd (cc)
letter-more true false true true a b d = absurd (cc)
letter-more true false false true a b d = absurd (cc)
letter-more true false true false a b d = refl
letter-more true false false false a b d = refl
letter-more false true true u a b d = absurd (cc)
letter-more false true false u a b d = refl
letter-more false false true true a b d = absurd (cc)
letter-more false false true false a b d = refl
letter-more false false false u a b d = refl

one_letter_case : (c : ℕ) → (is_lower c && is_upper c) ≡ false
one_letter_case c = grind (arith, nat_tests)

pub one_case-more : (before : List ℕ) (c : ℕ) → is_mixed_case before ≡ false → bad_case before c ≡ false → is_mixed_case (before ++ c ∷ []) ≡ false
one_case-more before c h m =
    let appended : is_mixed_case (before ++ c ∷ [])
    ≡ ((list_any is_lower before || list_any is_lower (c ∷ [])) && (list_any is_upper before || list_any is_upper (c ∷ []))) =
    rw (list_any-append is_lower before (c ∷ []), list_any-append is_upper before (c ∷ [])) in
    appended ∙ letter-more (list_any is_lower before) (list_any is_upper before) (is_lower c) (is_upper c) h (one_letter_case c) m

other_case-in : (before bytes : List ℕ) → is_mixed_case before ≡ false → is_mixed_case (before ++ bytes) ≡ true → (p : ℕ) × IsFirstOfOtherCase (before ++ bytes) p
other_case-in before [] h m = absurd (both_ways (is_mixed_case before) h (sym (ap is_mixed_case (append-nil before)) ∙ m))
other_case-in before (b ∷ bs) h m = elim (cases_Bool (bad_case before b)) [
  | inl bad ↦
      (length before, record { before = before; letter = b; behind = bs; split = refl; place_is = refl; other_case = bad; one_case_before = h })
  | inr fine ↦
      let same = append_assoc before (b ∷ []) bs in
      let found = other_case-in (before ++ b ∷ []) bs (one_case-more before b h fine) (ap is_mixed_case same ∙ m) in
      (found.0, subst (λ (x : List ℕ). IsFirstOfOtherCase x found.0) same found.1)
]

pub other_case-stands : (bytes : List ℕ) → is_mixed_case bytes ≡ true → (p : ℕ) × IsFirstOfOtherCase bytes p
other_case-stands bytes h = other_case-in [] bytes refl h
