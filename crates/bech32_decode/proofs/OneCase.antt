-- Texts in one case, by the counts of their letters.
use Rattle.std.specs.Prelude.{◌&&◌, ◌||◌, if◌then◌else◌}
use Rattle.std.specs.List.{list_any}
use Rattle.std.proofs.Common.{◌≡◌, ◌⊎◌, ◌∙◌, ◌+◌, ◌<◌, ℕ, Bool, true, false, List, [], ◌∷◌, ◌++◌, length, take, drop, get_or, refl, sym, ap, arith, ⊎_elim}
use Rattle.std.proofs.lemmas.List.{drop_more, take-append-drop}
use Rattle.std.proofs.lemmas.List.Folds.{list_any-append}
use Rattle.bech32_gf.specs.Alphabet.{is_of_alphabet, is_data}
use Rattle.bech32_hrp.specs.Hrp.{is_lower, is_upper, is_mixed_case}
use Rattle.bech32_decode.specs.Letters.{letter_count}
use Rattle.bech32_decode.proofs.PartCases.{letter_count-none}
use Rattle.bech32_decode.specs.Cases.{counts_as_lower, counts_as_upper, lower_count, upper_count}

or_parts : (a b : Bool) → (a || b) ≡ false → (a ≡ false) × (b ≡ false)
or_parts true b h = absurd (cc)
or_parts false b h = (refl, h)

or_false : (a b : Bool) → a ≡ false → b ≡ false → (a || b) ≡ false
or_false a b h i = ap (λ (x : Bool). x || b) h ∙ i

and_true : (a b : Bool) → a ≡ true → b ≡ true → (a && b) ≡ true
and_true a b h i = ap (λ (x : Bool). x && b) h ∙ i

and_false : (a b : Bool) → b ≡ false → (a && b) ≡ false
and_false true b h = h
and_false false b h = refl

choice : (a b : Bool) → ◌≡◌ {A = ℕ} (if a then (if b then 1 else 0) else 1) 0 → (a ≡ true) × (b ≡ false)
choice true true h = absurd (omega (arith, h))
choice true false h = (refl, refl)
choice false b h = absurd (omega (arith, h))

pub lower_count-none : (cs : List ℕ) → lower_count cs ≡ 0 → (is_data cs ≡ true) × (list_any is_lower cs ≡ false)
lower_count-none [] h = (refl, refl)
lower_count-none (c ∷ cs) h =
    let one : counts_as_lower c ≡ 0 = omega (arith, h) in
    let others : lower_count cs ≡ 0 = omega (arith, h) in
    let here = choice (is_of_alphabet c) (is_lower c) one in
    let rest = lower_count-none cs others in
    (and_true _ _ here.0 rest.0, or_false _ _ here.1 rest.1)

pub upper_count-none : (cs : List ℕ) → upper_count cs ≡ 0 → (is_data cs ≡ true) × (list_any is_upper cs ≡ false)
upper_count-none [] h = (refl, refl)
upper_count-none (c ∷ cs) h =
    let one : counts_as_upper c ≡ 0 = omega (arith, h) in
    let others : upper_count cs ≡ 0 = omega (arith, h) in
    let here = choice (is_of_alphabet c) (is_upper c) one in
    let rest = upper_count-none cs others in
    (and_true _ _ here.0 rest.0, or_false _ _ here.1 rest.1)

any_none : (p : ℕ → Bool) (h d : List ℕ) → p 49 ≡ false → list_any p h ≡ false → list_any p d ≡ false → list_any p (h ++ 49 ∷ d) ≡ false
any_none p [] d one front back = or_false _ _ one back
any_none p (x ∷ h) d one front back =
    let parts = or_parts (p x) (list_any p h) front in
    or_false _ _ parts.0 (any_none p h d one parts.1 back)

-- what is known of a human-readable part and of the data behind it
pub one_case : (h d : List ℕ)
    → ((letter_count is_lower h ≡ 0) × (lower_count d ≡ 0)) ⊎ ((letter_count is_upper h ≡ 0) × (upper_count d ≡ 0))
    → (is_data d ≡ true) × (is_mixed_case h ≡ false) × (is_mixed_case (h ++ 49 ∷ d) ≡ false)
one_case h d known =
    ⊎_elim
    (λ (low_case : (letter_count is_lower h ≡ 0) × (lower_count d ≡ 0)).
    let front = letter_count-none is_lower h low_case.0 in
    let behind = lower_count-none d low_case.1 in (
      behind.0,
      ap (λ (b : Bool). b && list_any is_upper h) front,
      ap (λ (b : Bool). b && list_any is_upper (h ++ 49 ∷ d)) (any_none is_lower h d refl front behind.1),
    ))
    (λ (high_case : (letter_count is_upper h ≡ 0) × (upper_count d ≡ 0)).
    let front = letter_count-none is_upper h high_case.0 in
    let behind = upper_count-none d high_case.1 in (
      behind.0,
      and_false (list_any is_lower h) _ front,
      and_false (list_any is_lower (h ++ 49 ∷ d)) _ (any_none is_upper h d refl front behind.1),
    ))
    known

pub split_is : (text : List ℕ) (n : ℕ) → n < length text → get_or text n 0 ≡ 49 → text ≡ take n text ++ 49 ∷ drop (n + 1) text
split_is text n inside is =
    sym (take-append-drop n text)
    ∙ ap (λ (l : List ℕ). take n text ++ l) (drop_more text n 0 inside ∙ ap (λ (b : ℕ). b ∷ drop (n + 1) text) is)

-- ---- the front of a text in one case

one_of : (a b c d : Bool) → ((a || b) && (c || d)) ≡ false → (a && c) ≡ false
one_of false b c d h = refl
one_of true b false d h = refl
one_of true b true d h = absurd (cc)

mixed-append : (front rest : List ℕ) → is_mixed_case (front ++ rest) ≡ ((list_any is_lower front || list_any is_lower rest) && (list_any is_upper front || list_any is_upper rest))
mixed-append front rest = rw (list_any-append is_lower front rest, list_any-append is_upper front rest)

pub one_case-front : (text front rest : List ℕ) → text ≡ front ++ rest → is_mixed_case text ≡ false → is_mixed_case front ≡ false
one_case-front text front rest e one =
    one_of (list_any is_lower front) (list_any is_lower rest) (list_any is_upper front) (list_any is_upper rest) (sym (mixed-append front rest) ∙ ap is_mixed_case (sym e) ∙ one)
