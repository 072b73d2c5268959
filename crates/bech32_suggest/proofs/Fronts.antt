-- The common front of two texts.
use Rattle.std.specs.Prelude.{◌≢◌}
use Rattle.std.proofs.Common.{◌≡◌, ℕ, zero, suc, ◌+◌, ◌-◌, ◌<◌, ◌≤◌, Bool, true, false, cond, eqb, ltb, List, [], ◌∷◌, length, take, drop, get_or, sym, ap, ◌∙◌, arith}
use Rattle.std.proofs.lemmas.Bool.{cond-true, cond-false, eq-eqb, le-ltb, ne_eqb}
use Rattle.std.proofs.lemmas.List.{length-drop, take_rest}
use Rattle.bech32_suggest.specs.Mendings.{begin_swapped, common_length, mending_behind, mending_of}
use Rattle.bech32_suggest.specs.declared.mendings.Mending.TheVariants.{LeftOut, PutIn, Replaced, Swapped}

-- of two texts that are the same so far, the first place at which they differ
pub differ_at : (xs ys : List ℕ) (i : ℕ) → i < length xs → i < length ys → i ≤ common_length xs ys → get_or xs i 0 ≢ get_or ys i 0 → common_length xs ys ≡ i
differ_at [] ys i l m so_far n = absurd (omega arith)
differ_at (x ∷ xs) [] i l m so_far n = absurd (omega arith)
differ_at (x ∷ xs) (y ∷ ys) zero l m so_far n = cond-false (eqb x y) (suc (common_length xs ys)) 0 (ne_eqb x y n)
differ_at (x ∷ xs) (y ∷ ys) (suc i) l m so_far n = step (eqb x y) (λ h. differ_at xs ys i (omega (arith, l)) (omega (arith, m)) h n) so_far
  where
    step : (b : Bool) → (i ≤ common_length xs ys → common_length xs ys ≡ i) → suc i ≤ cond b (suc (common_length xs ys)) 0 → cond b (suc (common_length xs ys)) 0 ≡ suc i
    step true rest h = ap suc (rest (omega (arith, h)))
    step false rest h = absurd (omega (arith, h))

-- they are the same at one place more
pub same_at : (xs ys : List ℕ) (i : ℕ) → i < length xs → i < length ys → i ≤ common_length xs ys → get_or xs i 0 ≡ get_or ys i 0 → i + 1 ≤ common_length xs ys
same_at [] ys i l m so_far e = absurd (omega arith)
same_at (x ∷ xs) [] i l m so_far e = absurd (omega arith)
same_at (x ∷ xs) (y ∷ ys) zero l m so_far e =
    let here : common_length (x ∷ xs) (y ∷ ys) ≡ suc (common_length xs ys) = cond-true (eqb x y) (suc (common_length xs ys)) 0 (eq-eqb x y e) in
    omega (arith, here)
same_at (x ∷ xs) (y ∷ ys) (suc i) l m so_far e = step (eqb x y) (λ h. same_at xs ys i (omega (arith, l)) (omega (arith, m)) h e) so_far
  where
    step : (b : Bool) → (i ≤ common_length xs ys → i + 1 ≤ common_length xs ys) → suc i ≤ cond b (suc (common_length xs ys)) 0 → suc i + 1 ≤ cond b (suc (common_length xs ys)) 0
    step true rest h = let next = rest (omega (arith, h)) in omega (arith, next)
    step false rest h = absurd (omega (arith, h))

-- neither text is shorter than their common front
pub not_longer : (xs ys : List ℕ) → (common_length xs ys ≤ length xs) × (common_length xs ys ≤ length ys)
not_longer [] ys = (omega arith, omega arith)
not_longer (x ∷ xs) [] = (omega arith, omega arith)
not_longer (x ∷ xs) (y ∷ ys) = step (eqb x y) (not_longer xs ys)
  where
    step : (b : Bool) → (common_length xs ys ≤ length xs) × (common_length xs ys ≤ length ys)
        → (cond b (suc (common_length xs ys)) 0 ≤ suc (length xs)) × (cond b (suc (common_length xs ys)) 0 ≤ suc (length ys))
    step true h = (omega (arith, h.0), omega (arith, h.1))
    step false h = (omega arith, omega arith)

-- texts of one length that differ, and not by a swap
replaced_behind : (xs ys : List ℕ) → 0 < length xs → begin_swapped xs ys ≡ false → mending_behind xs ys ≡ Replaced
replaced_behind [] ys h is = absurd (omega (arith, h))
replaced_behind (x ∷ xs) ys h is = cond-false (begin_swapped (x ∷ xs) ys) Swapped Replaced is

pub replaced : (typed text : List ℕ) (place : ℕ) (b : Bool) → length typed ≤ length text → length text ≤ length typed → place ≡ common_length typed text → place ≢ length typed
    → b ≡ begin_swapped (take (length typed - place) (drop place typed)) (take (length text - place) (drop place text)) → b ≡ false → Replaced ≡ mending_of typed text
replaced typed text place b low high at other is none =
    let inside = (not_longer typed text).0 in
    let whole : begin_swapped (take (length typed - place) (drop place typed)) (take (length text - place) (drop place text)) ≡ begin_swapped (drop place typed) (drop place text) =
    ap (λ (l : List ℕ). begin_swapped l (take (length text - place) (drop place text))) (take_rest typed place) ∙ ap (begin_swapped (drop place typed)) (take_rest text place) in
    let some : 0 < length (drop place typed) = omega (arith, length-drop place typed, inside, at, other) in
    let behind : mending_behind (drop place typed) (drop place text) ≡ Replaced = replaced_behind (drop place typed) (drop place text) some (sym whole ∙ sym is ∙ none) in
    sym (
    cond-false (ltb (length text) (length typed)) LeftOut
    (cond (ltb (length typed) (length text)) PutIn (mending_behind (drop (common_length typed text) typed) (drop (common_length typed text) text))) (le-ltb (length text) (length typed) low)
    ∙ cond-false (ltb (length typed) (length text)) PutIn (mending_behind (drop (common_length typed text) typed) (drop (common_length typed text) text)) (le-ltb (length typed) (length text) high)
    ∙ ap (λ (n : ℕ). mending_behind (drop n typed) (drop n text)) (sym at)
    ∙ behind
    )
