-- A frame and a text, character by character.
use Rattle.std.proofs.Common.{◌≡◌, ◌<◌, ◌∙◌, ◌+◌, ◌&&◌, ℕ, suc, Bool, true, false, List, [], ◌∷◌, drop, get_or, length, refl, ap, arith}
use Rattle.std.proofs.Math.Seq.{drop-cons}
use Rattle.bech32_typed.specs.Fronts.{is_or_unread, stands_for}

-- of two lengths
pub of_other_length : (xs ys : List ℕ) → (length xs ≡ length ys → ⊥) → stands_for xs ys ≡ false
of_other_length [] [] h = absurd (h refl)
of_other_length [] (y ∷ ys) h = refl
of_other_length (x ∷ xs) [] h = refl
of_other_length (x ∷ xs) (y ∷ ys) h = ap (λ b. is_or_unread x y && b) (of_other_length xs ys (λ e. h (ap suc e))) ∙ and-false (is_or_unread x y)
  where
    and-false : (b : Bool) → b && false ≡ false
    and-false true = refl
    and-false false = refl

-- from one place on
stands-step : (xs ys : List ℕ) (i : ℕ) → i < length xs → i < length ys
    → stands_for (drop i xs) (drop i ys) ≡ (is_or_unread (get_or xs i 0) (get_or ys i 0) && stands_for (drop (i + 1) xs) (drop (i + 1) ys))
stands-step xs ys i inside within =
    ap (λ zs. stands_for zs (drop i ys)) (drop_at xs i inside) ∙ ap (stands_for (get_or xs i 0 ∷ drop (i + 1) xs)) (drop_at ys i within)
  where
    drop_at : (zs : List ℕ) (j : ℕ) → j < length zs → drop j zs ≡ get_or zs j 0 ∷ drop (j + 1) zs
    drop_at zs j l = drop-cons zs j 0 l ∙ (let more : suc j ≡ j + 1 = omega arith in ap (λ k. get_or zs j 0 ∷ drop k zs) more)

-- where a character does not stand for the other, the texts do not
pub stands-not : (xs ys : List ℕ) (i : ℕ) → i < length xs → i < length ys → is_or_unread (get_or xs i 0) (get_or ys i 0) ≡ false → stands_for (drop i xs) (drop i ys) ≡ false
stands-not xs ys i inside within h = stands-step xs ys i inside within ∙ ap (λ b. b && stands_for (drop (i + 1) xs) (drop (i + 1) ys)) h

-- where it does, the rest decides
pub stands-more : (xs ys : List ℕ) (i : ℕ) → i < length xs → i < length ys → is_or_unread (get_or xs i 0) (get_or ys i 0) ≡ true
    → stands_for (drop i xs) (drop i ys) ≡ stands_for (drop (i + 1) xs) (drop (i + 1) ys)
stands-more xs ys i inside within h = stands-step xs ys i inside within ∙ ap (λ b. b && stands_for (drop (i + 1) xs) (drop (i + 1) ys)) h
