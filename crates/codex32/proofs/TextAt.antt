-- Texts of one length, one behind another.
use Rattle.std.proofs.Common.{◌≡◌, ℕ, zero, suc, ◌+◌, ◌*◌, ◌<◌, ◌≤◌, List, [], ◌∷◌, ◌++◌, length, take, drop, inl, inr, sym, ap, subst, ◌∙◌, refl, arith, add-mul, suc-mul, zero-mul}
use Rattle.std.proofs.lemmas.Bool.{cases_lt}
use Rattle.std.proofs.lemmas.List.{drop-append-le, drop-drop, drop_at, length-drop, length-take-le, take-append-drop, take-append-le}
use Rattle.std.proofs.lemmas.Nat.{row_fits}
use Rattle.codex32.specs.Split.{first_texts, text_at}

-- ---- places

-- each has its place
pub slot-fits : (j m n : ℕ) → j < m → j * n + n ≤ m * n
slot-fits j m n h = row_fits j n m n h (omega arith)

pub text_first : (n : ℕ) (texts : List ℕ) → text_at n texts 0 ≡ take n texts
text_first n texts = ap (λ (k : ℕ). take n (drop k texts)) (zero-mul n)

pub text_next : (n : ℕ) (texts : List ℕ) (j : ℕ) → text_at n texts (suc j) ≡ text_at n (drop n texts) j
text_next n texts j =
    let e : suc j * n ≡ n + j * n = omega (arith, suc-mul j n) in
    ap (λ (k : ℕ). take n (drop k texts)) e ∙ ap (take n) (sym (drop-drop (j * n) n texts))

pub length-text_at : (m n : ℕ) (texts : List ℕ) (j : ℕ) → m * n ≤ length texts → j < m → length (text_at n texts j) ≡ n
length-text_at m n texts j room less = length-take-le n (drop (j * n) texts) (omega (arith, slot-fits j m n less, room, length-drop (j * n) texts))

-- ---- what stands before, and behind

pub text_at-front : (n : ℕ) (front rest : List ℕ) (j : ℕ) → j * n + n ≤ length front → text_at n (front ++ rest) j ≡ text_at n front j
text_at-front n front rest j room =
    ap (take n) (drop-append-le (j * n) front rest (omega (arith, room)))
    ∙ take-append-le n (drop (j * n) front) rest (omega (arith, room, length-drop (j * n) front))

pub text_at-behind : (m n : ℕ) (front rest : List ℕ) (j : ℕ) → length front ≡ m * n → text_at n (front ++ rest) (m + j) ≡ text_at n rest j
text_at-behind m n front rest j size =
    ap (λ (k : ℕ). take n (drop k (front ++ rest))) (add-mul m j n)
    ∙ ap (take n) (sym (drop-drop (j * n) (m * n) (front ++ rest)) ∙ ap (drop (j * n)) (drop_at front rest (m * n) size))

-- where a text is put at its place, those before it are as they were
pub before-from_put : (n : ℕ) (old rest : List ℕ) (j i : ℕ) → j * n ≤ length old → i < j → text_at n (take (j * n) old ++ rest) i ≡ text_at n old i
before-from_put n old rest j i room less =
    let size : length (take (j * n) old) ≡ j * n = length-take-le (j * n) old room in
    let fits : i * n + n ≤ length (take (j * n) old) = omega (arith, size, slot-fits i j n less) in
    text_at-front n (take (j * n) old) rest i fits
    ∙ sym (text_at-front n (take (j * n) old) (drop (j * n) old) i fits)
    ∙ ap (λ (u : List ℕ). text_at n u i) (take-append-drop (j * n) old)

-- ---- the first ones

pub length-first : (n : ℕ) (texts : List ℕ) (m : ℕ) → length (first_texts n texts m) ≡ m
length-first n texts zero = refl
length-first n texts (suc m) = ap suc (length-first n (drop n texts) m)

pub first-more : (n : ℕ) (texts : List ℕ) (m : ℕ) → first_texts n texts (suc m) ≡ first_texts n texts m ++ (text_at n texts m ∷ [])
first-more n texts zero = ap (λ (t : List ℕ). t ∷ []) (sym (text_first n texts))
first-more n texts (suc m) =
    ap (λ (ts : List (List ℕ)). take n texts ∷ ts) (first-more n (drop n texts) m)
    ∙ ap (λ (t : List ℕ). take n texts ∷ (first_texts n (drop n texts) m ++ (t ∷ []))) (sym (text_next n texts m))

-- where the texts are the same, so are the first ones
pub first-same : (n : ℕ) (texts others : List ℕ) (m : ℕ) → ((j : ℕ) → j < m → text_at n texts j ≡ text_at n others j) → first_texts n texts m ≡ first_texts n others m
first-same n texts others zero h = refl
first-same n texts others (suc m) h =
    first-more n texts m
    ∙ ap (λ (ts : List (List ℕ)). ts ++ (text_at n texts m ∷ [])) (first-same n texts others m (λ j less. h j (omega (arith, less))))
    ∙ ap (λ (t : List ℕ). first_texts n others m ++ (t ∷ [])) (h m (omega arith))
    ∙ sym (first-more n others m)

-- ---- one text more

pub texts-more : (n : ℕ) (P : ℕ → List ℕ → Type 0) (old new : List ℕ) (j : ℕ) → ((k : ℕ) → k < j → P k (text_at n old k)) → P j (text_at n new j) → ((k : ℕ) → k < j → text_at n new k ≡ text_at n old k)
    → (k : ℕ) → k < j + 1 → P k (text_at n new k)
texts-more n P old new j before here kept k less =
    elim (cases_lt k j) [
      | inl below ↦ subst (P k) (sym (kept k below)) (before k below)
      | inr past ↦ let e : k ≡ j = omega (arith, less, past) in subst (λ (i : ℕ). P i (text_at n new i)) (sym e) here
    ]
