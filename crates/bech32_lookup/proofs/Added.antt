-- Erasures stay distinct and below the window as further ones are added.
use Rattle.std.specs.Prelude.{◌==◌, true, false, cond}
use Rattle.std.specs.List.{AllByRecursion}
use Rattle.std.proofs.Common.{◌≡◌, ◌≢◌, ◌<◌, ◌≤◌, ◌+◌, ◌⊎◌, inl, inr, ℕ, zero, suc, Bool, List, [], ◌∷◌, ◌++◌, take, drop, get_or, length, sym, ◌∙◌, ap, refl, arith}
use Rattle.std.proofs.lemmas.Bool.Decides.{eqb_tells}
use Rattle.std.proofs.lemmas.List.{append-nil, append_assoc, take-append-drop, take_more}
use Rattle.std.proofs.Math.Seq.{take-append_seam}
use Rattle.bech32_poly.specs.Distinct.{IsNotAmong, IsOnce}
use Rattle.bech32_bch.specs.Erasures.{AreErasures, has, with_erasures}

-- what the test returns of a location that is not of the list
not_of : (s : List ℕ) (i : ℕ) → has s i ≡ false → IsNotAmong i s
not_of [] i e = tt
not_of (m ∷ s) i e = step (eqb_tells i m) e (not_of s i)
  where
    step : ((i == m) ≡ true × (i ≡ m)) ⊎ ((i == m) ≡ false × (i ≢ m)) → cond (i == m) true (has s i) ≡ false → (has s i ≡ false → IsNotAmong i s) → (i ≢ m) × IsNotAmong i s
    step (inl y) e r = let k : true ≡ false = sym (ap (λ b. cond b true (has s i)) y.0) ∙ e in absurd (cc k)
    step (inr y) e r = (y.1, r (sym (ap (λ b. cond b true (has s i)) y.0) ∙ e))

not_of-last : (s : List ℕ) (x i : ℕ) → IsNotAmong x s → x ≢ i → IsNotAmong x (s ++ i ∷ [])
not_of-last [] x i h n = (n, tt)
not_of-last (m ∷ s) x i h n = (h.0, not_of-last s x i h.1 n)

once-last : (s : List ℕ) (i : ℕ) → IsOnce s → IsNotAmong i s → IsOnce (s ++ i ∷ [])
once-last [] i h n = (tt, tt)
once-last (m ∷ s) i h n = (not_of-last s m i h.0 (λ e. n.0 (sym e)), once-last s i h.1 n.1)

all-last : (P : ℕ → Type 0) (s : List ℕ) (i : ℕ) → AllByRecursion P s → P i → AllByRecursion P (s ++ i ∷ [])
all-last P [] i h p = (p, tt)
all-last P (m ∷ s) i h p = (h.0, all-last P s i h.1 p)

pub erasures_more : (w : ℕ) (s more : List ℕ) → AreErasures w s → AllByRecursion (λ i. i < w) more → AreErasures w (with_erasures s more)
erasures_more w s [] e h = e
erasures_more w s (i ∷ more) e h = erasures_more w (cond (has s i) s (s ++ i ∷ [])) more (step (has s i) refl) h.1
  where
    step : (b : Bool) → has s i ≡ b → AreErasures w (cond b s (s ++ i ∷ []))
    step true k = e
    step false k = record { once = once-last s i e.once (not_of s i k); below = all-last (λ j. j < w) s i e.below h.0 }

pub with_erasures-append : (s xs ys : List ℕ) → with_erasures s (xs ++ ys) ≡ with_erasures (with_erasures s xs) ys
with_erasures-append s [] ys = refl
with_erasures-append s (x ∷ xs) ys = with_erasures-append (cond (has s x) s (s ++ x ∷ [])) xs ys

-- what is put behind the erasures
behind : (s more : List ℕ) → (t : List ℕ) × (with_erasures s more ≡ s ++ t)
behind s [] = ([], sym (append-nil s))
behind s (x ∷ more) = step (has s x) (behind s more) (behind (s ++ x ∷ []) more)
  where
    step : (b : Bool) → (t : List ℕ) × (with_erasures s more ≡ s ++ t) → (t : List ℕ) × (with_erasures (s ++ x ∷ []) more ≡ (s ++ x ∷ []) ++ t)
        → (t : List ℕ) × (with_erasures (cond b s (s ++ x ∷ [])) more ≡ s ++ t)
    step true r q = r
    step false r q = (x ∷ q.0, q.1 ∙ append_assoc s (x ∷ []) q.0)

-- the erasures stay the first ones
pub take-with_erasures : (s more : List ℕ) → take (length s) (with_erasures s more) ≡ s
take-with_erasures s more = let r = behind s more in ap (take (length s)) r.1 ∙ take-append_seam s r.0

longer : (s t : List ℕ) → take (length s) t ≡ s → length s ≤ length t
longer [] t e = omega arith
longer (x ∷ s) [] e = absurd (cc e)
longer (x ∷ s) (y ∷ t) e = let k : take (length s) t ≡ s = cc e in omega (arith, longer s t k)

pub length-with_erasures : (s more : List ℕ) → length s ≤ length (with_erasures s more)
length-with_erasures s more = longer s (with_erasures s more) (take-with_erasures s more)

-- the erasures after one location more
pub with_erasures-more : (s more now : List ℕ) (i : ℕ) → i < length more → now ≡ with_erasures s (take i more) → with_erasures now (get_or more i 0 ∷ []) ≡ with_erasures s (take (i + 1) more)
with_erasures-more s more now i within before =
    ap (λ u. with_erasures u (get_or more i 0 ∷ [])) before ∙ sym (with_erasures-append s (take i more) (get_or more i 0 ∷ []))
    ∙ ap (with_erasures s) (sym (take_more more i 0 within))

pub length-with_some : (s more : List ℕ) (k : ℕ) → length (with_erasures s (take k more)) ≤ length (with_erasures s more)
length-with_some s more k =
    let whole : with_erasures s more ≡ with_erasures (with_erasures s (take k more)) (drop k more) = ap (with_erasures s) (sym (take-append-drop k more)) ∙ with_erasures-append s (take k more) (drop k more) in
    omega (arith, ap (λ u. length u) whole, length-with_erasures (with_erasures s (take k more)) (drop k more))

pub all_taken : (xs : List ℕ) (n : ℕ) → length xs ≤ n → take n xs ≡ xs
all_taken [] zero h = refl
all_taken [] (suc n) h = refl
all_taken (x ∷ xs) zero h = absurd (omega arith)
all_taken (x ∷ xs) (suc n) h = ap (λ u. x ∷ u) (all_taken xs n (omega arith))
