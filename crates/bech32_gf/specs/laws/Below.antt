-- A test of each number below a bound, and what it says of one number.
use Rattle.std.proofs.Common.{◌≡◌, ◌<◌, ◌≤◌, ℕ, zero, suc, Bool, true}
use Rattle.std.proofs.Common.{false, ◌&&◌, arith, refl, subst, sym, ⊎_elim}
use Rattle.std.proofs.Math.Nat.{eq-or-lt_of_le}

-- whether a test holds of each number below n
abbrev pub each_below : ℕ → (ℕ → Bool) → Bool
each_below zero p = true
each_below (suc n) p = p n && each_below n p

pub and_left : (a b : Bool) → (a && b) ≡ true → a ≡ true
and_left true b h = refl
and_left false b h = cc

pub and_right : (a b : Bool) → (a && b) ≡ true → b ≡ true
and_right true b h = h
and_right false b h = cc

pub each_below-at : (n : ℕ) (p : ℕ → Bool) → each_below n p ≡ true → (i : ℕ) → i < n → p i ≡ true
each_below-at zero p h i lt = absurd (omega arith)
each_below-at (suc n) p h i lt =
    let at_most : i ≤ n = omega arith in
    ⊎_elim
    (λ (e : i ≡ n). subst (λ m. p m ≡ true) (sym e) (and_left (p n) (each_below n p) h))
    (λ (below : i < n). each_below-at n p (and_right (p n) (each_below n p) h) i below)
    (eq-or-lt_of_le at_most)

-- the same for two and for three numbers
pub each_below-at₂ : (n : ℕ) (p : ℕ → ℕ → Bool) → each_below n (λ i. each_below n (p i)) ≡ true
    → (i j : ℕ) → i < n → j < n → p i j ≡ true
each_below-at₂ n p h i j hi hj =
    each_below-at n (p i) (each_below-at n (λ k. each_below n (p k)) h i hi) j hj

pub each_below-at₃ : (n : ℕ) (p : ℕ → ℕ → ℕ → Bool)
    → each_below n (λ i. each_below n (λ j. each_below n (p i j))) ≡ true
    → (i j k : ℕ) → i < n → j < n → k < n → p i j k ≡ true
each_below-at₃ n p h i j k hi hj hk =
    each_below-at n (p i j) (each_below-at₂ n (λ a b. each_below n (p a b)) h i j hi hj) k hk
