-- The highest of a location and the erasures.
use Rattle.std.specs.Prelude.{min}
use Rattle.std.specs.List.{AllByRecursion}
use Rattle.std.proofs.Common.{◌≡◌, ℕ, zero, suc, ◌+◌, ◌<◌, ◌≤◌, List, [], ◌∷◌, take, get_or, length, ◌⊎◌, inl, inr, subst, sym, arith}
use Rattle.std.proofs.lemmas.List.{take_more}
use Rattle.bech32_bch.proofs.Places.{all_push}

pub min_left : (m n : ℕ) → m ≤ n → min m n ≡ m
min_left m n h = omega (arith, h)

pub below_next : (highest : ℕ) (s : List ℕ) → AllByRecursion (λ i. i ≤ highest) s → AllByRecursion (λ i. i < suc highest) s
below_next highest [] h = tt
below_next highest (i ∷ s) h = (omega (arith, h.0), below_next highest s h.1)

below_higher : (highest other : ℕ) (s : List ℕ) → highest ≤ other → AllByRecursion (λ i. i ≤ highest) s → AllByRecursion (λ i. i ≤ other) s
below_higher highest other [] e h = tt
below_higher highest other (i ∷ s) e h = (omega (arith, h.0, e), below_higher highest other s e h.1)

below_at : (n : ℕ) (s : List ℕ) (i : ℕ) → AllByRecursion (λ k. k < n) s → i < length s → get_or s i 0 < n
below_at n [] i h low = absurd (omega arith)
below_at n (k ∷ s) zero h low = h.0
below_at n (k ∷ s) (suc i) h low = below_at n s i h.1 (omega arith)

-- no lower than the location and the erasures, and below whatever is above all of these
abbrev pub IsHighest : ℕ → List ℕ → List ℕ → ℕ → Type 0
IsHighest location some all highest =
    (location ≤ highest) × AllByRecursion (λ i. i ≤ highest) some
    × ((n : ℕ) → location < n → AllByRecursion (λ i. i < n) all → highest < n)

-- with one erasure more
pub highest_next : (location : ℕ) (s : List ℕ) (i highest next : ℕ) → i < length s → highest ≤ next → get_or s i 0 ≤ next → (next ≡ highest) ⊎ (next ≡ get_or s i 0)
    → IsHighest location (take i s) s highest → IsHighest location (take (i + 1) s) s next
highest_next location s i highest next within up above which h = (
  omega (arith, h.0, up),
  subst (λ (t : List ℕ). AllByRecursion (λ k. k ≤ next) t) (sym (take_more s i 0 within)) (all_push (λ k. k ≤ next) (take i s) (get_or s i 0) (below_higher highest next (take i s) up h.1) above),
  λ n low below. elim which [
    | inl e ↦ (let less = h.2 n low below in omega (arith, e, less))
    | inr e ↦ (let less = below_at n s i below within in omega (arith, e, less))
  ],
)
