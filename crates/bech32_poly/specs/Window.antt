-- A list of coefficients acts on a sequence, window by window.
use Rattle.std.specs.Prelude.{◌≡◌, ℕ, suc, ◌+◌, ◌<◌, ◌≤◌, List, [], ◌∷◌, ◌++◌, length}
use Rattle.bech32_gf.specs.Field.{Ops}
use Rattle.bech32_poly.specs.Polynomial.{coefficient}
use Rattle.bech32_poly.specs.Division.{zeros}

-- p_0 s_t + p_1 s_(t+1) + ..
abbrev pub act : {F : Type 0} → Ops F → List F → (ℕ → F) → ℕ → F
act o [] s t = o.zero
act o (a ∷ p) s t = o.add (o.mul a (s t)) (act o p s (suc t))

-- the last coefficient
abbrev pub top_of : {F : Type 0} → Ops F → List F → F
top_of o [] = o.zero
top_of o (a ∷ []) = a
top_of o (a ∷ b ∷ p) = top_of o (b ∷ p)

-- p times the n-th power of x
abbrev pub shifted : {F : Type 0} → Ops F → ℕ → List F → List F
shifted o n p = zeros o n ++ p

-- r, of degree len, is monic and takes each window of the first n items to zero
pub record Annihilates {F : Type 0} (o : Ops F) (s : ℕ → F) (n len : ℕ) (r : List F) : Type 0 where
  pub degree : length r ≡ suc len
  pub monic : top_of o r ≡ o.one
  pub windows : (t : ℕ) → t + len < n → act o r s t ≡ o.zero

-- a shortest register for the items, from its last coefficient to the one that
-- stands before the item itself
pub record IsShortestWindow {F : Type 0} (o : Ops F) (items r : List F) : Type 0 where
  pub len : ℕ
  pub within : len ≤ length items
  pub generates : Annihilates o (coefficient o items) (length items) len r
  pub least : (m : ℕ) (q : List F) → m ≤ length items
      → Annihilates o (coefficient o items) (length items) m q → len ≤ m
