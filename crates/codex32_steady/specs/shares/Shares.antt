-- Shares: texts of one length, one for each index, which are lists of elements (BIP-93).
use Rattle.std.specs.Prelude.{◌≡◌, ◌<◌, ◌≤◌, ℕ, List, [], ◌∷◌, ◌++◌, length, map}
use Rattle.std.specs.List.{AllByRecursion}
use Rattle.bech32_gf.specs.Fe32.{elements_of, ops}
use Rattle.bech32_gf.specs.Field.{Ops, value_at}
use Rattle.bech32_gf.specs.declared.gf32.Fe32.{Fe32}
use Rattle.bech32_poly.specs.Distinct.{IsOnce}
use Rattle.bech32_poly.specs.Division.{zeros}
use Rattle.bech32_poly.specs.Polynomial.{coefficient, add, scale}
use Rattle.codex32_steady.specs.shares.Points.{values_at, IsValueThrough}

-- the elements at place n of the texts
abbrev pub column : {F : Type 0} → Ops F → List (List F) → ℕ → List F
column o texts n = map (λ text. coefficient o text n) texts

-- as many texts as there are indices, which all differ, each of n elements
pub record AreShares {F : Type 0} (indices : List F) (texts : List (List F)) (n : ℕ) : Type 0 where
  pub once : IsOnce indices
  pub one_each : length texts ≡ length indices
  pub alike : AllByRecursion (λ text. length text ≡ n) texts

-- the text of the index x: each element is the value at x of the polynomial of degree below the
-- number of shares that has, at their indices, the elements at that place
pub record IsDerived {F : Type 0} (o : Ops F) (indices : List F) (texts : List (List F))
    (n : ℕ) (x : F) (text : List F) : Type 0 where
  pub size : length text ≡ n
  pub elements : (i : ℕ) → i < n
      → IsValueThrough o indices (column o texts i) x (coefficient o text i)

-- for each index, its text is derived
abbrev pub AreDerived : {F : Type 0} → Ops F → List F → List (List F) → ℕ → List F → List (List F)
    → Type 0
AreDerived o indices texts n [] [] = Unit {0}
AreDerived o indices texts n [] (u ∷ us) = ⊥
AreDerived o indices texts n (x ∷ xs) [] = ⊥
AreDerived o indices texts n (x ∷ xs) (u ∷ us) =
    IsDerived o indices texts n x u × AreDerived o indices texts n xs us

-- texts at these indices do not contradict each other: at each place, some polynomial of degree
-- below the threshold k has all their elements
abbrev pub DoAgree : {F : Type 0} → Ops F → ℕ → List F → List (List F) → ℕ → Type 0
DoAgree {F} o k indices texts n =
    (i : ℕ) → i < n
    → (p : List F) × (length p ≤ k) × (values_at o p indices ≡ column o texts i)

-- the text that shares at these indices give at x, of n elements, where k of them give the others:
-- at each place, some polynomial of degree below k has all their elements, and the text's at x
pub record IsGiven {F : Type 0} (o : Ops F) (k : ℕ) (indices : List F) (texts : List (List F))
    (n : ℕ) (x : F) (text : List F) : Type 0 where
  pub size : length text ≡ n
  pub elements : (i : ℕ) → i < n → (p : List F) × (length p ≤ k)
      × (values_at o p indices ≡ column o texts i) × (coefficient o text i ≡ value_at o x p)

-- the sum of weight times text, of n elements
abbrev pub combined : {F : Type 0} → Ops F → ℕ → List F → List (List F) → List F
combined o n [] texts = zeros o n
combined o n (w ∷ ws) [] = zeros o n
combined o n (w ∷ ws) (t ∷ texts) = add o (scale o w t) (combined o n ws texts)

-- the text is the header, the index x, a payload of n elements, and what `EndsIn` says comes behind
-- these
pub record IsShareText {F : Type 0} (EndsIn : List F → List F → Type 0) (header : List F) (n : ℕ)
    (x : F) (payload text : List F) : Type 0 where
  pub size : length payload ≡ n
  pub ends : EndsIn (header ++ (x ∷ payload)) text

-- for each index, its text is that of its payload
abbrev pub AreShareTexts : {F : Type 0} → (List F → List F → Type 0) → List F → ℕ → List F
    → List (List F) → List (List F) → Type 0
AreShareTexts EndsIn header n [] [] [] = Unit {0}
AreShareTexts EndsIn header n [] [] (t ∷ texts) = ⊥
AreShareTexts EndsIn header n [] (p ∷ payloads) texts = ⊥
AreShareTexts EndsIn header n (x ∷ xs) [] texts = ⊥
AreShareTexts EndsIn header n (x ∷ xs) (p ∷ payloads) [] = ⊥
AreShareTexts EndsIn header n (x ∷ xs) (p ∷ payloads) (t ∷ texts) =
    IsShareText EndsIn header n x p t × AreShareTexts EndsIn header n xs payloads texts

-- ---- of what has an index, and characters

-- these are shares, each of n elements
abbrev pub AreSharesAt : {T : Type 0} → (T → Fe32) → (T → List ℕ) → List T → ℕ → Type 0
AreSharesAt index_of characters_of shares n =
    AreShares (map index_of shares) (map (λ t. elements_of (characters_of t)) shares) n

-- they do not contradict each other, where k of them give the others
abbrev pub DoSharesAgree : {T : Type 0} → (T → Fe32) → (T → List ℕ) → ℕ → List T → ℕ → Type 0
DoSharesAgree index_of characters_of k shares n =
    DoAgree ops k (map index_of shares) (map (λ t. elements_of (characters_of t)) shares) n
