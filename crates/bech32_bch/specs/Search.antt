-- What the steps of the corrector find.
use Rattle.std.specs.Prelude.{◌≡◌, ◌≢◌, ◌↔◌, ℕ, ◌+◌, ◌*◌, ◌<◌, ◌≤◌, ◌++◌, ◌==◌}
use Rattle.std.specs.Prelude.{Bool, cond, List, [], ◌∷◌, map, drop, length, reverse}
use Rattle.std.specs.List.{AllByRecursion}
use Rattle.bech32_gf.specs.Field.{Ops, IsOrder, power}
use Rattle.bech32_poly.specs.Distinct.{IsAmong}
use Rattle.bech32_poly.specs.Embedding.{value_in}
use Rattle.bech32_poly.specs.Pattern.{power_sum}
use Rattle.bech32_poly.specs.Polynomial.{coefficient}
use Rattle.bech32_poly.specs.Remainder.{monic}
use Rattle.bech32_poly.specs.RootSearch.{root_exponents}
use Rattle.bech32_bch.specs.Knock.{gap, knocks, without}
use Rattle.bech32_bch.specs.Listing.{IsInOrder}
use Rattle.bech32_bch.specs.Pattern.{IsPattern, errors_outside, locations}

-- the base is not zero, and its order is w or more: the locators below w differ
pub record HasLongOrder {K : Type 0} (o : Ops K) (b : K) (w : ℕ) : Type 0 where
  pub not_zero : b ≢ o.zero
  pub order : ℕ
  pub is_order : IsOrder o b order
  pub long_enough : w ≤ order

-- this many powers of the base from the exponent `start` on are roots of the generator,
-- which has no lower degree
pub record AreUsableRoots {F K : Type 0} (f : Ops F)
    (o : Ops K) (embed : F → K) (g : List F) (b : K)
    (start count w : ℕ) : Type 0 where
  pub order : HasLongOrder o b w
  pub few : count ≤ length g
  pub roots : (t : ℕ) → t < count → value_in o embed (monic f g) (power o b (start + t)) ≡ o.zero

-- the locators of locations
abbrev pub locators : {K : Type 0} → Ops K → K → List ℕ → List K
locators o b wrong = map (λ m. power o b m) wrong

-- the items are the values of the residue at the powers of the base from the exponent `start` on
pub record AreSyndromes {F K : Type 0} (o : Ops K)
    (embed : F → K) (b : K) (start count : ℕ) (residue : List F)
    (items : List K) : Type 0 where
  pub size : length items ≡ count
  pub values : (t : ℕ) → t < count
      → coefficient o items t ≡ value_in o embed residue (power o b (start + t))

-- the sequence without the terms at the locators: each item that as many items follow
pub record IsKnockedOut {K : Type 0} (o : Ops K) (ys items left : List K) : Type 0 where
  pub size : length left ≡ length items
  pub items_are : (t : ℕ) → length ys + t < length items
      → coefficient o left t ≡ knocks o ys (coefficient o items) t

-- the items are the sums of powers of a pattern that has few errors outside the erasures
pub record AreSumsOf {K : Type 0} (o : Ops K) (b : K)
    (start w : ℕ) (s : List ℕ) (items : List K) (e : List (ℕ × K))
    : Type 0 where
  pub pattern : IsPattern o w e
  pub sums : (t : ℕ) → t < length items
      → coefficient o items t
      ≡ power_sum o (λ m. power o b m) (λ m. power o (power o b m) start) e t
  pub few : 2 * errors_outside s e + length s ≤ length items

-- locations that may be those of errors outside the erasures
pub record AreErrorLocations (w : ℕ) (s : List ℕ) (bound : ℕ) (found : List ℕ) : Type 0 where
  pub in_order : IsInOrder found
  pub below : AllByRecursion (λ i. i < w) found
  pub outside : AllByRecursion (λ i. IsAmong i s → ⊥) found
  pub few : 2 * length found + length s ≤ bound

-- they are the locations of the pattern outside the erasures
abbrev pub AreLocationsOutside : {K : Type 0} → List ℕ → List (ℕ × K) → List ℕ → Type 0
AreLocationsOutside s e found =
    (i : ℕ) → IsAmong i found ↔ (IsAmong i (locations e) × (IsAmong i s → ⊥))

-- the locations below w at which the register vanishes
abbrev pub roots_below : {K : Type 0} → Ops K → (K → K → Bool) → List K → K → ℕ → List ℕ
roots_below o same register b w = root_exponents o same register b 0 w

-- rising locations in the order of a listing: 0 first where it is the first,
-- the rest from the last on
abbrev pub ordered : List ℕ → List ℕ
ordered [] = []
ordered (i ∷ rest) = cond (i == 0) (i ∷ reverse rest) (reverse (i ∷ rest))

-- what is left of the syndromes where the terms at the other wrong locations are knocked out
abbrev pub left_at : {K : Type 0} → Ops K → K → (ℕ → K) → List ℕ → ℕ → K
left_at o b s wrong i = knocks o (locators o b (without i wrong)) s 0

-- by what the value at i is multiplied in it
abbrev pub known_at : {K : Type 0} → Ops K → K → ℕ → List ℕ → ℕ → K
known_at o b start wrong i =
    o.mul (power o (power o b i) start) (gap o (power o b i) (locators o b (without i wrong)))

-- what is left of the syndromes is the value times what is known
pub record IsExplained {K : Type 0} (o : Ops K) (left known v : K) : Type 0 where
  pub weighs : known ≢ o.zero
  pub is : left ≡ o.mul v known

-- each value explains what is left of the syndromes at its location
abbrev pub AreExplained : {F K : Type 0} → Ops K → (F → K) → K → ℕ → List K → List ℕ → (ℕ → F)
    → Type 0
AreExplained o embed b start syndromes wrong v = (i : ℕ) → IsAmong i wrong
    → IsExplained o (left_at o b (coefficient o syndromes) wrong i)
    (known_at o b start wrong i) (embed (v i))

-- a listing that the second division may yet refuse: the erasures and error locations,
-- the values of these not zero
pub record IsCandidate {F : Type 0} (f : Ops F) (w : ℕ)
    (s : List ℕ) (bound : ℕ) (items : List (ℕ × F)) : Type 0 where
  pub errors : List ℕ
  pub are_errors : AreErrorLocations w s bound errors
  pub placed : locations items ≡ s ++ errors
  pub values : AllByRecursion (λ (p : ℕ × F). p.1 ≢ f.zero) (drop (length s) items)
