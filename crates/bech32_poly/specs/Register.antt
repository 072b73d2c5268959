-- Registers: each item from one place on is minus a sum of multiples of the items before it.
use Rattle.std.specs.Prelude.{◌≡◌, ℕ, zero, suc, ◌+◌, ◌-◌, ◌<◌, ◌≤◌, List, []}
use Rattle.std.specs.Prelude.{◌∷◌, ◌++◌, length, take, drop, Option, Some}
use Rattle.bech32_gf.specs.Field.{Ops}
use Rattle.bech32_poly.specs.Polynomial.{coefficient}

-- the sum of the i-th coefficient times the item i places before place n, i from 1 on
abbrev pub back_sum : {F : Type 0} → Ops F → List F → (ℕ → F) → ℕ → F
back_sum o [] s n = o.zero
back_sum o (c ∷ cs) s n = o.add (o.mul c (s (n - 1))) (back_sum o cs s (n - 1))

-- the register with these coefficients generates the items: each from place
-- `length cs` on is minus that sum
pub record Generates {F : Type 0} (o : Ops F) (cs items : List F) : Type 0 where
  pub fits : length cs ≤ length items
  pub follows : (n : ℕ) → length cs ≤ n → n < length items
      → coefficient o items n ≡ o.neg (back_sum o cs (coefficient o items) n)

-- no register that generates the items is shorter
pub record IsShortest {F : Type 0} (o : Ops F) (cs items : List F) : Type 0 where
  pub generates : Generates o cs items
  pub least : (other : List F) → Generates o other items → length cs ≤ length other

-- the items and this many more, each minus that sum
abbrev pub continued : {F : Type 0} → Ops F → List F → List F → ℕ → List F
continued o cs items zero = items
continued o cs items (suc n) =
    let before : List _ = continued o cs items n in
    before ++ (o.neg (back_sum o cs (coefficient o before) (length before)) ∷ [])

-- the item at place n of the endless sequence that begins with these items and goes on so
abbrev pub item_at : {F : Type 0} → Ops F → List F → List F → ℕ → F
item_at o cs items n = coefficient o (continued o cs items (suc n)) n

-- what a register is seen as: its coefficients, and the next items that it gives, one for each
pub record Register (F : Type 0) : Type 0 where
  pub coefficients : List F
  pub coming : List F

-- the item that comes after n more
abbrev pub to_come : {F : Type 0} → Ops F → Register F → ℕ → F
to_come o r n = item_at o r.coefficients r.coming n

-- the items to come are these, and then each is minus the sum of coefficient times
-- earlier item, without end
pub record GivesAllOf {F : Type 0} (o : Ops F) (items : List F) (r : Register F) : Type 0 where
  pub begins : (n : ℕ) → n < length items → to_come o r n ≡ coefficient o items n
  pub follows : (n : ℕ) → length items ≤ n
      → to_come o r n ≡ o.neg (back_sum o r.coefficients (to_come o r) n)

-- an iterator gives the first item to come, and those after it stay to come
abbrev pub GivesNext : {F : Type 0} → Ops F → Register F → Option F → Register F → Type 0
GivesNext o s r t =
    (r ≡ Some (to_come o s 0)) × (t.coefficients ≡ s.coefficients)
    × ((n : ℕ) → to_come o t n ≡ to_come o s (n + 1))

-- a ring of items from one place on
abbrev pub from_place : {F : Type 0} → ℕ → List F → List F
from_place start ring = drop start ring ++ take start ring
