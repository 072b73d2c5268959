-- The powers that an iterator has left to give.
use Rattle.std.specs.Prelude.{◌≡◌, ℕ, zero, suc, List, [], ◌∷◌, map, Option, Some, None}
use Rattle.std.specs.List.{range_with_len}
use Rattle.bech32_gf.specs.Field.{Ops, power}
use Rattle.bech32_gf.specs.declared.field.Powers.{Powers}
use Rattle.bech32_gf.specs.declared.field.PowersRange.{PowersRange}

-- the powers of x from n on, this many
abbrev pub powers_of : {F : Type 0} → Ops F → F → ℕ → ℕ → List F
powers_of o x n count = map (power o x) (range_with_len n count)

-- the element whose powers come
abbrev pub base_of : {F : Type 0} → Powers F → F
base_of s = s.base

-- the power that comes next
abbrev pub next_of : {F : Type 0} → Powers F → F
next_of s = s.next

-- the power that comes this many places behind the next one
abbrev pub power_after : {F : Type 0} → Ops F → Powers F → ℕ → F
power_after o s n = o.mul (next_of s) (power o (base_of s) n)

-- the next power is given, and the one behind it is then the next
abbrev pub GivesNextPower : {F : Type 0} → Ops F → Powers F → Option F → Powers F → Type 0
GivesNextPower o s r t =
    (r ≡ Some (next_of s)) × (base_of t ≡ base_of s) × (next_of t ≡ o.mul (next_of s) (base_of s))

-- this many elements, x first and each y times the one before
abbrev pub multiplied : {F : Type 0} → Ops F → F → F → ℕ → List F
multiplied o y x zero = []
multiplied o y x (suc count) = x ∷ multiplied o y (o.mul x y) count

-- how many items come, where this many follow the next one, or none is left
abbrev pub count_with_next : Option ℕ → ℕ
count_with_next None = 0
count_with_next (Some more) = suc more

-- the powers that a range of them has left
abbrev pub powers_left : {F : Type 0} → Ops F → PowersRange F → List F
powers_left o s = multiplied o s.powers.base s.powers.next (count_with_next s.more)
