-- Which locations four errors could stand at, by logarithms modulo 33.
--
-- The generator has three roots in a row: b^24, b^25 and b^26, where b has order 1023. Say that four errors, one of them of value
-- 1 at location 0, have remainder zero. A polynomial of degree 2 that has the locators of two of the others as roots, summed over
-- the four terms at the three roots, leaves an equation between two products. The 31st power of a value is one, so the 31st powers
-- of both sides have only powers of b^31 in them, which has order 33: an equation between exponents modulo 33. There are three,
-- one for each of the others. In them z d is the exponent of (1 - b^d)^31. No three locations below 89 fulfil all three.
use Rattle.std.specs.Prelude.{◌+◌, ◌-◌, ◌*◌, ◌/◌, ◌%◌, ◌^◌, ◌==◌, ℕ, Bool, true, not, cond}

abbrev pub table : ℕ
table = 1357119113624042210113112829117809416255425175906125573595297171846860743033935808369758842971195914360778029388597959937472591911690958757823971053695240710174080

abbrev pub z : ℕ → ℕ
z d = table / 2 ^ (6 * d) % 64

abbrev pub first : ℕ → ℕ → ℕ → Bool
first a b c = (z b + z c) % 33 == (26 * a + z (b - a) + z (c - a)) % 33

abbrev pub second : ℕ → ℕ → ℕ → Bool
second a b c = (z a + z c) % 33 == (25 * b + a + z (b - a) + z (c - b)) % 33

abbrev pub third : ℕ → ℕ → ℕ → Bool
third a b c = (z a + z b) % 33 == (24 * c + a + b + z (c - a) + z (c - b)) % 33

abbrev pub fine : ℕ → ℕ → ℕ → Bool
fine a b c = cond (first a b c) (cond (second a b c) (not (third a b c)) true) true
