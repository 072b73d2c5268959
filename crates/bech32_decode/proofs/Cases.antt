-- Counts of letters.
use Rattle.std.proofs.Common.{◌≡◌, ◌≤◌, ◌+◌, ℕ, Bool, true, false, List, [], ◌∷◌, ◌++◌, length, arith}
use Rattle.std.specs.Prelude.{if◌then◌else◌}
use Rattle.bech32_gf.specs.Alphabet.{is_of_alphabet}
use Rattle.bech32_hrp.specs.Hrp.{is_lower, is_upper}
use Rattle.bech32_decode.specs.Cases.{counts_as_lower, counts_as_upper, lower_count, upper_count}

choice-le : (a b : Bool) → (if a then (if b then 1 else 0) else 1) ≤ 1
choice-le true true = omega arith
choice-le true false = omega arith
choice-le false b = omega arith

pub counts_as_lower-le : (c : ℕ) → counts_as_lower c ≤ 1
counts_as_lower-le c = choice-le (is_of_alphabet c) (is_lower c)

pub counts_as_upper-le : (c : ℕ) → counts_as_upper c ≤ 1
counts_as_upper-le c = choice-le (is_of_alphabet c) (is_upper c)

pub lower_count-append : (xs ys : List ℕ) → lower_count (xs ++ ys) ≡ lower_count xs + lower_count ys
lower_count-append [] ys = omega arith
lower_count-append (x ∷ xs) ys = let e = lower_count-append xs ys in omega (arith, e)

pub upper_count-append : (xs ys : List ℕ) → upper_count (xs ++ ys) ≡ upper_count xs + upper_count ys
upper_count-append [] ys = omega arith
upper_count-append (x ∷ xs) ys = let e = upper_count-append xs ys in omega (arith, e)

pub lower_count-le : (xs : List ℕ) → lower_count xs ≤ length xs
lower_count-le [] = omega arith
lower_count-le (x ∷ xs) = let e = lower_count-le xs in let f = counts_as_lower-le x in omega (arith, e, f)

pub upper_count-le : (xs : List ℕ) → upper_count xs ≤ length xs
upper_count-le [] = omega arith
upper_count-le (x ∷ xs) = let e = upper_count-le xs in let f = counts_as_upper-le x in omega (arith, e, f)
