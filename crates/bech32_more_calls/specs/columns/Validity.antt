-- The validity of what was decoded or encoded: a bit for each row.
use Rattle.std.specs.Prelude.{◌≡◌, ◌+◌, ◌*◌, ◌/◌, ◌<◌, ◌≤◌, ◌==◌, ℕ, List, [], ◌∷◌}
use Rattle.std.specs.Prelude.{if◌then◌else◌, length, take, drop, slice_index}

-- 1 where a number is 0
abbrev pub is_accepted : ℕ → ℕ
is_accepted number = if number == 0 then 1 else 0

-- how many numbers are 0
abbrev pub accepted_of : List ℕ → ℕ
accepted_of [] = 0
accepted_of (number ∷ numbers) = is_accepted number + accepted_of numbers

-- the bits of numbers, the first the lowest
abbrev pub validity_bits : List ℕ → ℕ
validity_bits [] = 0
validity_bits (number ∷ numbers) = is_accepted number + 2 * validity_bits numbers

-- the bits of all numbers are put, eight to a byte, and behind them the buffer is as it was
pub record PutsValidity (numbers old new : List ℕ) : Type 0 where
  pub fits : (length numbers + 7) / 8 ≤ length old
  pub each : (j : ℕ) → j < (length numbers + 7) / 8
      → slice_index new j ≡ validity_bits (take 8 (drop (8 * j) numbers))
  pub rest : drop ((length numbers + 7) / 8) new ≡ drop ((length numbers + 7) / 8) old
