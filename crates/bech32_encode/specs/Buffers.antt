-- Bytes at the front of a caller's buffer.
use Rattle.std.specs.Prelude.{◌≡◌, ◌≤◌, ℕ, List, ◌++◌, length, take, drop, min}

-- this many bytes stand at the front of a buffer, and behind them it is as it was
pub record IsPut (bytes old new : List ℕ) (count : ℕ) : Type 0 where
  pub fits : length bytes ≤ length old
  pub buffer : new ≡ bytes ++ drop (length bytes) old
  pub count_is : count ≡ length bytes

-- the same of as many of the bytes as there is room for
pub record IsPutAsFits (bytes old new : List ℕ) (count : ℕ) : Type 0 where
  pub buffer : new ≡ take (length old) (bytes ++ drop (length bytes) old)
  pub count_is : count ≡ min (length bytes) (length old)

-- these bytes were put behind those that a buffer and their count showed
-- before, whichever they were
abbrev pub PutsBehind : List ℕ → List ℕ → ℕ → List ℕ → ℕ → Type 0
PutsBehind bytes old before new after =
    (front start : List ℕ) → IsPutAsFits front start old before
    → IsPutAsFits (front ++ bytes) start new after
