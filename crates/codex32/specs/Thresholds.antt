-- Thresholds (BIP-93, codex32).
use Rattle.std.specs.Prelude.{◌==◌, ◌&&◌, ◌||◌, nat_le, ℕ, Bool}

-- whether a number is a threshold: 0, or 2 to 9
abbrev pub is_threshold_number : ℕ → Bool
is_threshold_number n = n == 0 || (nat_le 2 n && nat_le n 9)
