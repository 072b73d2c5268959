-- How the size hint of an adaptor follows from that of the iterator inside.
use Rattle.std.specs.Prelude.{◌≡◌, ℕ, ◌-◌, ◌^◌, min, nat_lt, Option, Some}
use Rattle.std.specs.Prelude.{None, IfSome, if◌then◌else◌, option_and_then}
use Rattle.std.specs.Iterator.{Count, UpTo}
use Rattle.std.specs.Iterator.SizeHint.{IsWithinCount}

-- an iterator that gives at most this many items may have these bounds
pub record IsHintOf (left : Count) (hint : ℕ × Option ℕ) : Type 0 where
  pub lower : IsWithinCount hint.0 left
  pub upper : IfSome hint.1 (UpTo left)

-- a number where it fits
abbrev pub fitting : ℕ → Option ℕ
fitting n = if nat_lt n (2 ^ 64) then Some n else None

-- the bounds where n items become f n: the lower one is the greatest number, and the upper one is
-- left out, where they do not fit
abbrev pub hint_map : (ℕ → ℕ) → ℕ × Option ℕ → ℕ × Option ℕ
hint_map f hint = (min (f hint.0) (2 ^ 64 - 1), option_and_then (λ n. fitting (f n)) hint.1)

-- the bounds are those that the bounds of the iterator inside give, of which this many
-- items are to come at most
abbrev pub FollowsHint : (ℕ → ℕ) → Count → ℕ × Option ℕ → Type 0
FollowsHint f left hint = (inner : ℕ × Option ℕ) × IsHintOf left inner × (hint ≡ hint_map f inner)
