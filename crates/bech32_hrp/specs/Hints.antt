-- What `size_hint` says of an iterator that shows what is left.
use Rattle.std.specs.Prelude.{◌≡◌, ℕ, Option, Some, List, length}

-- both bounds are how many these are
abbrev pub IsHintFor : {A : Type 0} → ℕ × Option ℕ → List A → Type 0
IsHintFor hint items = hint ≡ (length items, Some (length items))
