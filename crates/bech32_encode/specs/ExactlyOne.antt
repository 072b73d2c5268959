-- That there is one value, and no other.
use Rattle.std.specs.Prelude.{◌≡◌}

-- exactly one value has this property
abbrev pub ExactlyOne : {A : Type 0} → (A → Type 0) → Type 0
ExactlyOne {A} P = (x : A) × P x × ((y : A) → P y → y ≡ x)
