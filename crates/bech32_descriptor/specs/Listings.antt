-- Lists of all that something holds of, each once and in an order.
use Rattle.std.specs.Prelude.{List, [], ◌∷◌}
use Rattle.std.specs.List.{AllByRecursion}
use Rattle.bech32_poly.specs.Distinct.{IsAmong}

-- each is before all behind it
abbrev pub AreOrdered : {A : Type 0} → (A → A → Type 0) → List A → Type 0
AreOrdered before [] = Unit {0}
AreOrdered before (x ∷ xs) = AllByRecursion (before x) xs × AreOrdered before xs

-- these are all of which P holds, each once and in order
pub record AreAllInOrder {A : Type 0} (before : A → A → Type 0) (P : A → Type 0) (items : List A)
    : Type 0 where
  pub each : AllByRecursion P items
  pub all : (x : A) → P x → IsAmong x items
  pub in_order : AreOrdered before items
