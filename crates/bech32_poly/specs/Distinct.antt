-- Lists in which nothing stands twice.
use Rattle.std.specs.Prelude.{◌≡◌, ◌≢◌, ◌⊎◌, List, [], ◌∷◌}
use Rattle.std.specs.List.{AllByRecursion}

-- x is one of the list
abbrev pub IsAmong : {A : Type 0} → A → List A → Type 0
IsAmong x [] = ⊥
IsAmong x (y ∷ ys) = (x ≡ y) ⊎ IsAmong x ys

-- x is not one of the list
abbrev pub IsNotAmong : {A : Type 0} → A → List A → Type 0
IsNotAmong x xs = AllByRecursion (λ y. x ≢ y) xs

-- none twice
abbrev pub IsOnce : {A : Type 0} → List A → Type 0
IsOnce [] = Unit {0}
IsOnce (x ∷ xs) = IsNotAmong x xs × IsOnce xs
