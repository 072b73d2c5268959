-- What is made of a list, at one of its places.
use Rattle.std.proofs.Common.{◌≡◌, ◌<◌, ◌∙◌, ◌+◌, ◌&&◌, ℕ, suc, Bool, true, false, List, ◌∷◌, ◌++◌, drop, get_or, length, map, take, refl, sym, ap, arith, true≢false}
use Rattle.std.specs.List.{list_all}
use Rattle.std.proofs.Math.Seq.{drop-cons}
use Rattle.std.proofs.lemmas.List.{map-append, take-append-drop}
use Rattle.std.proofs.lemmas.List.Folds.{list_all-append}

-- before the place, there, and after it
split-once : {X Y : Type 0} (f : X → Y) (xs : List X) (i : ℕ) (d : X) → i < length xs → map f xs ≡ map f (take i xs) ++ f (get_or xs i d) ∷ map f (drop (i + 1) xs)
split-once f xs i d inside =
    let more : suc i ≡ i + 1 = omega arith in
    ap (map f) (sym (take-append-drop i xs))
    ∙ map-append f (take i xs) (drop i xs)
    ∙ ap (λ ys. map f (take i xs) ++ map f ys) (drop-cons xs i d inside)
    ∙ ap (λ k. map f (take i xs) ++ f (get_or xs i d) ∷ map f (drop k xs)) more

-- the same of what two functions make
pub split : {X Y Z : Type 0} (g : Y → Z) (f : X → Y) (xs : List X) (i : ℕ) (d : X) → i < length xs
    → map g (map f xs) ≡ map g (map f (take i xs)) ++ g (f (get_or xs i d)) ∷ map g (map f (drop (i + 1) xs))
split g f xs i d inside = ap (map g) (split-once f xs i d inside) ∙ map-append g (map f (take i xs)) (f (get_or xs i d) ∷ map f (drop (i + 1) xs))

-- where all pass a test, so does what is made of one
pub passes-at : {X Y : Type 0} (p : Y → Bool) (f : X → Y) (xs : List X) (i : ℕ) (d : X) → i < length xs → list_all p (map f xs) ≡ true → p (f (get_or xs i d)) ≡ true
passes-at p f xs i d inside all =
    middle (list_all p (map f (take i xs))) (p (f (get_or xs i d))) (list_all p (map f (drop (i + 1) xs)))
    (sym (list_all-append p (map f (take i xs)) (f (get_or xs i d) ∷ map f (drop (i + 1) xs))) ∙ sym (ap (list_all p) (split-once f xs i d inside)) ∙ all)
  where
    middle : (a b c : Bool) → (a && (b && c)) ≡ true → b ≡ true
    middle true true c h = refl
    middle true false c h = absurd (true≢false (sym h))
    middle false b c h = absurd (true≢false (sym h))
