-- Lists of locations.
use Rattle.std.specs.List.{AllByRecursion}
use Rattle.std.proofs.Common.{◌≡◌, ℕ, zero, suc, ◌<◌, ◌≤◌, List, [], ◌∷◌, ◌++◌, map, length, get_or, take, drop, ◌⊎◌, inl, inr, subst, sym, ap, refl, arith}
use Rattle.std.specs.Prelude.{◌≢◌}
use Rattle.bech32_poly.specs.Distinct.{IsAmong, IsOnce, IsNotAmong}
use Rattle.bech32_bch.specs.Pattern.{locations}
use Rattle.bech32_bch.specs.Knock.{without}
use Rattle.bech32_bch.proofs.Alone.{mem-without, length-without_mem}

pub look : {A : Type 0} (P : A → Type 0) (x : A) (xs : List A) → AllByRecursion P xs → IsAmong x xs → P x
look P x [] h m = absurd m
look P x (y ∷ xs) h (inl e) = subst P (sym e) h.0
look P x (y ∷ xs) h (inr m) = look P x xs h.1 m

pub all_of : {A : Type 0} (P : A → Type 0) (xs : List A) → ((x : A) → IsAmong x xs → P x) → AllByRecursion P xs
all_of P [] h = tt
all_of P (x ∷ xs) h = (h x (inl refl), all_of P xs (λ y m. h y (inr m)))

pub mem_left : {A : Type 0} (x : A) (xs ys : List A) → IsAmong x xs → IsAmong x (xs ++ ys)
mem_left x [] ys h = absurd h
mem_left x (y ∷ xs) ys (inl e) = inl e
mem_left x (y ∷ xs) ys (inr h) = inr (mem_left x xs ys h)

pub mem_right : {A : Type 0} (x : A) (xs ys : List A) → IsAmong x ys → IsAmong x (xs ++ ys)
mem_right x [] ys h = h
mem_right x (y ∷ xs) ys h = inr (mem_right x xs ys h)

pub mem_split : {A : Type 0} (x : A) (xs ys : List A) → IsAmong x (xs ++ ys) → IsAmong x xs ⊎ IsAmong x ys
mem_split x [] ys h = inr h
mem_split x (y ∷ xs) ys (inl e) = inl (inl e)
mem_split x (y ∷ xs) ys (inr h) = elim (mem_split x xs ys h) [ inl k ↦ inl (inr k) | inr k ↦ inr k ]

pub not_mem : {A : Type 0} (x : A) (xs : List A) → IsNotAmong x xs → IsAmong x xs → ⊥
not_mem x [] h m = m
not_mem x (y ∷ xs) h (inl e) = h.0 e
not_mem x (y ∷ xs) h (inr m) = not_mem x xs h.1 m

pub once-append : {A : Type 0} (xs ys : List A) → IsOnce xs → IsOnce ys → ((x : A) → IsAmong x xs → IsAmong x ys → ⊥) → IsOnce (xs ++ ys)
once-append [] ys h k apart = k
once-append (x ∷ xs) ys h k apart = (
  all_of (λ y. x ≢ y) (xs ++ ys) (λ y m e. elim (mem_split y xs ys m) [ inl p ↦ not_mem x xs h.0 (subst (λ z. IsAmong z xs) (sym e) p) | inr p ↦ apart x (inl refl) (subst (λ z. IsAmong z ys) (sym e) p) ]),
  once-append xs ys h.1 k (λ y m. apart y (inr m)),
)

pub mem_at : {A : Type 0} (xs : List A) (i : ℕ) (d : A) → i < length xs → IsAmong (get_or xs i d) xs
mem_at [] i d h = absurd (omega arith)
mem_at (x ∷ xs) zero d h = inl refl
mem_at (x ∷ xs) (suc i) d h = inr (mem_at xs i d (omega arith))

pub mem_drop : {A : Type 0} (xs : List A) (n i : ℕ) (d : A) → n ≤ i → i < length xs → IsAmong (get_or xs i d) (drop n xs)
mem_drop [] n i d le h = absurd (omega arith)
mem_drop (x ∷ xs) zero i d le h = mem_at (x ∷ xs) i d h
mem_drop (x ∷ xs) (suc n) zero d le h = absurd (omega arith)
mem_drop (x ∷ xs) (suc n) (suc i) d le h = mem_drop xs n i d (omega arith) (omega arith)

pub all_push : {A : Type 0} (P : A → Type 0) (xs : List A) (y : A) → AllByRecursion P xs → P y → AllByRecursion P (xs ++ (y ∷ []))
all_push P [] y h k = (k, tt)
all_push P (x ∷ xs) y h k = (h.0, all_push P xs y h.1 k)

pub all_drop_more : {A : Type 0} (P : A → Type 0) (n : ℕ) (xs : List A) (y : A) → AllByRecursion P (drop n xs) → (n ≤ length xs → P y) → AllByRecursion P (drop n (xs ++ (y ∷ [])))
all_drop_more P zero xs y h k = all_push P xs y h (k (omega arith))
all_drop_more P (suc n) [] y h k = nothing n
  where
    nothing : (n : ℕ) → AllByRecursion P (drop (suc n) (y ∷ []))
    nothing zero = tt
    nothing (suc n) = tt
all_drop_more P (suc n) (x ∷ xs) y h k = all_drop_more P n xs y h (λ le. k (omega arith))

pub locations-append : {F : Type 0} (e e' : List (ℕ × F)) → locations (e ++ e') ≡ locations e ++ locations e'
locations-append [] e' = refl
locations-append (p ∷ e) e' = ap (λ u. p.0 ∷ u) (locations-append e e')

pub length-locations : {F : Type 0} (e : List (ℕ × F)) → length e ≡ length (locations e)
length-locations [] = refl
length-locations (p ∷ e) = ap suc (length-locations e)

pub map_push : {A B : Type 0} (h : A → B) (xs : List A) (x : A) → map h (xs ++ (x ∷ [])) ≡ map h xs ++ (h x ∷ [])
map_push h [] x = refl
map_push h (y ∷ xs) x = ap (λ u. h y ∷ u) (map_push h xs x)

pub length_take : {A : Type 0} (xs : List A) (n : ℕ) → n ≤ length xs → length (take n xs) ≡ n
length_take [] n h = let z : n ≡ 0 = omega arith in rw z refl
length_take (x ∷ xs) zero h = refl
length_take (x ∷ xs) (suc n) h = ap suc (length_take xs n (omega arith))

pub drop_first : {A : Type 0} (xs ys : List A) → drop (length xs) (xs ++ ys) ≡ ys
drop_first [] ys = refl
drop_first (x ∷ xs) ys = drop_first xs ys

-- what has no location twice and stands in another list is no longer
pub once_fits : (xs ys : List ℕ) → IsOnce xs → ((x : ℕ) → IsAmong x xs → IsAmong x ys) → length xs ≤ length ys
once_fits [] ys once within = omega arith
once_fits (x ∷ xs) ys once within =
    let rest : length xs ≤ length (without x ys) = once_fits xs (without x ys) once.1 (λ y m. mem-without y x ys (within y (inr m)) (λ e. not_mem x xs once.0 (subst (λ z. IsAmong z xs) e m))) in
    omega (arith, length-without_mem x ys (within x (inl refl)))
