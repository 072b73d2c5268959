-- What is made of the items of a list, put at the front of a buffer, one after another.
use Rattle.std.specs.Prelude.{map}
use Rattle.std.proofs.Common.{◌≡◌, ℕ, suc, ◌+◌, ◌-◌, ◌<◌, ◌≤◌, List, [], ◌∷◌, ◌++◌, length, take, drop, set, get_or, append_assoc, sym, ap, subst, ◌∙◌, refl, arith}
use Rattle.std.proofs.lemmas.List.{length-map, length-take-le, map_more, set-append_right, take_all}
use Rattle.std.proofs.Math.Seq.{drop-cons}
use Rattle.bech32_bch.specs.Pattern.{locations}
use Rattle.bech32_encode.specs.Buffers.{IsPut}

-- one more byte at the front of a buffer
put_one : (front old : List ℕ) (i x : ℕ) → length front ≡ i → i < length old → set (front ++ drop i old) i x ≡ (front ++ (x ∷ [])) ++ drop (i + 1) old
put_one front old i x size less =
    let on : suc i ≡ i + 1 = omega arith in
    let none : i - i ≡ 0 = omega arith in
    set-append_right front (drop i old) i i x size (omega arith)
    ∙ ap (λ (k : ℕ). front ++ set (drop i old) k x) none
    ∙ ap (λ (l : List ℕ). front ++ set l 0 x) (drop-cons old i 0 less)
    ∙ ap (λ (k : ℕ). front ++ (x ∷ drop k old)) on
    ∙ sym (append_assoc front (x ∷ []) (drop (i + 1) old))

-- one more item
pub put_more : {A : Type 0} (f : A → ℕ) (listing : List A) (old b : List ℕ) (i : ℕ) (d : A) → i < length listing → i < length old
    → b ≡ map f (take i listing) ++ drop i old → set b i (f (get_or listing i d)) ≡ map f (take (i + 1) listing) ++ drop (i + 1) old
put_more f listing old b i d less room is =
    ap (λ (l : List ℕ). set l i (f (get_or listing i d))) is
    ∙ put_one (map f (take i listing)) old i (f (get_or listing i d)) (length-map (take i listing) f ∙ length-take-le i listing (omega arith)) (omega arith)
    ∙ ap (λ (l : List ℕ). l ++ drop (i + 1) old) (sym (map_more f listing i d less))

-- the first items
pub put_first : {A : Type 0} (f : A → ℕ) (listing : List A) (old new : List ℕ) (n : ℕ) → n ≤ length listing → n ≤ length old
    → new ≡ map f (take n listing) ++ drop n old → IsPut (map f (take n listing)) old new n
put_first f listing old new n few room is =
    let size : length (map f (take n listing)) ≡ n = length-map (take n listing) f ∙ length-take-le n listing few in
    record {
      fits = omega (arith, size, room);
      buffer = is ∙ ap (λ (k : ℕ). map f (take n listing) ++ drop k old) (sym size);
      count_is = sym size;
    }

-- all items
pub put_listed : {A : Type 0} (f : A → ℕ) (listing : List A) (old new : List ℕ) (i : ℕ) → i ≡ length listing → length listing ≤ length old
    → new ≡ map f (take i listing) ++ drop i old → IsPut (map f listing) old new (length listing)
put_listed f listing old new i at room is =
    let all : take i listing ≡ listing = take_all i listing (omega arith) in
    let size : length (map f listing) ≡ length listing = length-map listing f in
    record {
      fits = omega arith;
      buffer = is ∙ ap (λ l. map f l ++ drop i old) all ∙ ap (λ (k : ℕ). map f listing ++ drop k old) (at ∙ sym size);
      count_is = sym size;
    }

pub locations-map : {F : Type 0} (e : List (ℕ × F)) → locations e ≡ map (λ (p : ℕ × F). p.0) e
locations-map [] = refl
locations-map (p ∷ e) = ap (λ (l : List ℕ). p.0 ∷ l) (locations-map e)

pub put_locations : {F : Type 0} (e : List (ℕ × F)) (old new : List ℕ) (n : ℕ) → IsPut (map (λ (p : ℕ × F). p.0) e) old new n → IsPut (locations e) old new n
put_locations e old new n h = subst (λ (l : List ℕ). IsPut l old new n) (sym (locations-map e)) h
