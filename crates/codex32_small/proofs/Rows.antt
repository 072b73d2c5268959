-- Rows of elements as loops write them.
use Rattle.std.proofs.Common.{◌≡◌, ℕ, zero, suc, ◌-◌, ◌<◌, ◌≤◌, List, [], ◌∷◌, ◌++◌, length, map, take, drop, get_or, set, refl, sym, ap, ◌∙◌, arith}
use Rattle.std.proofs.lemmas.List.{append-nil, drop_all, take_all}
use Rattle.bech32_gf.specs.Fe32 as fe32
use Rattle.bech32_gf.specs.Fe32.{value}
use Rattle.bech32_gf.specs.declared.gf32.Fe32.{Fe32}
use Rattle.bech32_poly.specs.Division.{push, top}
use Rattle.bech32_poly.specs.Polynomial.{add, scale}
use Rattle.bech32_poly.proofs.Below.{out_next}

-- elements of the same values
pub same_values : (xs ys : List Fe32) → map value xs ≡ map value ys → xs ≡ ys
same_values [] [] e = refl
same_values [] (y ∷ ys) e = absurd (let k = ap length e in omega (arith, k))
same_values (x ∷ xs) [] e = absurd (let k = ap length e in omega (arith, k))
same_values (x ∷ xs) (y ∷ ys) e =
    let first : x.value ≡ y.value = ap (λ (l : List ℕ). get_or l 0 0) e in
    let rest : map value xs ≡ map value ys = ap (λ (l : List ℕ). drop 1 l) e in
    ap (λ (z : Fe32). z ∷ xs) (fe32.path x y first) ∙ ap (λ (l : List Fe32). y ∷ l) (same_values xs ys rest)

-- ---- one list in the place of another, from the front on

pub set_next : {A : Type 0} (new old : List A) (i : ℕ) (v d : A) → length new ≡ length old → i < length old → v ≡ get_or new i d
    → set (take i new ++ drop i old) i v ≡ take (suc i) new ++ drop (suc i) old
set_next [] old i v d size within is = absurd (omega (arith, size, within))
set_next (n ∷ new) [] i v d size within is = absurd (omega (arith, within))
set_next (n ∷ new) (o ∷ old) zero v d size within is = ap (λ u. u ∷ old) is
set_next (n ∷ new) (o ∷ old) (suc i) v d size within is = ap (λ u. n ∷ u) (set_next new old i v d (omega (arith, size)) (omega (arith, within)) is)

pub left_at : {A : Type 0} (new old : List A) (i : ℕ) (d : A) → length new ≡ length old → i < length old
    → get_or (take i new ++ drop i old) i d ≡ get_or old i d
left_at [] old i d size within = absurd (omega (arith, size, within))
left_at (n ∷ new) [] i d size within = absurd (omega (arith, within))
left_at (n ∷ new) (o ∷ old) zero d size within = refl
left_at (n ∷ new) (o ∷ old) (suc i) d size within = left_at new old i d (omega (arith, size)) (omega (arith, within))

pub all_set : {A : Type 0} (new old : List A) (i : ℕ) → length new ≡ length old → length old ≤ i → take i new ++ drop i old ≡ new
all_set new old i size all = ap (λ u. take i new ++ u) (drop_all i old all) ∙ append-nil (take i new) ∙ take_all i new (omega (arith, size, all))

-- ---- a step of division

pub length-stepped : (f a : Fe32) (low r : List Fe32) → length low ≡ length r → length (add fe32.ops (push a r) (scale fe32.ops f low)) ≡ length r
length-stepped f a [] [] size = refl
length-stepped f a [] (b ∷ r) size = absurd (omega (arith, size))
length-stepped f a (c ∷ low) [] size = absurd (omega (arith, size))
length-stepped f a (c ∷ low) (b ∷ r) size = ap suc (length-stepped f b low r (omega (arith, size)))

pub stepped_at : (f a : Fe32) (low r : List Fe32) (i : ℕ) → length low ≡ length r → i < length r
    → get_or (add fe32.ops (push a r) (scale fe32.ops f low)) i fe32.zero ≡ fe32.add (top a (take i r)) (fe32.mul f (get_or low i fe32.zero))
stepped_at f a [] r i size within = absurd (omega (arith, size, within))
stepped_at f a (c ∷ low) [] i size within = absurd (omega (arith, within))
stepped_at f a (c ∷ low) (b ∷ r) zero size within = refl
stepped_at f a (c ∷ low) (b ∷ r) (suc i) size within = stepped_at f b low r i (omega (arith, size)) (omega (arith, within))

-- the last element falls out
pub last_out : (a d : Fe32) (r : List Fe32) (n : ℕ) → n ≡ length r → 1 ≤ n → get_or r (n - 1) d ≡ top a r
last_out a d r n is some =
    let e : suc (n - 1) ≡ length r = omega (arith, is, some) in
    sym (out_next a d r (n - 1) (omega (arith, is, some))) ∙ ap (top a) (take_all (suc (n - 1)) r (omega (arith, e)))
