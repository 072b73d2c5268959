-- One text is told with one edit: an edit is moved to the last place that makes the same list, and
-- two edits there that make one list are the same.
use Rattle.std.specs.Prelude.{◌≢◌}
use Rattle.std.proofs.Common.{◌≡◌, ℕ, suc, ◌+◌, List, [], ◌∷◌, ◌++◌, length, length-append, append_assoc, inl, inr, sym, ap, ◌∙◌, refl, arith}
use Rattle.std.proofs.lemmas.Bool.Decides.{eqb_tells}
use Rattle.bech32_gf.specs.Fe32 as fe32
use Rattle.bech32_gf.specs.declared.gf32.Fe32.{Fe32}
use Rattle.bech32_near.specs.edits.Edits.{Becomes, StartsWith, IsBefore, IsEdit, IsLast, IsToldEdit, kind, value_put}
use Rattle.bech32_near.specs.declared.edits.edit.Change.{Change}
use Rattle.bech32_near.specs.declared.edits.edit.Change.TheVariants.{LeftOut, PutIn, Swapped}
use Rattle.bech32_near.specs.declared.edits.edit.Edit.{Edit}
use Rattle.bech32_near.proofs.Parts.{same_parts}

-- ---- moved to the last place

abbrev HasTold : List Fe32 → List Fe32 → Type 0
HasTold old new = (edit : Edit) × IsToldEdit edit old new

told : (location : ℕ) (change : Change) (front behind old new : List Fe32) → location ≡ length behind → Becomes change front behind old new → IsLast change behind → HasTold old new
told location change front behind old new at b last = (
  record { location = location; change = change },
  record { edit_is = record { front = front; behind = behind; location_is = at; becomes = b }; last = last },
)

behind_one : (front rest : List Fe32) (x y : Fe32) → x ≡ y → front ++ (y ∷ rest) ≡ (front ++ x ∷ []) ++ rest
behind_one front rest x y e = (λ i. front ++ (sym e i ∷ rest)) ∙ sym (append_assoc front (x ∷ []) rest)

begins_not : (x y : Fe32) (rest : List Fe32) → x.value ≢ y.value → StartsWith x (y ∷ rest) → ⊥
begins_not x y rest n (others, e) = let same : y ≡ x = cc in n (ap (λ (u : Fe32). u.value) (sym same))

left_out_moved : (x : Fe32) (behind front old new : List Fe32) → old ≡ front ++ x ∷ behind → new ≡ front ++ behind → HasTold old new
left_out_moved x [] front old new o n = told 0 (LeftOut x) front [] old new refl (o, n) (λ b. cc)
left_out_moved x (y ∷ rest) front old new o n = elim (eqb_tells x.value y.value) [
  | inl t ↦ let same : x ≡ y = fe32.path x y t.1 in
      left_out_moved x rest (front ++ x ∷ []) old new (o ∙ (λ i. front ++ x ∷ sym same i ∷ rest) ∙ sym (append_assoc front (x ∷ []) (x ∷ rest))) (n ∙ behind_one front rest x y same)
  | inr t ↦ told (suc (length rest)) (LeftOut x) front (y ∷ rest) old new refl (o, n) (begins_not x y rest t.1)
]

put_in_moved : (x : Fe32) (behind front old new : List Fe32) → old ≡ front ++ behind → new ≡ front ++ x ∷ behind → HasTold old new
put_in_moved x [] front old new o n = told 0 (PutIn x) front [] old new refl (o, n) (λ b. cc)
put_in_moved x (y ∷ rest) front old new o n = elim (eqb_tells x.value y.value) [
  | inl t ↦ let same : x ≡ y = fe32.path x y t.1 in
      put_in_moved x rest (front ++ x ∷ []) old new (o ∙ behind_one front rest x y same) (n ∙ (λ i. front ++ x ∷ sym same i ∷ rest) ∙ sym (append_assoc front (x ∷ []) (x ∷ rest)))
  | inr t ↦ told (suc (length rest)) (PutIn x) front (y ∷ rest) old new refl (o, n) (begins_not x y rest t.1)
]

moved_of : (location : ℕ) (change : Change) (front behind old new : List Fe32) → location ≡ length behind → Becomes change front behind old new → old ≢ new → HasTold old new
moved_of location (Swapped x y) front behind old new at b n =
    told location (Swapped x y) front behind old new at b (λ e. n (b.0 ∙ (λ i. front ++ e i ∷ sym e i ∷ behind) ∙ sym b.1))
moved_of location (LeftOut x) front behind old new at b n = left_out_moved x behind front old new b.0 b.1
moved_of location (PutIn x) front behind old new at b n = put_in_moved x behind front old new b.0 b.1

-- a list that an edit makes, and that is another, is made by an edit that is told
pub moved : (edit : Edit) (old new : List Fe32) → IsEdit edit old new → old ≢ new → (told_edit : Edit) × IsToldEdit told_edit old new
moved edit old new is n = moved_of edit.location edit.change is.front is.behind old new is.location_is is.becomes n

-- ---- once

begins : (v w : Fe32) (xs ys : List Fe32) → xs ≡ w ∷ ys → v ≡ w → StartsWith v xs
begins v w xs ys e h = (ys, e ∙ ap (λ (u : Fe32). u ∷ ys) (sym h))

-- lists that came from one list by putting in an element
put_in-once : (front behind front' behind' : List Fe32) (v v' : Fe32) → front ++ behind ≡ front' ++ behind' → front ++ v ∷ behind ≡ front' ++ v' ∷ behind'
    → (StartsWith v behind → ⊥) → (StartsWith v' behind' → ⊥) → length front ≡ length front'
put_in-once [] behind [] behind' v v' whole made n n' = refl
put_in-once [] behind (f ∷ fs) behind' v v' whole made n n' = let same : v ≡ f = cc in absurd (n (begins v f behind (fs ++ behind') whole same))
put_in-once (f ∷ fs) behind [] behind' v v' whole made n n' = let same : v' ≡ f = cc in absurd (n' (begins v' f behind' (fs ++ behind) (sym whole) same))
put_in-once (f ∷ fs) behind (g ∷ gs) behind' v v' whole made n n' =
    let rest : fs ++ behind ≡ gs ++ behind' = cc in
    let rest_made : fs ++ v ∷ behind ≡ gs ++ v' ∷ behind' = cc in
    ap suc (put_in-once fs behind gs behind' v v' rest rest_made n n')

-- lists that came from one list by leaving out an element
left_out-once : (front behind front' behind' : List Fe32) (x x' : Fe32) → front ++ x ∷ behind ≡ front' ++ x' ∷ behind' → front ++ behind ≡ front' ++ behind'
    → (StartsWith x behind → ⊥) → (StartsWith x' behind' → ⊥) → length front ≡ length front'
left_out-once front behind front' behind' x x' whole made n n' = put_in-once front behind front' behind' x x' made whole n n'

-- lists that came from one list by swapping two elements
swapped-once : (front behind front' behind' : List Fe32) (x y x' y' : Fe32) → front ++ x ∷ y ∷ behind ≡ front' ++ x' ∷ y' ∷ behind' → front ++ y ∷ x ∷ behind ≡ front' ++ y' ∷ x' ∷ behind'
    → x ≢ y → x' ≢ y' → length front ≡ length front'
swapped-once [] behind [] behind' x y x' y' whole made n n' = refl
swapped-once [] behind (f ∷ fs) behind' x y x' y' whole made n n' = let same : x ≡ y = cc in absurd (n same)
swapped-once (f ∷ fs) behind [] behind' x y x' y' whole made n n' = let same : x' ≡ y' = cc in absurd (n' same)
swapped-once (f ∷ fs) behind (g ∷ gs) behind' x y x' y' whole made n n' =
    let rest : fs ++ x ∷ y ∷ behind ≡ gs ++ x' ∷ y' ∷ behind' = cc in
    let rest_made : fs ++ y ∷ x ∷ behind ≡ gs ++ y' ∷ x' ∷ behind' = cc in
    ap suc (swapped-once fs behind gs behind' x y x' y' rest rest_made n n')

-- the length of a list in parts
parts_length : (front behind whole : List Fe32) → whole ≡ front ++ behind → length whole ≡ length front + length behind
parts_length front behind whole e = ap (λ (u : List Fe32). length u) e ∙ length-append front behind

-- what two edits that make one list have in common
pub record AreSame (x y : Change) (front behind : List Fe32) : Type 0 where
  pub kinds : kind x ≡ kind y
  pub behinds : length front ≡ length behind
  pub values : value_put x ≡ value_put y

same_of : (x y : Change) (f b g c old new : List Fe32) → Becomes x f b old new → IsLast x b → Becomes y g c old new → IsLast y c → AreSame x y b c
same_of (Swapped u v) (Swapped w z) f b g c old new p k q m =
    let fronts : length f ≡ length g = swapped-once f b g c u v w z (sym p.0 ∙ q.0) (sym p.1 ∙ q.1) k m in
    record { kinds = refl; behinds = omega (arith, fronts, parts_length f (u ∷ v ∷ b) old p.0, parts_length g (w ∷ z ∷ c) old q.0); values = refl }
same_of (LeftOut u) (LeftOut w) f b g c old new p k q m =
    let fronts : length f ≡ length g = left_out-once f b g c u w (sym p.0 ∙ q.0) (sym p.1 ∙ q.1) k m in
    record { kinds = refl; behinds = omega (arith, fronts, parts_length f b new p.1, parts_length g c new q.1); values = refl }
same_of (PutIn u) (PutIn w) f b g c old new p k q m =
    let fronts : length f ≡ length g = put_in-once f b g c u w (sym p.0 ∙ q.0) (sym p.1 ∙ q.1) k m in
    let behinds : length b ≡ length c = omega (arith, fronts, parts_length f b old p.0, parts_length g c old q.0) in
    let parts = same_parts f (u ∷ b) g (w ∷ c) (sym p.1 ∙ q.1) (ap suc behinds) in
    let same : u ≡ w = cc in
    record { kinds = refl; behinds = behinds; values = ap (λ (v : Fe32). v.value) same }
same_of (Swapped u v) (LeftOut w) f b g c old new p k q m =
    absurd (omega (arith, parts_length f (u ∷ v ∷ b) old p.0, parts_length f (v ∷ u ∷ b) new p.1, parts_length g (w ∷ c) old q.0, parts_length g c new q.1))
same_of (Swapped u v) (PutIn w) f b g c old new p k q m =
    absurd (omega (arith, parts_length f (u ∷ v ∷ b) old p.0, parts_length f (v ∷ u ∷ b) new p.1, parts_length g c old q.0, parts_length g (w ∷ c) new q.1))
same_of (LeftOut u) (Swapped w z) f b g c old new p k q m =
    absurd (omega (arith, parts_length f (u ∷ b) old p.0, parts_length f b new p.1, parts_length g (w ∷ z ∷ c) old q.0, parts_length g (z ∷ w ∷ c) new q.1))
same_of (LeftOut u) (PutIn w) f b g c old new p k q m =
    absurd (omega (arith, parts_length f (u ∷ b) old p.0, parts_length f b new p.1, parts_length g c old q.0, parts_length g (w ∷ c) new q.1))
same_of (PutIn u) (Swapped w z) f b g c old new p k q m =
    absurd (omega (arith, parts_length f b old p.0, parts_length f (u ∷ b) new p.1, parts_length g (w ∷ z ∷ c) old q.0, parts_length g (z ∷ w ∷ c) new q.1))
same_of (PutIn u) (LeftOut w) f b g c old new p k q m =
    absurd (omega (arith, parts_length f b old p.0, parts_length f (u ∷ b) new p.1, parts_length g (w ∷ c) old q.0, parts_length g c new q.1))

-- of two edits that are told and make one list, neither is before the other
pub not_before : (x y : Edit) (old new : List Fe32) → IsToldEdit x old new → IsToldEdit y old new → IsBefore x y → ⊥
not_before x y old new p q before =
    let is = p.edit_is in
    let also = q.edit_is in
    let same = same_of x.change y.change is.front is.behind also.front also.behind old new is.becomes p.last also.becomes q.last in
    let places : x.location ≡ y.location = is.location_is ∙ same.behinds ∙ sym also.location_is in
    elim before [
      | inl less ↦ omega (arith, less, same.kinds)
      | inr (k, inl less) ↦ omega (arith, less, places)
      | inr (k, inr (l, less)) ↦ omega (arith, less, same.values)
    ]

changed_of : (change : Change) (front behind old new : List Fe32) → Becomes change front behind old new → IsLast change behind → old ≢ new
changed_of (Swapped x y) front behind old new b last e =
    let parts = same_parts front (x ∷ y ∷ behind) front (y ∷ x ∷ behind) (sym b.0 ∙ e ∙ b.1) refl in
    last cc
changed_of (LeftOut x) front behind old new b last e = omega (arith, ap (λ (u : List Fe32). length u) e, parts_length front (x ∷ behind) old b.0, parts_length front behind new b.1)
changed_of (PutIn x) front behind old new b last e = omega (arith, ap (λ (u : List Fe32). length u) e, parts_length front behind old b.0, parts_length front (x ∷ behind) new b.1)

-- an edit that is told makes another list
pub changed : (edit : Edit) (old new : List Fe32) → IsToldEdit edit old new → old ≢ new
changed edit old new p = changed_of edit.change p.edit_is.front p.edit_is.behind old new p.edit_is.becomes p.last
