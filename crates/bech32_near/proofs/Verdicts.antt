-- Which edits of one kind a checksum accepts at one location.
use Rattle.std.specs.Prelude.{◌≢◌}
use Rattle.std.proofs.Common.{◌≡◌, ℕ, suc, ◌+◌, ◌-◌, ◌<◌, List, [], ◌∷◌, ◌++◌, length, length-append, inl, inr, subst, sym, ap, ◌∙◌, refl, arith}
use Rattle.bech32_gf.specs.Fe32 as fe32
use Rattle.bech32_gf.specs.declared.gf32.Fe32.{Fe32}
use Rattle.bech32_poly.specs.Polynomial.{appended}
use Rattle.bech32_checksum.specs.Code.{Code}
use Rattle.bech32_checksum.specs.TextPolynomial.{text_polynomial}
use Rattle.bech32_near.specs.edits.Edits.{AreAllOf, Becomes, StartsWith, IsBefore, IsLast, kind, value_put}
use Rattle.bech32_near.specs.edits.Walks.{HasLengthsFor, LeavesTarget, IsAcceptedAt, IsAcceptedOfKind, IsAcceptedValue}
use Rattle.bech32_near.specs.declared.edits.edit.Change.{Change}
use Rattle.bech32_near.specs.declared.edits.edit.Change.TheVariants.{LeftOut, PutIn, Swapped}
use Rattle.bech32_near.specs.declared.edits.edit.Edit.{Edit}
use Rattle.bech32_near.proofs.Kept.{nothing}
use Rattle.bech32_near.proofs.Parts.{same_parts}
use Rattle.bech32_near.proofs.Sums.{polynomial-parts}

-- the only edit of which P may hold, where it does
pub the_one : (P : Edit → Type 0) (Q : Type 0) (only : Edit) → ((e : Edit) → P e → (e ≡ only) × Q) → P only → AreAllOf P (only ∷ [])
the_one P Q only found p = record {
  each = (p, tt);
  all = λ e h. inl (found e h).0;
  in_order = (tt, tt);
}

-- where it does not
pub not_the_one : (P : Edit → Type 0) (Q : Type 0) (only : Edit) → ((e : Edit) → P e → (e ≡ only) × Q) → (Q → ⊥) → AreAllOf P []
not_the_one P Q only found none = nothing P (λ e h. none (found e h).1)

-- ---- the kinds

record IsSwap (change : Change) (front behind old new : List Fe32) : Type 0 where
  higher : Fe32
  lower : Fe32
  change_is : change ≡ Swapped higher lower
  old_is : old ≡ front ++ higher ∷ lower ∷ behind
  new_is : new ≡ front ++ lower ∷ higher ∷ behind
  differ : higher ≢ lower

swap_of : (change : Change) (front behind old new : List Fe32) → kind change ≡ 0 → Becomes change front behind old new → IsLast change behind → IsSwap change front behind old new
swap_of (Swapped x y) front behind old new k b last = record { higher = x; lower = y; change_is = refl; old_is = b.0; new_is = b.1; differ = last }
swap_of (LeftOut x) front behind old new k b last = absurd (omega (arith, k))
swap_of (PutIn x) front behind old new k b last = absurd (omega (arith, k))

record IsOne (Makes : Fe32 → Change) (change : Change) (front behind shorter longer : List Fe32) : Type 0 where
  element : Fe32
  change_is : change ≡ Makes element
  shorter_is : shorter ≡ front ++ behind
  longer_is : longer ≡ front ++ element ∷ behind
  last : StartsWith element behind → ⊥

left_out_of : (change : Change) (front behind old new : List Fe32) → kind change ≡ 1 → Becomes change front behind old new → IsLast change behind → IsOne LeftOut change front behind new old
left_out_of (LeftOut x) front behind old new k b last = record { element = x; change_is = refl; shorter_is = b.1; longer_is = b.0; last = last }
left_out_of (Swapped x y) front behind old new k b last = absurd (omega (arith, k))
left_out_of (PutIn x) front behind old new k b last = absurd (omega (arith, k))

put_in_of : (change : Change) (front behind old new : List Fe32) → kind change ≡ 2 → Becomes change front behind old new → IsLast change behind → IsOne PutIn change front behind old new
put_in_of (PutIn x) front behind old new k b last = record { element = x; change_is = refl; shorter_is = b.0; longer_is = b.1; last = last }
put_in_of (Swapped x y) front behind old new k b last = absurd (omega (arith, k))
put_in_of (LeftOut x) front behind old new k b last = absurd (omega (arith, k))

same_edit : (e : Edit) (location : ℕ) (change : Change) → e.location ≡ location → e.change ≡ change → e ≡ record { location = location; change = change }
same_edit e location change l c = λ i. record { location = l i; change = c i }

begins-along : (x y : Fe32) (xs ys : List Fe32) → x ≡ y → xs ≡ ys → StartsWith y ys → StartsWith x xs
begins-along x y xs ys e f (rest, is) = (rest, f ∙ is ∙ ap (λ (z : Fe32). z ∷ rest) (sym e))

-- ---- how long the lists are, and where the edits are

module _ (code : Code) (hrp : List ℕ) (old : List Fe32) (e : Edit) where
  pub of_swap : IsAcceptedOfKind 0 code hrp old e → HasLengthsFor code hrp (length old) × (e.location + 1 < length old)
  of_swap (k, (new, told, accepted)) =
      let is = told.edit_is in
      let s = swap_of e.change is.front is.behind old new k is.becomes told.last in
      let before = ap (λ (u : List Fe32). length u) s.old_is ∙ length-append is.front (s.higher ∷ s.lower ∷ is.behind) in
      let after = ap (λ (u : List Fe32). length u) s.new_is ∙ length-append is.front (s.lower ∷ s.higher ∷ is.behind) in
      (subst (HasLengthsFor code hrp) (after ∙ sym before) accepted.lengths, omega (arith, before, is.location_is))

  pub of_left_out : IsAcceptedOfKind 1 code hrp old e → HasLengthsFor code hrp (length old - 1) × (e.location < length old)
  of_left_out (k, (new, told, accepted)) =
      let is = told.edit_is in
      let s = left_out_of e.change is.front is.behind old new k is.becomes told.last in
      let before = ap (λ (u : List Fe32). length u) s.longer_is ∙ length-append is.front (s.element ∷ is.behind) in
      let after = ap (λ (u : List Fe32). length u) s.shorter_is ∙ length-append is.front is.behind in
      let size : length new ≡ length old - 1 = omega (arith, before, after) in
      (subst (HasLengthsFor code hrp) size accepted.lengths, omega (arith, before, is.location_is))

  pub of_put_in : IsAcceptedOfKind 2 code hrp old e → HasLengthsFor code hrp (length old + 1) × (e.location < length old + 1)
  of_put_in (k, (new, told, accepted)) =
      let is = told.edit_is in
      let s = put_in_of e.change is.front is.behind old new k is.becomes told.last in
      let before = ap (λ (u : List Fe32). length u) s.shorter_is ∙ length-append is.front is.behind in
      let after = ap (λ (u : List Fe32). length u) s.longer_is ∙ length-append is.front (s.element ∷ is.behind) in
      let size : length new ≡ length old + 1 = omega (arith, before, after) in
      (subst (HasLengthsFor code hrp) size accepted.lengths, omega (arith, before, is.location_is))

-- of one kind, what stands lower is before
pub lower_first : (k : ℕ) (code : Code) (hrp : List ℕ) (old : List Fe32) (x y : Edit) → IsAcceptedOfKind k code hrp old x → IsAcceptedOfKind k code hrp old y → x.location < y.location → IsBefore x y
lower_first k code hrp old x y p q less = inr (p.0 ∙ sym q.0, inl less)

-- at one location, what puts a lower value in is before
pub value_first : (k : ℕ) (code : Code) (hrp : List ℕ) (old : List Fe32) (location : ℕ) (x y : Edit) → IsAcceptedAt k code hrp old location x → IsAcceptedAt k code hrp old location y
    → value_put x.change < value_put y.change → IsBefore x y
value_first k code hrp old location x y p q less = inr (p.0.0 ∙ sym q.0.0, inr (p.1 ∙ sym q.1, less))

pub value_small : (change : Change) → value_put change < 32
value_small (Swapped x y) = omega arith
value_small (LeftOut x) = omega arith
value_small (PutIn x) = x.in_field

module _ (code : Code) (hrp : List ℕ) (old front behind : List Fe32) (location : ℕ) (there : length behind ≡ location) where
  target-parts : (f b new : List Fe32) (xs : List Fe32) → f ≡ front → b ≡ behind → new ≡ f ++ (xs ++ b) → LeavesTarget code (text_polynomial hrp new)
      → LeavesTarget code (appended (text_polynomial hrp front) (xs ++ behind))
  target-parts f b new xs e g is h =
      subst (LeavesTarget code) (ap (text_polynomial hrp) (is ∙ (λ i. e i ++ (xs ++ g i))) ∙ polynomial-parts hrp front (xs ++ behind)) h

  -- ---- swaps

  module _ (h l : Fe32) (old_is : old ≡ front ++ h ∷ l ∷ behind) where
    abbrev IsRightSwap : Type 0
    IsRightSwap = (h ≢ l) × LeavesTarget code (appended (h ∷ l ∷ text_polynomial hrp front) behind)

    abbrev swap : Edit
    swap = record { location = location; change = Swapped h l }

    only_swap : (e : Edit) → IsAcceptedAt 0 code hrp old location e → (e ≡ swap) × IsRightSwap
    only_swap e ((k, (new, told, accepted)), at) =
        let is = told.edit_is in
        let s = swap_of e.change is.front is.behind old new k is.becomes told.last in
        let size : length is.behind ≡ length behind = sym is.location_is ∙ at ∙ sym there in
        let parts = same_parts is.front (s.higher ∷ s.lower ∷ is.behind) front (h ∷ l ∷ behind) (sym s.old_is ∙ old_is) (ap (λ n. suc (suc n)) size) in
        let higher : s.higher ≡ h = cc in
        let lower : s.lower ≡ l = cc in
        let same : is.behind ≡ behind = cc in
        let change : e.change ≡ Swapped h l = s.change_is ∙ (λ i. Swapped (higher i) (lower i)) in (
          same_edit e location (Swapped h l) at change,
          (
            (λ e. s.differ (higher ∙ e ∙ sym lower)),
            target-parts is.front is.behind new (l ∷ h ∷ []) parts.0 same (s.new_is ∙ (λ i. is.front ++ lower i ∷ higher i ∷ is.behind)) accepted.has_target,
          ),
        )

    swap_accepted : HasLengthsFor code hrp (length old) → IsRightSwap → IsAcceptedAt 0 code hrp old location swap
    swap_accepted lengths right =
        let new : List Fe32 = front ++ l ∷ h ∷ behind in
        let size : length new ≡ length old = length-append front (l ∷ h ∷ behind) ∙ sym (ap (λ (u : List Fe32). length u) old_is ∙ length-append front (h ∷ l ∷ behind)) in (
          (
            refl,
            (
              new,
              record { edit_is = record { front = front; behind = behind; location_is = sym there; becomes = (old_is, refl) }; last = right.0 },
              record { lengths = subst (HasLengthsFor code hrp) (sym size) lengths; has_target = subst (LeavesTarget code) (sym (polynomial-parts hrp front (l ∷ h ∷ behind))) right.1 },
            ),
          ),
          refl,
        )

    pub swap_told : HasLengthsFor code hrp (length old) → IsRightSwap → AreAllOf (IsAcceptedAt 0 code hrp old location) (swap ∷ [])
    swap_told lengths right = the_one (IsAcceptedAt 0 code hrp old location) IsRightSwap swap only_swap (swap_accepted lengths right)

    pub swap_not_told : (IsRightSwap → ⊥) → AreAllOf (IsAcceptedAt 0 code hrp old location) []
    swap_not_told wrong = not_the_one (IsAcceptedAt 0 code hrp old location) IsRightSwap swap only_swap wrong

  -- ---- elements left out

  module _ (x : Fe32) (old_is : old ≡ front ++ x ∷ behind) where
    abbrev IsRightRest : Type 0
    IsRightRest = (StartsWith x behind → ⊥) × LeavesTarget code (text_polynomial hrp (front ++ behind))

    abbrev left_out : Edit
    left_out = record { location = location; change = LeftOut x }

    only_left_out : (e : Edit) → IsAcceptedAt 1 code hrp old location e → (e ≡ left_out) × IsRightRest
    only_left_out e ((k, (new, told, accepted)), at) =
        let is = told.edit_is in
        let s = left_out_of e.change is.front is.behind old new k is.becomes told.last in
        let size : length is.behind ≡ length behind = sym is.location_is ∙ at ∙ sym there in
        let parts = same_parts is.front (s.element ∷ is.behind) front (x ∷ behind) (sym s.longer_is ∙ old_is) (ap (λ n. suc n) size) in
        let element : s.element ≡ x = cc in
        let same : is.behind ≡ behind = cc in (
          same_edit e location (LeftOut x) at (s.change_is ∙ ap LeftOut element),
          (
            (λ begins. s.last (begins-along s.element x is.behind behind element same begins)),
            subst (λ (u : List Fe32). LeavesTarget code (text_polynomial hrp u)) (s.shorter_is ∙ (λ i. parts.0 i ++ same i)) accepted.has_target,
          ),
        )

    left_out_accepted : HasLengthsFor code hrp (length old - 1) → IsRightRest → IsAcceptedAt 1 code hrp old location left_out
    left_out_accepted lengths right =
        let one : length old ≡ suc (length (front ++ behind)) =
        omega (arith, ap (λ (u : List Fe32). length u) old_is, length-append front (x ∷ behind), length-append front behind) in
        let size : length (front ++ behind) ≡ length old - 1 = omega (arith, one) in (
          (
            refl,
            (
              front ++ behind,
              record { edit_is = record { front = front; behind = behind; location_is = sym there; becomes = (old_is, refl) }; last = right.0 },
              record { lengths = subst (HasLengthsFor code hrp) (sym size) lengths; has_target = right.1 },
            ),
          ),
          refl,
        )

    pub left_out_told : HasLengthsFor code hrp (length old - 1) → IsRightRest → AreAllOf (IsAcceptedAt 1 code hrp old location) (left_out ∷ [])
    left_out_told lengths right = the_one (IsAcceptedAt 1 code hrp old location) IsRightRest left_out only_left_out (left_out_accepted lengths right)

    pub left_out_not_told : (IsRightRest → ⊥) → AreAllOf (IsAcceptedAt 1 code hrp old location) []
    left_out_not_told wrong = not_the_one (IsAcceptedAt 1 code hrp old location) IsRightRest left_out only_left_out wrong

  -- ---- elements put in

  module _ (x : Fe32) (old_is : old ≡ front ++ behind) where
    abbrev IsRightElement : Type 0
    IsRightElement = (StartsWith x behind → ⊥) × LeavesTarget code (appended (x ∷ text_polynomial hrp front) behind)

    abbrev put_in : Edit
    put_in = record { location = location; change = PutIn x }

    only_put_in : (e : Edit) → IsAcceptedValue code hrp old location x.value e → (e ≡ put_in) × IsRightElement
    only_put_in e (((k, (new, told, accepted)), at), value) =
        let is = told.edit_is in
        let s = put_in_of e.change is.front is.behind old new k is.becomes told.last in
        let size : length is.behind ≡ length behind = sym is.location_is ∙ at ∙ sym there in
        let parts = same_parts is.front is.behind front behind (sym s.shorter_is ∙ old_is) size in
        let same_value : s.element.value ≡ x.value = ap value_put (sym s.change_is) ∙ value in
        let element : s.element ≡ x = fe32.path s.element x same_value in (
          same_edit e location (PutIn x) at (s.change_is ∙ ap PutIn element),
          (
            (λ begins. s.last (begins-along s.element x is.behind behind element parts.1 begins)),
            target-parts is.front is.behind new (x ∷ []) parts.0 parts.1 (s.longer_is ∙ (λ i. is.front ++ element i ∷ is.behind)) accepted.has_target,
          ),
        )

    put_in_accepted : HasLengthsFor code hrp (length old + 1) → IsRightElement → IsAcceptedValue code hrp old location x.value put_in
    put_in_accepted lengths right =
        let size : length (front ++ x ∷ behind) ≡ length old + 1 =
        omega (arith, ap (λ (u : List Fe32). length u) old_is, length-append front (x ∷ behind), length-append front behind) in (
          (
            (
              refl,
              (
                front ++ x ∷ behind,
                record { edit_is = record { front = front; behind = behind; location_is = sym there; becomes = (old_is, refl) }; last = right.0 },
                record { lengths = subst (HasLengthsFor code hrp) (sym size) lengths; has_target = subst (LeavesTarget code) (sym (polynomial-parts hrp front (x ∷ behind))) right.1 },
              ),
            ),
            refl,
          ),
          refl,
        )

    pub put_in_told : HasLengthsFor code hrp (length old + 1) → IsRightElement → AreAllOf (IsAcceptedValue code hrp old location x.value) (put_in ∷ [])
    put_in_told lengths right = the_one (IsAcceptedValue code hrp old location x.value) IsRightElement put_in only_put_in (put_in_accepted lengths right)

    pub put_in_not_told : (IsRightElement → ⊥) → AreAllOf (IsAcceptedValue code hrp old location x.value) []
    put_in_not_told wrong = not_the_one (IsAcceptedValue code hrp old location x.value) IsRightElement put_in only_put_in wrong
