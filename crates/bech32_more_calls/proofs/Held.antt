-- Items that stand at the front of a buffer, and more behind them.
use borrow.Rule.Slice.PartMut.{put_mid}
use Rattle.std.proofs.Common.{drop-cons, suc, subst, ◌≡◌, ℕ, ◌+◌, ◌-◌, ◌<◌, ◌≤◌, List, [], ◌∷◌, ◌++◌, length, length-append, length-drop, length-take-le, take, drop, set, take_all, take_at, drop_at, take-append-drop, append_assoc, sym, ap, refl, ◌∙◌, arith}
use Rattle.std.proofs.lemmas.List.{drop-append-le, drop-drop, flat_map_more, set_at}
use Rattle.bech32_encode.specs.Buffers.{IsPut}
use Rattle.bech32_more_calls.specs.columns.Arrays.{Fills, HoldsArray, ends_from, concat_of, offsets_of}

module _ {A : Type 0} (items old new : List A) (h : Fills items old new) where
  -- what stands in a buffer and behind it is at least as long
  whole : length old ≤ length (items ++ drop (length items) old)
  whole =
      let both : length (items ++ drop (length items) old) ≡ length items + length (drop (length items) old) = length-append items (drop (length items) old) in
      let rest : length (drop (length items) old) ≡ length old - length items = length-drop (length items) old in
      omega (arith, both, rest)

  pub held-size : length new ≡ length old
  held-size = ap length h ∙ length-take-le (length old) (items ++ drop (length items) old) whole

  -- where the items fit, all stand there
  pub held-all : length items ≤ length old → new ≡ items ++ drop (length items) old
  held-all fits =
      let both : length (items ++ drop (length items) old) ≡ length items + length (drop (length items) old) = length-append items (drop (length items) old) in
      let rest : length (drop (length items) old) ≡ length old - length items = length-drop (length items) old in
      h ∙ take_all (length old) (items ++ drop (length items) old) (omega (arith, both, rest, fits))

-- and what is so, is held
pub held-from_all : {A : Type 0} (items old new : List A) → length items ≤ length old → new ≡ items ++ drop (length items) old → Fills items old new
held-from_all items old new fits is =
    let both : length (items ++ drop (length items) old) ≡ length items + length (drop (length items) old) = length-append items (drop (length items) old) in
    let rest : length (drop (length items) old) ≡ length old - length items = length-drop (length items) old in
    is ∙ sym (take_all (length old) (items ++ drop (length items) old) (omega (arith, both, rest, fits)))

-- no items
pub held-none : {A : Type 0} (xs : List A) → Fills [] xs xs
held-none xs = sym (take_all (length xs) xs (omega arith))

-- one more, where there is room
pub held-more : {A : Type 0} (items old new : List A) (i : ℕ) (x : A) → length items ≡ i → i < length new → Fills items old new → Fills (items ++ x ∷ []) old (set new i x)
held-more {A} items old new i x size less h =
    let same : length new ≡ length old = held-size items old new h in
    let one : length (items ++ x ∷ []) ≡ length items + 1 = length-append items (x ∷ []) in
    let more : drop i old ≡ _ = drop-cons old i x (omega (arith, less, same)) in
    let next : suc i ≡ length (items ++ x ∷ []) = omega (arith, one, size) in
    held-from_all (items ++ x ∷ []) old (set new i x) (omega (arith, one, size, less, same))
    (ap (λ (l : List A). set l i x) (held-all items old new h (omega (arith, size, less, same)) ∙ ap (λ (n : ℕ). items ++ drop n old) size ∙ ap (λ (l : List A). items ++ l) more)
    ∙ set_at items _ _ x i size
    ∙ sym (append_assoc items (x ∷ []) _)
    ∙ ap (λ (n : ℕ). (items ++ x ∷ []) ++ drop n old) next)

-- bytes that are put behind the items
pub held-behind : (items old xs ys written : List ℕ) (end k n : ℕ) → length items ≡ end → end + k ≤ length xs → Fills items old xs → IsPut written (take k (drop end xs)) ys n
    → Fills (items ++ written) old (put_mid end k xs ys)
held-behind items old xs ys written end k n size within h put =
    let same : length xs ≡ length old = held-size items old xs h in
    let is : xs ≡ items ++ drop (length items) old = held-all items old xs h (omega (arith, size, within, same)) in
    let at : xs ≡ items ++ drop end old = is ∙ ap (λ (m : ℕ). items ++ drop m old) size in
    let front : take end xs ≡ items = ap (take end) at ∙ take_at items (drop end old) end size in
    let behind : drop end xs ≡ drop end old = ap (drop end) at ∙ drop_at items (drop end old) end size in
    let room : length (take k (drop end xs)) ≡ k = length-take-le k (drop end xs) (omega (arith, length-drop end xs, within)) in
    let fits : length written ≤ k = omega (arith, put.fits, room) in
    let two : length (items ++ written) ≡ length items + length written = length-append items written in
    let rest : drop (length written) (take k (drop end xs)) ++ drop k (drop end xs) ≡ drop (length written) (drop end xs) =
    sym (drop-append-le (length written) (take k (drop end xs)) (drop k (drop end xs)) (omega (arith, fits, room)))
    ∙ ap (drop (length written)) (take-append-drop k (drop end xs)) in
    held-from_all (items ++ written) old (put_mid end k xs ys) (omega (arith, two, size, fits, within, same))
    (ap (λ (l : List ℕ). l ++ (ys ++ drop k (drop end xs))) front
    ∙ ap (λ (l : List ℕ). items ++ (l ++ drop k (drop end xs))) put.buffer
    ∙ ap (λ (l : List ℕ). items ++ l) (append_assoc written (drop (length written) (take k (drop end xs))) (drop k (drop end xs)) ∙ ap (λ (l : List ℕ). written ++ l) (rest ∙ ap (drop (length written)) behind ∙ drop-drop (length written) end old))
    ∙ sym (append_assoc items written (drop (end + length written) old))
    ∙ ap (λ (m : ℕ). (items ++ written) ++ drop m old) (omega (arith, two, size)))

-- how long a part of a buffer is
pub part-size : (end k : ℕ) (xs : List ℕ) → end + k ≤ length xs → length (take k (drop end xs)) ≡ k
part-size end k xs within = length-take-le k (drop end xs) (omega (arith, length-drop end xs, within))

-- a part of a buffer that stays as it was
pub put_mid-same : (end k : ℕ) (xs ys : List ℕ) → ys ≡ take k (drop end xs) → put_mid end k xs ys ≡ xs
put_mid-same end k xs ys same =
    ap (λ (l : List ℕ). take end xs ++ (l ++ drop k (drop end xs))) same
    ∙ ap (λ (l : List ℕ). take end xs ++ l) (take-append-drop k (drop end xs))
    ∙ take-append-drop end xs

-- ---- arrays

-- one more behind the others
pub concat_of-more : (items : List (List ℕ)) (x : List ℕ) → concat_of (items ++ x ∷ []) ≡ concat_of items ++ x
concat_of-more items x = sym (flat_map_more (λ (item : List ℕ). item) [] items x)

pub concat_of-size : (items : List (List ℕ)) (x : List ℕ) → length (concat_of (items ++ x ∷ [])) ≡ length (concat_of items) + length x
concat_of-size items x = ap length (concat_of-more items x) ∙ length-append (concat_of items) x

-- where it ends
ends-more : (at : ℕ) (items : List (List ℕ)) (x : List ℕ) → ends_from at (items ++ x ∷ []) ≡ ends_from at items ++ (at + length (concat_of items) + length x) ∷ []
ends-more at [] x = ap (λ (n : ℕ). n ∷ []) (omega arith)
ends-more at (item ∷ items) x =
    let size : length (concat_of (item ∷ items)) ≡ length item + length (concat_of items) = length-append item (concat_of items) in
    let end : at + length item + length (concat_of items) + length x ≡ at + length (concat_of (item ∷ items)) + length x = omega (arith, size) in
    ap (λ (l : List ℕ). (at + length item) ∷ l) (ends-more (at + length item) items x ∙ ap (λ (n : ℕ). ends_from (at + length item) items ++ n ∷ []) end)

pub offsets-more : (items : List (List ℕ)) (x : List ℕ) (end : ℕ) → end ≡ length (concat_of items) → offsets_of (items ++ x ∷ []) ≡ offsets_of items ++ (end + length x) ∷ []
offsets-more items x end is =
    ap (λ (l : List ℕ). 0 ∷ l) (ends-more 0 items x ∙ ap (λ (n : ℕ). ends_from 0 items ++ n ∷ []) (omega (arith, is)))

length-ends : (at : ℕ) (items : List (List ℕ)) → length (ends_from at items) ≡ length items
length-ends at [] = refl
length-ends at (item ∷ items) = ap suc (length-ends (at + length item) items)

pub length-offsets : (items : List (List ℕ)) → length (offsets_of items) ≡ length items + 1
length-offsets items = omega (arith, length-ends 0 items)

-- an array of nothing
pub array-none : (offsets offsets' bytes : List ℕ) → Fills (0 ∷ []) offsets offsets' → HoldsArray [] offsets offsets' bytes bytes
array-none offsets offsets' bytes h = record { places = h; content = held-none bytes; fits = omega arith; small = omega arith }

-- an array with one more
pub array-more : (items : List (List ℕ)) (offsets offsets' offsets'' bytes bytes' bytes'' x : List ℕ) (end : ℕ) → end ≡ length (concat_of items)
    → end + length x ≤ length bytes → end + length x < 2_147_483_648
    → HoldsArray items offsets offsets' bytes bytes'
    → Fills (offsets_of items ++ (end + length x) ∷ []) offsets offsets''
    → Fills (concat_of items ++ x) bytes bytes''
    → HoldsArray (items ++ x ∷ []) offsets offsets'' bytes bytes''
array-more items offsets offsets' offsets'' bytes bytes' bytes'' x end is fits small h places content = record {
  places = subst (λ (l : List ℕ). Fills l offsets offsets'') (sym (offsets-more items x end is)) places;
  content = subst (λ (l : List ℕ). Fills l bytes bytes'') (sym (concat_of-more items x)) content;
  fits = omega (arith, concat_of-size items x, is, fits);
  small = omega (arith, concat_of-size items x, is, small);
}
