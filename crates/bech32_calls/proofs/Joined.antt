-- Lists that are made of the items of another, put at the front of a buffer one behind another.
use Rattle.std.specs.Prelude.{flat_map}
use borrow.Rule.Slice.PartMut.{put_mid}
use Rattle.std.proofs.Common.{◌≡◌, ℕ, ◌+◌, ◌-◌, ◌<◌, ◌≤◌, List, [], ◌++◌, length, length-append, length-drop, take, drop, get_or, append_assoc, sym, ap, subst, refl, ◌∙◌, arith}
use Rattle.std.proofs.lemmas.List.{append-nil, drop-drop, drop_all, drop_at, flat_map_more, take_at, take_more, take_rest}
use Rattle.bech32_encode.specs.Buffers.{IsPut}
use Rattle.bech32_calls.specs.Fitting.{FirstFit, IsMost}

-- what a buffer holds after a write to all that is behind a place
put_end : (end : ℕ) (b c : List ℕ) → put_mid end (length b - end) b c ≡ take end b ++ c
put_end end b c =
    ap (λ (l : List ℕ). take end b ++ (c ++ l)) (drop_all (length b - end) (drop end b) (omega (arith, length-drop end b)))
    ∙ ap (λ (l : List ℕ). take end b ++ l) (append-nil c)

module _ {A : Type 0} (f : A → List ℕ) (items : List A) where
  -- one more
  pub joined_more : (i : ℕ) (d : A) → i < length items → flat_map f (take (i + 1) items) ≡ flat_map f (take i items) ++ f (get_or items i d)
  joined_more i d less = ap (flat_map f) (take_more items i d less) ∙ sym (flat_map_more f [] (take i items) (get_or items i d))

  -- it is put behind the others
  pub put_joined : (old b c : List ℕ) (i end : ℕ) (d : A) → i < length items → end ≡ length (flat_map f (take i items)) → b ≡ flat_map f (take i items) ++ drop end old
      → c ≡ f (get_or items i d) ++ drop (length (f (get_or items i d))) (drop end b)
      → take end b ++ c ≡ flat_map f (take (i + 1) items) ++ drop (end + length (f (get_or items i d))) old
  put_joined old b c i end d less size is put =
      let front : List ℕ = flat_map f (take i items) in
      let x : List ℕ = f (get_or items i d) in
      let one : take end b ≡ front = ap (take end) is ∙ take_at front (drop end old) end (sym size) in
      let other : drop end b ≡ drop end old = ap (drop end) is ∙ drop_at front (drop end old) end (sym size) in
      ap (λ (l : List ℕ). l ++ c) one
      ∙ ap (λ (l : List ℕ). front ++ l) (put ∙ ap (λ (l : List ℕ). x ++ drop (length x) l) other ∙ ap (λ (l : List ℕ). x ++ l) (drop-drop (length x) end old))
      ∙ sym (append_assoc front x (drop (end + length x) old))
      ∙ ap (λ (l : List ℕ). l ++ drop (end + length x) old) (sym (joined_more i d less))

  module _ (i : ℕ) (d : A) (end : ℕ) (x : List ℕ) (less : i < length items) (same : x ≡ f (get_or items i d)) (size : end ≡ length (flat_map f (take i items))) where
    pub next_size : end + length x ≡ length (flat_map f (take (i + 1) items))
    next_size =
        let more : length (flat_map f (take (i + 1) items)) ≡ length (flat_map f (take i items)) + length (f (get_or items i d)) =
        ap length (joined_more i d less) ∙ length-append (flat_map f (take i items)) (f (get_or items i d)) in
        let one : length x ≡ length (f (get_or items i d)) = ap length same in
        omega (arith, more, one, size)

    pub next_room : (b : List ℕ) → length x ≤ length b - end → length x ≤ length (take (length b - end) (drop end b))
    next_room b room =
        let rest : length (take (length b - end) (drop end b)) ≡ length b - end = ap length (take_rest b end) ∙ length-drop end b in
        omega (arith, rest, room)

    -- where the next does not fit, no more do
    pub most_at : (room : ℕ) → end ≤ room → room - end < length x → IsMost (FirstFit f items room) (length items) i
    most_at room within lacks = record {
      within = omega (arith, less);
      fits = omega (arith, size, within);
      full = λ more next. omega (arith, next, next_size, within, lacks);
    }

    pub put_next : (old b c : List ℕ) → b ≡ flat_map f (take i items) ++ drop end old → c ≡ x ++ drop (length x) (take (length b - end) (drop end b))
        → put_mid end (length b - end) b c ≡ flat_map f (take (i + 1) items) ++ drop (end + length x) old
    put_next old b c is put =
        let made : List ℕ = f (get_or items i d) in
        let one : c ≡ made ++ drop (length made) (drop end b) =
        put ∙ ap (λ (l : List ℕ). x ++ drop (length x) l) (take_rest b end) ∙ ap (λ (y : List ℕ). y ++ drop (length y) (drop end b)) same in
        put_end end b c
        ∙ put_joined old b c i end d less size is one
        ∙ ap (λ (y : List ℕ). flat_map f (take (i + 1) items) ++ drop (end + length y) old) (sym same)

  -- all fit
  pub most_all : (room i end : ℕ) → i ≡ length items → end ≡ length (flat_map f (take i items)) → end ≤ room → IsMost (FirstFit f items room) (length items) (length items)
  most_all room i end all size within =
      subst (λ (k : ℕ). IsMost (FirstFit f items room) (length items) k) all
      (record {
        within = omega (arith, all);
        fits = omega (arith, size, within);
        full = λ less next. omega (arith, all, less);
      })

  -- this many are put
  pub put_first_joined : (old b : List ℕ) (n end : ℕ) → end ≡ length (flat_map f (take n items)) → end ≤ length old → b ≡ flat_map f (take n items) ++ drop end old
      → IsPut (flat_map f (take n items)) old b (length (flat_map f (take n items)))
  put_first_joined old b n end size within is = record {
    fits = omega (arith, size, within);
    buffer = is ∙ ap (λ (k : ℕ). flat_map f (take n items) ++ drop k old) size;
    count_is = refl;
  }
