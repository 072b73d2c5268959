-- The edits at one place that are told.
use Rattle.std.specs.Prelude.{◌≢◌, set}
use Rattle.std.proofs.Common.{◌≡◌, Bool, true, false, ℕ, zero, suc, ◌+◌, ◌-◌, ◌<◌, ◌≤◌, List, [], ◌∷◌, ◌++◌, append_assoc, length, length-append, get_or, take, drop, inl, inr, subst, sym, ap, ◌∙◌, refl, arith, add-one}
use Rattle.std.proofs.lemmas.List.{drop_more, get_or-append_right, get_or-drop, get_or_past, length-drop, length-set, length-take-le, set_at, set_split, take_more}
use Rattle.std.proofs.Math.Decide.{dec_lt}
use Rattle.bech32_descriptor.specs.Descriptor.{IsDescriptor}
use Rattle.bech32_descriptor.specs.Edits.{AreAllMends, IsAt, IsMendBefore, IsMend, IsPrinted, IsToldAt, byte_put, characters_changed, kind_of_change, made_at}
use Rattle.bech32_descriptor.specs.PairWalks.{IsMendBelow}
use Rattle.bech32_descriptor.specs.Walks.{IsMendAt, IsMendOfKind, IsPutAt, IsPutBy, IsWithinOfKind, change_that}
use Rattle.bech32_descriptor.specs.declared.edits.Change.{Change}
use Rattle.bech32_descriptor.specs.declared.edits.Change.TheVariants.{Changed, LeftOut, PutIn, Swapped}
use Rattle.bech32_descriptor.specs.declared.edits.Edit.{Edit}
use Rattle.bech32_descriptor.proofs.Listings.{nothing, same_all}

-- the only edit of which P may hold, where it does
the_one : (P : Edit → Type 0) (Q : Type 0) (only : Edit) → ((e : Edit) → P e → (e ≡ only) × Q) → P only → AreAllMends P (only ∷ [])
the_one P Q only found p = record {
  each = (p, tt);
  all = λ e h. inl (found e h).0;
  in_order = (tt, tt);
}

-- where it does not
not_the_one : (P : Edit → Type 0) (Q : Type 0) (only : Edit) → ((e : Edit) → P e → (e ≡ only) × Q) → (Q → ⊥) → AreAllMends P []
not_the_one P Q only found none = nothing IsMendBefore P (λ e h. none (found e h).1)

pub same_edit : (e : Edit) (i : ℕ) (change : Change) → e.place ≡ i → e.change ≡ change → e ≡ record { place = i; change = change }
same_edit e i change p c = λ j. record { place = p j; change = c j }

pub is_changed : (c : Change) (b : ℕ) → kind_of_change c ≡ 0 → byte_put c ≡ b → c ≡ Changed b
is_changed (Changed d) b k h = ap Changed h
is_changed Swapped b k h = absurd (omega (arith, k))
is_changed LeftOut b k h = absurd (omega (arith, k))
is_changed (PutIn d) b k h = absurd (omega (arith, k))

is_swapped : (c : Change) → kind_of_change c ≡ 1 → c ≡ Swapped
is_swapped (Changed d) k = absurd (omega (arith, k))
is_swapped Swapped k = refl
is_swapped LeftOut k = absurd (omega (arith, k))
is_swapped (PutIn d) k = absurd (omega (arith, k))

is_left_out : (c : Change) → kind_of_change c ≡ 2 → c ≡ LeftOut
is_left_out (Changed d) k = absurd (omega (arith, k))
is_left_out Swapped k = absurd (omega (arith, k))
is_left_out LeftOut k = refl
is_left_out (PutIn d) k = absurd (omega (arith, k))

is_put_in : (c : Change) (b : ℕ) → kind_of_change c ≡ 3 → byte_put c ≡ b → c ≡ PutIn b
is_put_in (Changed d) b k h = absurd (omega (arith, k))
is_put_in Swapped b k h = absurd (omega (arith, k))
is_put_in LeftOut b k h = absurd (omega (arith, k))
is_put_in (PutIn d) b k h = ap PutIn h

-- of one kind, the edit at a lower place comes first
pub place_first : (k : ℕ) (text : List ℕ) (x y : Edit) → IsMendOfKind k text x → IsMendOfKind k text y → x.place < y.place → IsMendBefore x y
place_first k text x y p q less = inr (p.0 ∙ sym q.0, inl less)

-- the bytes that are put
pub printed_changed : (text : List ℕ) (e : Edit) → IsMendOfKind 0 text e → IsPrinted (byte_put e.change) × (e.place < length text)
printed_changed text e (k, m) = elim_changed e.change k m.0
  where
    elim_changed : (c : Change) → kind_of_change c ≡ 0 → IsToldAt e.place c text → IsPrinted (byte_put c) × (e.place < length text)
    elim_changed (Changed b) k t = (t.1, t.0)
    elim_changed Swapped k t = absurd (omega (arith, k))
    elim_changed LeftOut k t = absurd (omega (arith, k))
    elim_changed (PutIn b) k t = absurd (omega (arith, k))

pub printed_put_in : (text : List ℕ) (e : Edit) → IsMendOfKind 3 text e → IsPrinted (byte_put e.change) × (e.place ≤ length text)
printed_put_in text e (k, m) = elim_put e.change k m.0
  where
    elim_put : (c : Change) → kind_of_change c ≡ 3 → IsToldAt e.place c text → IsPrinted (byte_put c) × (e.place ≤ length text)
    elim_put (PutIn b) k t = (t.1, t.0)
    elim_put Swapped k t = absurd (omega (arith, k))
    elim_put LeftOut k t = absurd (omega (arith, k))
    elim_put (Changed b) k t = absurd (omega (arith, k))

pub swapped_within : (text : List ℕ) (e : Edit) → IsMendOfKind 1 text e → e.place < length text
swapped_within text e (k, m) = elim_swap e.change k m.0
  where
    elim_swap : (c : Change) → kind_of_change c ≡ 1 → IsToldAt e.place c text → e.place < length text
    elim_swap Swapped k t = omega (arith, t.0)
    elim_swap (PutIn b) k t = absurd (omega (arith, k))
    elim_swap LeftOut k t = absurd (omega (arith, k))
    elim_swap (Changed b) k t = absurd (omega (arith, k))

pub left_out_within : (text : List ℕ) (e : Edit) → IsMendOfKind 2 text e → e.place < length text
left_out_within text e (k, m) = elim_left e.change k m.0
  where
    elim_left : (c : Change) → kind_of_change c ≡ 2 → IsToldAt e.place c text → e.place < length text
    elim_left LeftOut k t = t.0
    elim_left (PutIn b) k t = absurd (omega (arith, k))
    elim_left Swapped k t = absurd (omega (arith, k))
    elim_left (Changed b) k t = absurd (omega (arith, k))

-- ---- those that change few characters

changed_first : (c : Change) → kind_of_change c ≡ 0 → characters_changed c ≡ 1
changed_first (Changed b) k = refl
changed_first Swapped k = absurd (omega (arith, k))
changed_first LeftOut k = absurd (omega (arith, k))
changed_first (PutIn b) k = absurd (omega (arith, k))

changed_few : (c : Change) (k : ℕ) → kind_of_change c ≡ k → 0 < k → characters_changed c ≡ 0
changed_few (Changed b) k e h = absurd (omega (arith, e, h))
changed_few Swapped k e h = refl
changed_few LeftOut k e h = refl
changed_few (PutIn b) k e h = refl

within_first : (most : ℕ) (text : List ℕ) (xs : List Edit) → 0 < most → AreAllMends (IsMendOfKind 0 text) xs → AreAllMends (IsWithinOfKind 0 most text) xs
within_first most text xs some a =
    same_all IsMendBefore (IsMendOfKind 0 text) (IsWithinOfKind 0 most text) xs
    (λ e h. (h.0, (omega (arith, changed_first e.change h.0, some), h.1))) (λ e h. (h.0, h.1.1)) a

-- those before the end of the text are all
changed_anywhere : (text : List ℕ) (xs : List Edit) → AreAllMends (IsMendBelow text (length text)) xs → AreAllMends (IsMendOfKind 0 text) xs
changed_anywhere text xs a = same_all IsMendBefore (IsMendBelow text (length text)) (IsMendOfKind 0 text) xs (λ e h. h.0) (λ e h. (h, (printed_changed text e h).1)) a

none_within : (text : List ℕ) (e : Edit) → IsWithinOfKind 0 0 text e → ⊥
none_within text e h = omega (arith, changed_first e.change h.0, h.1.0)

-- those before an end that is that of the text, or its begin where none is to be changed
pub changed_before : (most end : ℕ) (text : List ℕ) (xs : List Edit) → (most ≡ 0 → end ≡ 0) → (0 < most → end ≡ length text) → AreAllMends (IsMendBelow text end) xs
    → AreAllMends (IsWithinOfKind 0 most text) xs
changed_before most end text xs none all a = elim (dec_lt 0 most) [
  | yes some ↦ within_first most text xs some (changed_anywhere text xs (subst (λ (n : ℕ). AreAllMends (IsMendBelow text n) xs) (all some) a))
  | no few ↦
      (let zero : most ≡ 0 = omega (arith, few) in
      same_all IsMendBefore (IsMendBelow text end) (IsWithinOfKind 0 most text) xs
      (λ e h. absurd (omega (arith, h.1, none zero)))
      (λ e h. absurd (none_within text e (subst (λ (n : ℕ). IsWithinOfKind 0 n text e) zero h))) a)
]

pub within_later : (k most : ℕ) (text : List ℕ) (xs : List Edit) → 0 < k → AreAllMends (IsMendOfKind k text) xs → AreAllMends (IsWithinOfKind k most text) xs
within_later k most text xs later a =
    same_all IsMendBefore (IsMendOfKind k text) (IsWithinOfKind k most text) xs
    (λ e h. (h.0, (omega (arith, changed_few e.change k h.0 later), h.1))) (λ e h. (h.0, h.1.1)) a

-- ---- a byte put at a place

put_byte : (put_in : Bool) (b : ℕ) → byte_put (change_that put_in b) ≡ b
put_byte true b = refl
put_byte false b = refl

put_kind : (put_in : Bool) (b c : ℕ) → kind_of_change (change_that put_in b) ≡ kind_of_change (change_that put_in c)
put_kind true b c = refl
put_kind false b c = refl

module _ (put_in : Bool) (kept i : ℕ) (text : List ℕ) where
  module _ (b : ℕ) where
    abbrev PutRight : Type 0
    PutRight = (b ≢ kept) × IsDescriptor (set text i b)

    abbrev the_put : Edit
    the_put = record { place = i; change = change_that put_in b }

    put_found : (e : Edit) → IsPutBy put_in kept i text b e → (e ≡ the_put) × PutRight
    put_found e h =
        let p = h.0 in
        let is = h.1 in (
          same_edit e i (change_that put_in b) p.place_is (p.change_is ∙ ap (λ (n : ℕ). change_that put_in n) is),
          (subst (λ (n : ℕ). n ≢ kept) is p.other, subst (λ (n : ℕ). IsDescriptor (set text i n)) is p.right),
        )

    pub put_told : IsPrinted b → PutRight → AreAllMends (IsPutBy put_in kept i text b) (the_put ∷ [])
    put_told printed q =
        let back = sym (put_byte put_in b) in
        the_one (IsPutBy put_in kept i text b) PutRight the_put put_found (
          record {
            place_is = refl;
            change_is = ap (λ (n : ℕ). change_that put_in n) back;
            printed = subst (λ (n : ℕ). IsPrinted n) back printed;
            other = subst (λ (n : ℕ). n ≢ kept) back q.0;
            right = subst (λ (n : ℕ). IsDescriptor (set text i n)) back q.1;
          },
          sym back,
        )

    pub put_not_told : (PutRight → ⊥) → AreAllMends (IsPutBy put_in kept i text b) []
    put_not_told none = not_the_one (IsPutBy put_in kept i text b) PutRight the_put put_found none

  pub put_first : (x y : Edit) → IsPutAt put_in kept i text x → IsPutAt put_in kept i text y → byte_put x.change < byte_put y.change → IsMendBefore x y
  put_first x y p q less =
      let kinds = ap (λ (c : Change). kind_of_change c) p.change_is ∙ put_kind put_in (byte_put x.change) (byte_put y.change)
      ∙ sym (ap (λ (c : Change). kind_of_change c) q.change_is) in
      inr (kinds, inr (p.place_is ∙ sym q.place_is, less))

-- those put in place of the character there are all changes of it
pub all_changed_at : (text : List ℕ) (i : ℕ) (xs : List Edit) → i < length text → AreAllMends (IsPutAt false (get_or text i 0) i text) xs → AreAllMends (IsMendAt 0 text i) xs
all_changed_at text i xs low a = same_all IsMendBefore (IsPutAt false (get_or text i 0) i text) (IsMendAt 0 text i) xs to from a
  where
    to : (e : Edit) → IsPutAt false (get_or text i 0) i text e → IsMendAt 0 text i e
    to e p =
        let b = byte_put e.change in
        let is : e.change ≡ Changed b = p.change_is in
        let told : IsMend text (record { place = i; change = Changed b }) = ((low, p.printed, λ k. p.other (sym k)), p.right) in
        ((ap (λ (c : Change). kind_of_change c) is, subst (IsMend text) (sym (same_edit e i (Changed b) p.place_is is)) told), p.place_is)

    from : (e : Edit) → IsMendAt 0 text i e → IsPutAt false (get_or text i 0) i text e
    from e h =
        let b = byte_put e.change in
        let is : e.change ≡ Changed b = is_changed e.change b h.0.0 refl in
        let m : IsMend text (record { place = i; change = Changed b }) = subst (IsMend text) (same_edit e i (Changed b) h.1 is) h.0.1 in
        record { place_is = h.1; change_is = is; printed = m.0.1; other = λ k. m.0.2 (sym k); right = m.1 }

module _ (text : List ℕ) (i : ℕ) where
  -- ---- two swapped

  abbrev SwapRight : Type 0
  SwapRight = (i + 1 < length text) × (get_or text i 0 ≢ get_or text (i + 1) 0) × IsDescriptor (made_at i Swapped text)

  swap_found : (e : Edit) → IsMendAt 1 text i e → (e ≡ record { place = i; change = Swapped }) × SwapRight
  swap_found e h =
      let same = same_edit e i Swapped h.1 (is_swapped e.change h.0.0) in
      let m = subst (IsMend text) same h.0.1 in
      (same, (m.0.0, m.0.1, m.1))

  pub swap_told : SwapRight → AreAllMends (IsMendAt 1 text i) (record { place = i; change = Swapped } ∷ [])
  swap_told q = the_one (IsMendAt 1 text i) SwapRight (record { place = i; change = Swapped }) swap_found ((refl, ((q.0, q.1), q.2)), refl)

  pub swap_not_told : (SwapRight → ⊥) → AreAllMends (IsMendAt 1 text i) []
  swap_not_told none = not_the_one (IsMendAt 1 text i) SwapRight (record { place = i; change = Swapped }) swap_found none

  -- ---- one left out

  abbrev LeftRight : Type 0
  LeftRight = (IsAt text (i + 1) (get_or text i 0) → ⊥) × IsDescriptor (take i text ++ drop (i + 1) text)

  left_found : (e : Edit) → IsMendAt 2 text i e → (e ≡ record { place = i; change = LeftOut }) × LeftRight
  left_found e h =
      let same = same_edit e i LeftOut h.1 (is_left_out e.change h.0.0) in
      let m = subst (IsMend text) same h.0.1 in
      (same, (m.0.1, m.1))

  pub left_told : i < length text → LeftRight → AreAllMends (IsMendAt 2 text i) (record { place = i; change = LeftOut } ∷ [])
  left_told low q = the_one (IsMendAt 2 text i) LeftRight (record { place = i; change = LeftOut }) left_found ((refl, ((low, q.0), q.1)), refl)

  pub left_not_told : (LeftRight → ⊥) → AreAllMends (IsMendAt 2 text i) []
  left_not_told none = not_the_one (IsMendAt 2 text i) LeftRight (record { place = i; change = LeftOut }) left_found none

  -- ---- the text without the next character, and with one put in at the next place

  pub left_next : i + 1 < length text → set (take i text ++ drop (i + 1) text) i (get_or text i 0) ≡ take (i + 1) text ++ drop (i + 1 + 1) text
  left_next low =
      let size : length (take i text) ≡ i = length-take-le i text (omega arith) in
      let inside : i < length text = omega arith in
      ap (λ (u : List ℕ). set (take i text ++ u) i (get_or text i 0)) (drop_more text (i + 1) 0 low)
      ∙ set_at (take i text) (get_or text (i + 1) 0) (drop (i + 1 + 1) text) (get_or text i 0) i size
      ∙ sym (append_assoc (take i text) (get_or text i 0 ∷ []) (drop (i + 1 + 1) text))
      ∙ ap (λ (u : List ℕ). u ++ drop (i + 1 + 1) text) (sym (take_more text i 0 inside))

  pub put_at : (b c : ℕ) → i ≤ length text → set (take i text ++ b ∷ drop i text) i c ≡ take i text ++ c ∷ drop i text
  put_at b c low = set_at (take i text) b (drop i text) c i (length-take-le i text low)

  pub put_next : (b : ℕ) → i < length text → set (take i text ++ b ∷ drop i text) i (get_or text i 0) ≡ take (i + 1) text ++ get_or text i 0 ∷ drop (i + 1) text
  put_next b low =
      put_at b (get_or text i 0) (omega arith)
      ∙ ap (λ (u : List ℕ). take i text ++ get_or text i 0 ∷ u) (drop_more text i 0 low)
      ∙ sym (append_assoc (take i text) (get_or text i 0 ∷ []) (get_or text i 0 ∷ drop (i + 1) text))
      ∙ ap (λ (u : List ℕ). u ++ get_or text i 0 ∷ drop (i + 1) text) (sym (take_more text i 0 low))

  pub change_parts : (b : ℕ) → i < length text → take i text ++ b ∷ drop (i + 1) text ≡ set text i b
  change_parts b low = ap (λ (n : ℕ). take i text ++ b ∷ drop n text) (add-one i) ∙ sym (set_split text i b low)

-- ---- a text with one character put in

module _ (text new : List ℕ) (i x : ℕ) (low : i ≤ length text) (is : new ≡ take i text ++ x ∷ drop i text) where
  pub put_length : length new ≡ length text + 1
  put_length = omega (arith, ap (λ (u : List ℕ). length u) is, length-append (take i text) (x ∷ drop i text), length-take-le i text low, length-drop i text, low)

  next_byte : get_or new (i + 1) 0 ≡ get_or text i 0
  next_byte =
      let one : i + 1 - i ≡ 1 = omega arith in
      let none : i + 0 ≡ i = omega arith in
      ap (λ (u : List ℕ). get_or u (i + 1) 0) is
      ∙ get_or-append_right (take i text) (x ∷ drop i text) i (i + 1) 0 (length-take-le i text low) (omega arith)
      ∙ ap (λ (n : ℕ). get_or (x ∷ drop i text) n 0) one ∙ get_or-drop i text 0 0 ∙ ap (λ (n : ℕ). get_or text n 0) none

  -- it is put in at the next place
  pub put_behind : i < length text → set new i (get_or new (i + 1) 0) ≡ take (i + 1) text ++ get_or text i 0 ∷ drop (i + 1) text
  put_behind less =
      ap (λ (b : ℕ). set new i b) next_byte ∙ ap (λ (u : List ℕ). set u i (get_or text i 0)) is ∙ put_next text i x less

  -- those put in place of it, other than the next one, are all that put one in
  pub all_put_in_at : (xs : List Edit) → AreAllMends (IsPutAt true (get_or new (i + 1) 0) i new) xs → AreAllMends (IsMendAt 3 text i) xs
  all_put_in_at xs a = same_all IsMendBefore (IsPutAt true (get_or new (i + 1) 0) i new) (IsMendAt 3 text i) xs to from a
    where
      made : (b : ℕ) → set new i b ≡ take i text ++ b ∷ drop i text
      made b = ap (λ (u : List ℕ). set u i b) is ∙ put_at text i x b low

      to : (e : Edit) → IsPutAt true (get_or new (i + 1) 0) i new e → IsMendAt 3 text i e
      to e p =
          let b = byte_put e.change in
          let change : e.change ≡ PutIn b = p.change_is in
          let told : IsMend text (record { place = i; change = PutIn b }) =
          ((low, p.printed, λ at. p.other (sym at.1 ∙ sym next_byte)), subst IsDescriptor (made b) p.right) in
          ((ap (λ (c : Change). kind_of_change c) change, subst (IsMend text) (sym (same_edit e i (PutIn b) p.place_is change)) told), p.place_is)

      other : (b : ℕ) → IsPrinted b → (IsAt text i b → ⊥) → b ≡ get_or text i 0 → ⊥
      other b printed none same = elim (dec_lt i (length text)) [
        | yes less ↦ none (less, sym same)
        | no more ↦
            (let past : length text ≤ i = omega (arith, more) in
            let zero : get_or text i 0 ≡ 0 = get_or_past text i 0 past in
            omega (arith, same, zero, printed.0))
      ]

      from : (e : Edit) → IsMendAt 3 text i e → IsPutAt true (get_or new (i + 1) 0) i new e
      from e h =
          let b = byte_put e.change in
          let change : e.change ≡ PutIn b = is_put_in e.change b h.0.0 refl in
          let m : IsMend text (record { place = i; change = PutIn b }) = subst (IsMend text) (same_edit e i (PutIn b) h.1 change) h.0.1 in
          record {
            place_is = h.1;
            change_is = change;
            printed = m.0.1;
            other = λ k. other b m.0.1 m.0.2 (k ∙ next_byte);
            right = subst IsDescriptor (sym (made b)) m.1;
          }

swap-parts : (text : List ℕ) (i x y : ℕ) → i + 1 < length text → take i text ++ (x ∷ y ∷ drop (suc (suc i)) text) ≡ set (set text i x) (suc i) y
swap-parts [] i x y h = absurd (omega arith)
swap-parts (a ∷ []) zero x y h = absurd (omega arith)
swap-parts (a ∷ b ∷ text) zero x y h = refl
swap-parts (a ∷ text) (suc i) x y h = ap (λ (u : List ℕ). a ∷ u) (swap-parts text i x y (omega arith))

pub swap_parts : (text : List ℕ) (i x y : ℕ) → i + 1 < length text → take i text ++ (x ∷ y ∷ drop (i + 2) text) ≡ set (set text i x) (i + 1) y
swap_parts text i x y h =
    let two : i + 2 ≡ suc (suc i) = omega arith in
    ap (λ (n : ℕ). take i text ++ (x ∷ y ∷ drop n text)) two ∙ swap-parts text i x y h ∙ ap (λ (n : ℕ). set (set text i x) n y) (sym (add-one i))

-- ---- texts that are too short

made_long : (text : List ℕ) (e : Edit) → IsMend text e → 9 ≤ length (made_at e.place e.change text)
made_long text e m = m.1.grammar.parts.long

pub none_changed : (text : List ℕ) (e : Edit) → length text < 9 → IsMendOfKind 0 text e → ⊥
none_changed text e short (k, m) =
    let is = is_changed e.change (byte_put e.change) k refl in
    let size : length (made_at e.place e.change text) ≡ length text =
    ap (λ (c : Change). length (made_at e.place c text)) is ∙ length-set text e.place (byte_put e.change) in
    omega (arith, made_long text e m, size, short)

pub none_swapped : (text : List ℕ) (e : Edit) → length text < 9 → IsMendOfKind 1 text e → ⊥
none_swapped text e short (k, m) =
    let i = e.place in
    let size : length (made_at i e.change text) ≡ length text =
    ap (λ (c : Change). length (made_at i c text)) (is_swapped e.change k)
    ∙ length-set (set text i (get_or text (i + 1) 0)) (i + 1) (get_or text i 0) ∙ length-set text i (get_or text (i + 1) 0) in
    omega (arith, made_long text e m, size, short)

pub none_left_out : (text : List ℕ) (e : Edit) → length text < 10 → IsMendOfKind 2 text e → ⊥
none_left_out text e short (k, m) =
    let i = e.place in
    let low : i < length text = left_out_within text e (k, m) in
    let few : i ≤ length text = omega arith in
    let size : length (made_at i e.change text) ≡ length (take i text) + length (drop (i + 1) text) =
    ap (λ (c : Change). length (made_at i c text)) (is_left_out e.change k) ∙ length-append (take i text) (drop (i + 1) text) in
    omega (arith, made_long text e m, size, length-take-le i text few, length-drop (i + 1) text, short)

pub none_put_in : (text : List ℕ) (e : Edit) → length text < 8 → IsMendOfKind 3 text e → ⊥
none_put_in text e short (k, m) =
    let i = e.place in
    let b = byte_put e.change in
    let few : i ≤ length text = (printed_put_in text e (k, m)).1 in
    let size : length (made_at i e.change text) ≡ length (take i text) + length (b ∷ drop i text) =
    ap (λ (c : Change). length (made_at i c text)) (is_put_in e.change b k refl) ∙ length-append (take i text) (b ∷ drop i text) in
    omega (arith, made_long text e m, size, length-take-le i text few, length-drop i text, short)
