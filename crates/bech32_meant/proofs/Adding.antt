-- Which texts are added to those that are found.
use Rattle.std.proofs.Common.{◌≡◌, ◌∙◌, ◌+◌, ◌<◌, ◌≤◌, ℕ, List, [], ◌∷◌, ◌++◌, append-nil, get_or, length, map, map-id, take, inl, inr, refl, sym, ap, subst, arith}
use Rattle.std.specs.List.{flat_map, range_with_len}
use Rattle.std.proofs.lemmas.List.{map_more, map-append, take_all, take_more}
use Rattle.std.proofs.lemmas.List.Concat.{flat_map-append}
use Rattle.std.proofs.lemmas.List.FromFn.{map-range_with_len_more}
use Rattle.std.proofs.lemmas.Simd.{map-map}
use Rattle.std.specs.Prelude.{Err, Ok, OnOk, Result}
use Rattle.bech32_gf.specs.declared.gf32.Fe32.{Fe32}
use Rattle.bech32_poly.specs.Distinct.{IsAmong}
use Rattle.bech32_checksum.specs.Code.{Code}
use Rattle.bech32_near.specs.NearTexts.{AreNearTexts}
use Rattle.bech32_suggest.specs.Suggestions.{near_bound}
use Rattle.bech32_meant.specs.Added.{AddsAll, AddsIf, AddsNearby, Answer, IsInUseUnder}

module _ (P : List ℕ → Type 0) (slips : ℕ) {M : Type 0} (f : M → Answer) (text : List ℕ) where
  -- a text among those that are found is not added
  pub passed_told : (items : List M) → IsAmong text (map (λ m. (f m).0) items) → AddsIf P slips (map f items) text (map f items)
  passed_told items m = inr (inr (subst (λ (l : List (List ℕ)). IsAmong text l) (sym (map-map (λ (a : Answer). a.0) f items)) m), refl)

  -- one without the property is not
  pub failed_told : (items : List M) → (P text → ⊥) → AddsIf P slips (map f items) text (map f items)
  failed_told items fails = inr (inl fails, refl)

  -- another one is
  pub added_told : (items after : List M) (m : M) → (IsAmong text (map (λ m. (f m).0) items) → ⊥) → P text → after ≡ items ++ m ∷ [] → f m ≡ (text, slips)
      → AddsIf P slips (map f items) text (map f after)
  added_told items after m other is behind told =
      inl (
        (is, λ n. other (subst (λ (l : List (List ℕ)). IsAmong text l) (map-map (λ (a : Answer). a.0) f items) n)),
        ap (map f) behind ∙ map-append f items (m ∷ []) ∙ ap (λ (a : Answer). map f items ++ a ∷ []) told,
      )

-- ---- several are added, one after another

module _ {X : Type 0} (Adds : List Answer → X → List Answer → Type 0) where
  -- in two parts
  pub adds-append : (before middle after : List Answer) (xs ys : List X) → AddsAll Adds before xs middle → AddsAll Adds middle ys after → AddsAll Adds before (xs ++ ys) after
  adds-append before middle after [] ys same rest = subst (λ (b : List Answer). AddsAll Adds b ys after) same rest
  adds-append before middle after (x ∷ xs) ys h rest = (h.0, h.1, adds-append h.0 middle after xs ys h.2 rest)

  -- one more
  pub adds-more : (before middle after : List Answer) (xs : List X) (x : X) → AddsAll Adds before xs middle → Adds middle x after → AddsAll Adds before (xs ++ x ∷ []) after
  adds-more before middle after xs x so_far one = adds-append before middle after xs (x ∷ []) so_far (after, one, refl)

  module _ {M : Type 0} (f : M → X) (items : List M) (before : List Answer) where
    -- one more of what a function makes of items
    pub more_of : (middle after : List Answer) (i : ℕ) (d : M) → i < length items → AddsAll Adds before (map f (take i items)) middle
        → Adds middle (f (get_or items i d)) after → AddsAll Adds before (map f (take (i + 1) items)) after
    more_of middle after i d less so_far one =
        subst (λ (l : List X). AddsAll Adds before l after) (sym (map_more f items i d less))
        (adds-more before middle after (map f (take i items)) (f (get_or items i d)) so_far one)

    -- all are added
    pub all_of : (after : List Answer) (i : ℕ) → length items ≤ i → AddsAll Adds before (map f (take i items)) after → AddsAll Adds before (map f items) after
    all_of after i whole h = subst (λ (l : List M). AddsAll Adds before (map f l) after) (take_all i items whole) h

-- ---- the texts near one

module _ {M R E : Type 0} (hrp : List ℕ) (slips : ℕ) (code : Code) (text : List ℕ) (before after : List Answer) (items shown : List M) (r : Result R E) (same : shown ≡ items) where
  pub adds_near : (f : M → List (ℕ × Fe32) × List ℕ) (given : List ℕ) (errors : ℕ) → AreNearTexts code near_bound text given errors (map f items)
      → OnOk r (AddsAll (AddsIf (IsInUseUnder hrp) slips) before (map (λ m. (f m).1) shown) after) → OnOk r (AddsNearby code hrp slips errors text given before after)
  adds_near f given errors are added =
      on_ok r (λ h. record {
        near = map f items;
        are = are;
        adds = subst (λ (l : List (List ℕ)). AddsAll (AddsIf (IsInUseUnder hrp) slips) before l after) (ap (map (λ m. (f m).1)) same ∙ sym (map-map (λ p. p.1) f items)) h;
      }) added
    where
      on_ok : {P Q : Type 0} (r : Result R E) → (P → Q) → OnOk r P → OnOk r Q
      on_ok (Ok x) more h = more h
      on_ok (Err e) more h = tt

-- ---- what a function makes of numbers or items, one after another

module _ {X Y : Type 0} (Adds : List Answer → Y → List Answer → Type 0) (f : X → List Y) (before middle after : List Answer) where
  pub adds-next_item : (xs : List X) (i : ℕ) (d : X) → i < length xs → AddsAll Adds before (flat_map f (take i xs)) middle
      → AddsAll Adds middle (f (get_or xs i d)) after → AddsAll Adds before (flat_map f (take (i + 1) xs)) after
  adds-next_item xs i d inside so_far one =
      let parts : flat_map f (take (i + 1) xs) ≡ flat_map f (take i xs) ++ f (get_or xs i d) =
      ap (flat_map f) (take_more xs i d inside) ∙ flat_map-append f (take i xs) (get_or xs i d ∷ []) ∙ ap (λ ts. flat_map f (take i xs) ++ ts) (append-nil (f (get_or xs i d))) in
      subst (λ (ts : List Y). AddsAll Adds before ts after) (sym parts) (adds-append Adds before middle after (flat_map f (take i xs)) (f (get_or xs i d)) so_far one)

module _ {Y : Type 0} (Adds : List Answer → Y → List Answer → Type 0) (f : ℕ → List Y) (before middle after : List Answer) (i : ℕ) where
  pub adds-next_number : AddsAll Adds before (flat_map f (range_with_len 0 i)) middle → AddsAll Adds middle (f i) after
      → AddsAll Adds before (flat_map f (range_with_len 0 (i + 1))) after
  adds-next_number so_far one =
      let last : range_with_len 0 (i + 1) ≡ range_with_len 0 i ++ i ∷ [] =
      sym (map-id (range_with_len 0 (i + 1))) ∙ map-range_with_len_more (λ k. k) 0 i i (omega arith) ∙ ap (λ l. l ++ i ∷ []) (map-id (range_with_len 0 i)) in
      let parts : flat_map f (range_with_len 0 (i + 1)) ≡ flat_map f (range_with_len 0 i) ++ f i =
      ap (flat_map f) last ∙ flat_map-append f (range_with_len 0 i) (i ∷ []) ∙ ap (λ ts. flat_map f (range_with_len 0 i) ++ ts) (append-nil (f i)) in
      subst (λ (ts : List Y). AddsAll Adds before ts after) (sym parts) (adds-append Adds before middle after (flat_map f (range_with_len 0 i)) (f i) so_far one)

module _ {X Y Z : Type 0} (Adds : List Answer → Z → List Answer → Type 0) (g : Y → Z) (f : X → Y) (before middle after : List Answer) where
  -- the same of what two functions make
  pub adds-next_made : (xs : List X) (i : ℕ) (d : X) → i < length xs → AddsAll Adds before (map g (map f (take i xs))) middle
      → Adds middle (g (f (get_or xs i d))) after → AddsAll Adds before (map g (map f (take (i + 1) xs))) after
  adds-next_made xs i d inside so_far one =
      let parts : map g (map f (take (i + 1) xs)) ≡ map g (map f (take i xs)) ++ g (f (get_or xs i d)) ∷ [] =
      ap (map g) (map_more f xs i d inside) ∙ map-append g (map f (take i xs)) (f (get_or xs i d) ∷ []) in
      subst (λ (ts : List Z). AddsAll Adds before ts after) (sym parts) (adds-more Adds before middle after (map g (map f (take i xs))) (g (f (get_or xs i d))) so_far one)
