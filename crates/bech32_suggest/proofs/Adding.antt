-- Which texts are added to those that are found.
use Rattle.std.specs.Prelude.{MatchOption, MatchResult, map, Result, Ok, Err, IfOk}
use Rattle.std.specs.List.{AllByRecursion}
use Rattle.std.proofs.Common.{◌≡◌, ◌⊎◌, ℕ, zero, suc, ◌+◌, ◌<◌, ◌≤◌, List, [], ◌∷◌, ◌++◌, Option, Some, None, length, take, get_or, inl, inr, subst, sym, ap, ◌∙◌, refl, arith}
use Rattle.std.proofs.lemmas.List.{map_more, map-append, take_all}
use Rattle.std.proofs.lemmas.Simd.{map-map}
use Rattle.bech32_gf.specs.declared.gf32.Fe32.{Fe32}
use Rattle.bech32_poly.specs.Distinct.{IsAmong, IsOnce}
use Rattle.bech32_bch.proofs.Places.{all_push, mem_left, mem_right, mem_split, once-append}
use Rattle.bech32_hrp.specs.Hrp.{lowered}
use Rattle.bech32_checksum.specs.Code.{Code, bech32, bech32m}
use Rattle.bech32_near.specs.NearTexts.{AreNearTexts, IsNearText}
use Rattle.bech32_near.specs.edits.NearEdits.{AreNearEdits}
use Rattle.bech32_near.specs.declared.edits.edit.Edit.{Edit}
use Rattle.bech32_decode.specs.Text.{HasHrp, IsText}
use Rattle.bech32_decode.proofs.Grammar.{only-from_IsText}
use Rattle.bech32_suggest.specs.Chance.{most_errors}
use Rattle.bech32_suggest.specs.Suggestions.{AddsEach, AddsEdits, AddsEditsOfRead, AddsFound, AddsNear, AddsOne, AreFound, AreFoundIn, AreSuggestions, IsAddressUnder, IsMeant, IsTriedText, Suggested, near_bound, suggestion_of}
use Rattle.bech32_suggest.specs.Typed.{as_read, unread_locations, max_typed_length}

-- ---- addresses

-- a text has one human-readable part
pub part_under : (hrp text part : List ℕ) → HasHrp text part → IsAddressUnder hrp text → lowered part ≡ lowered hrp
part_under hrp text part has is =
    let one = only-from_IsText text is.part is.has_part.0 is.has_part.1 part has.0 has.1.split has.1.data_bytes in
    ap lowered one.0 ∙ is.same_part

pub if_ok : {R E : Type 0} {P Q : Type 0} (r : Result R E) → (P → Q) → IfOk r (λ _. P) → IfOk r (λ _. Q)
if_ok (Ok x) more h = more h
if_ok (Err e) more h = tt

-- ---- texts among others

pub found_at : {M : Type 0} (f : M → List ℕ) (text : List ℕ) (items : List M) (i : ℕ) (d : M) → i < length items → f (get_or items i d) ≡ text → IsAmong text (map f items)
found_at f text [] i d less same = absurd (omega arith)
found_at f text (x ∷ xs) zero d less same = inl (sym same)
found_at f text (x ∷ xs) (suc i) d less same = inr (found_at f text xs i d (omega (arith, less)) same)

-- one more is another text
pub not_yet : {M : Type 0} (f : M → List ℕ) (text : List ℕ) (items : List M) (i : ℕ) (d : M) → i < length items → (f (get_or items i d) ≡ text → ⊥)
    → (IsAmong text (map f (take i items)) → ⊥) → IsAmong text (map f (take (i + 1) items)) → ⊥
not_yet f text items i d less other none h =
    elim (mem_split text (map f (take i items)) (f (get_or items i d) ∷ []) (subst (λ (l : List (List ℕ)). IsAmong text l) (map_more f items i d less) h)) [
      | inl m ↦ none m
      | inr m ↦ elim m [ inl e ↦ other (sym e) | inr z ↦ z ]
    ]

-- ---- what is added

module _ (hrp typed : List ℕ) where
  -- what stands among those that are found is not added
  pub passed : (before : List Suggested) (text : List ℕ) → IsAmong text (map (λ s. s.0) before) → AddsOne hrp typed before text before
  passed before text m = inr (inr m, refl)

  module _ {M : Type 0} (f : M → Suggested) (text : List ℕ) where
    -- a text that stands among those that are found is not added
    pub passed_told : (items : List M) → IsAmong text (map (λ m. (f m).0) items) → AddsOne hrp typed (map f items) text (map f items)
    passed_told items m = passed (map f items) text (subst (λ (l : List (List ℕ)). IsAmong text l) (sym (map-map (λ s. s.0) f items)) m)

    -- another one is
    pub added_told : (items after : List M) (m : M) → (IsAmong text (map (λ m. (f m).0) items) → ⊥) → IsMeant hrp typed text → after ≡ items ++ m ∷ [] → f m ≡ suggestion_of typed text
        → AddsOne hrp typed (map f items) text (map f after)
    added_told items after m other is behind told =
        inl (
          (is, λ n. other (subst (λ (l : List (List ℕ)). IsAmong text l) (map-map (λ s. s.0) f items) n)),
          ap (map f) behind ∙ map-append f items (m ∷ []) ∙ ap (λ (s : Suggested). map f items ++ s ∷ []) told,
        )

  -- one text more is added
  pub adds_more : (before middle after : List Suggested) (texts : List (List ℕ)) (text : List ℕ) → AddsEach hrp typed before texts middle → AddsOne hrp typed middle text after
      → AddsEach hrp typed before (texts ++ text ∷ []) after
  adds_more before middle after [] text same one = (after, subst (λ (b : List Suggested). AddsOne hrp typed b text after) same one, refl)
  adds_more before middle after (x ∷ xs) text h one = (h.0, h.1, adds_more h.0 middle after xs text h.2 one)

  module _ {M : Type 0} (f : M → List ℕ) (items : List M) (before : List Suggested) where
    -- the same of one item more
    pub more_of : (middle after : List Suggested) (i : ℕ) (m : M) → i < length items → m ≡ get_or items i m → AddsEach hrp typed before (map f (take i items)) middle
        → AddsOne hrp typed middle (f m) after → AddsEach hrp typed before (map f (take (i + 1) items)) after
    more_of middle after i m less is so_far one =
        subst (λ (l : List (List ℕ)). AddsEach hrp typed before l after)
        (ap (λ (t : M). map f (take i items) ++ f t ∷ []) is ∙ sym (map_more f items i m less))
        (adds_more before middle after (map f (take i items)) (f m) so_far one)

    -- all are added
    pub all_of : (after : List Suggested) (i : ℕ) → length items ≤ i → AddsEach hrp typed before (map f (take i items)) after → AddsEach hrp typed before (map f items) after
    all_of after i whole h = subst (λ (l : List M). AddsEach hrp typed before (map f l) after) (take_all i items whole) h

  module _ {M R E : Type 0} (text : List ℕ) (code : Code) (before after : List Suggested) (items shown : List M) (r : Result R E) (same : shown ≡ items) where
    -- the texts near one are added
    pub adds_near : (f : M → List (ℕ × Fe32) × List ℕ) (unread : List ℕ) (errors : ℕ) → AreNearTexts code near_bound text unread errors (map f items)
        → IfOk r (λ _. AddsEach hrp typed before (map (λ m. (f m).1) shown) after) → IfOk r (λ _. AddsNear code text unread errors hrp typed before after)
    adds_near f unread errors are added =
        if_ok r (λ h. record {
          near = map f items;
          are = are;
          adds = subst (λ (l : List (List ℕ)). AddsEach hrp typed before l after) (ap (map (λ m. (f m).1)) same ∙ sym (map-map (λ p. p.1) f items)) h;
        }) added

    -- the texts that one edit makes are added
    pub adds_edits : (f : M → Edit × List ℕ) → AreNearEdits code text (map f items)
        → IfOk r (λ _. AddsEach hrp typed before (map (λ m. (f m).1) shown) after) → IfOk r (λ _. AddsEdits code text hrp typed before after)
    adds_edits f are added =
        if_ok r (λ h. record {
          edits = map f items;
          are = are;
          adds = subst (λ (l : List (List ℕ)). AddsEach hrp typed before l after) (ap (map (λ m. (f m).1)) same ∙ sym (map-map (λ p. p.1) f items)) h;
        }) added

  -- those that one edit makes are added by both checksums, where all characters can be read
  pub edits_read : (text unread : List ℕ) (before middle after : List Suggested) → length unread ≡ 0 → AddsEdits bech32 text hrp typed before middle
      → AddsEdits bech32m text hrp typed middle after → AddsEditsOfRead unread text hrp typed before after
  edits_read text [] before middle after none one other = (middle, one, other)
  edits_read text (x ∷ xs) before middle after none one other = absurd (omega (arith, none))

  -- and else none
  pub edits_unread : (text unread : List ℕ) (before : List Suggested) → (length unread ≡ 0 → ⊥) → AddsEditsOfRead unread text hrp typed before before
  edits_unread text [] before some = absurd (some refl)
  edits_unread text (x ∷ xs) before some = refl

  -- the texts near one by both checksums are added, and then those that one edit makes
  pub adds_found : {R E : Type 0} (text unread : List ℕ) (errors : ℕ) (before first second after : List Suggested) (r : Result R E) → AddsNear bech32 text unread errors hrp typed before first
      → AddsNear bech32m text unread errors hrp typed first second → IfOk r (λ _. AddsEditsOfRead unread text hrp typed second after)
      → IfOk r (λ _. AddsFound text unread errors hrp typed before after)
  adds_found text unread errors before first second after r near nearm =
      if_ok r (λ h. record { first = first; second = second; by_bech32 = near; by_bech32m = nearm; edits = h })

  -- what stands there stays
  stays_one : (before after : List Suggested) (text one : List ℕ) → AddsOne hrp typed before text after → IsAmong one (map (λ s. s.0) before) → IsAmong one (map (λ s. s.0) after)
  stays_one before after text one (inl h) m =
      subst (λ (l : List Suggested). IsAmong one (map (λ s. s.0) l)) (sym h.1)
      (subst (λ (l : List (List ℕ)). IsAmong one l) (sym (map-append (λ s. s.0) before (suggestion_of typed text ∷ []))) (mem_left one (map (λ s. s.0) before) (text ∷ []) m))
  stays_one before after text one (inr h) m = subst (λ (l : List Suggested). IsAmong one (map (λ s. s.0) l)) (sym h.1) m

  stays_all : (before after : List Suggested) (texts : List (List ℕ)) (one : List ℕ) → AddsEach hrp typed before texts after → IsAmong one (map (λ s. s.0) before) → IsAmong one (map (λ s. s.0) after)
  stays_all before after [] one same m = subst (λ (l : List Suggested). IsAmong one (map (λ s. s.0) l)) (sym same) m
  stays_all before after (text ∷ texts) one h m = stays_all h.0 after texts one h.2 (stays_one before h.0 text one h.1 m)

  -- such an address stands there then
  stands_one : (before after : List Suggested) (text : List ℕ) → AddsOne hrp typed before text after → IsMeant hrp typed text → IsAmong text (map (λ s. s.0) after)
  stands_one before after text (inl h) is =
      subst (λ (l : List Suggested). IsAmong text (map (λ s. s.0) l)) (sym h.1)
      (subst (λ (l : List (List ℕ)). IsAmong text l) (sym (map-append (λ s. s.0) before (suggestion_of typed text ∷ []))) (mem_right text (map (λ s. s.0) before) (text ∷ []) (inl refl)))
  stands_one before after text (inr (inl not_one, same)) is = absurd (not_one is)
  stands_one before after text (inr (inr m, same)) is = subst (λ (l : List Suggested). IsAmong text (map (λ s. s.0) l)) (sym same) m

  stands_all : (before after : List Suggested) (texts : List (List ℕ)) (text : List ℕ) → AddsEach hrp typed before texts after → IsAmong text texts → IsMeant hrp typed text → IsAmong text (map (λ s. s.0) after)
  stands_all before after [] text h m is = absurd m
  stands_all before after (x ∷ xs) text h (inl e) is =
      stays_all h.0 after xs text h.2 (subst (λ (t : List ℕ). IsAmong t (map (λ s. s.0) h.0)) (sym e) (stands_one before h.0 x h.1 (subst (IsMeant hrp typed) e is)))
  stands_all before after (x ∷ xs) text h (inr m) is = stands_all h.0 after xs text h.2 m is

  -- each is such an address
  each_one : (before after : List Suggested) (text : List ℕ) → AddsOne hrp typed before text after → AllByRecursion (λ s. IsMeant hrp typed s.0) before → AllByRecursion (λ s. IsMeant hrp typed s.0) after
  each_one before after text (inl h) all =
      subst (AllByRecursion (λ s. IsMeant hrp typed s.0)) (sym h.1) (all_push (λ s. IsMeant hrp typed s.0) before (suggestion_of typed text) all h.0.0)
  each_one before after text (inr h) all = subst (AllByRecursion (λ s. IsMeant hrp typed s.0)) (sym h.1) all

  each_all : (before after : List Suggested) (texts : List (List ℕ)) → AddsEach hrp typed before texts after → AllByRecursion (λ s. IsMeant hrp typed s.0) before
      → AllByRecursion (λ s. IsMeant hrp typed s.0) after
  each_all before after [] same all = subst (AllByRecursion (λ s. IsMeant hrp typed s.0)) (sym same) all
  each_all before after (text ∷ texts) h all = each_all h.0 after texts h.2 (each_one before h.0 text h.1 all)

  -- each stands there once
  abbrev Once : List Suggested → Type 0
  Once found = IsOnce (map (λ s. s.0) found)

  once_one : (before after : List Suggested) (text : List ℕ) → AddsOne hrp typed before text after → Once before → Once after
  once_one before after text (inl h) once =
      subst Once (sym h.1)
      (subst (λ (l : List (List ℕ)). IsOnce l) (sym (map-append (λ s. s.0) before (suggestion_of typed text ∷ [])))
      (once-append (map (λ s. s.0) before) (text ∷ []) once (tt, tt)
      (λ t m n. elim n [ inl e ↦ h.0.1 (subst (λ (u : List ℕ). IsAmong u (map (λ s. s.0) before)) e m) | inr z ↦ z ])))
  once_one before after text (inr h) once = subst Once (sym h.1) once

  once_all : (before after : List Suggested) (texts : List (List ℕ)) → AddsEach hrp typed before texts after → Once before → Once after
  once_all before after [] same once = subst Once (sym same) once
  once_all before after (text ∷ texts) h once = once_all h.0 after texts h.2 (once_one before h.0 text h.1 once)

  module _ (text : List ℕ) (errors : ℕ) where
    each_of_read : (unread : List ℕ) (before after : List Suggested) → AddsEditsOfRead unread text hrp typed before after → AllByRecursion (λ s. IsMeant hrp typed s.0) before
        → AllByRecursion (λ s. IsMeant hrp typed s.0) after
    each_of_read [] before after h all =
        each_all h.0 after (map (λ m. m.1) h.2.edits) h.2.adds (each_all before h.0 (map (λ m. m.1) h.1.edits) h.1.adds all)
    each_of_read (x ∷ xs) before after same all = subst (AllByRecursion (λ s. IsMeant hrp typed s.0)) (sym same) all

    once_of_read : (unread : List ℕ) (before after : List Suggested) → AddsEditsOfRead unread text hrp typed before after → Once before → Once after
    once_of_read [] before after h once =
        once_all h.0 after (map (λ m. m.1) h.2.edits) h.2.adds (once_all before h.0 (map (λ m. m.1) h.1.edits) h.1.adds once)
    once_of_read (x ∷ xs) before after same once = subst Once (sym same) once

    stays_of_read : (unread : List ℕ) (before after : List Suggested) (one : List ℕ) → AddsEditsOfRead unread text hrp typed before after → IsAmong one (map (λ s. s.0) before) → IsAmong one (map (λ s. s.0) after)
    stays_of_read [] before after one h m =
        stays_all h.0 after (map (λ m. m.1) h.2.edits) one h.2.adds (stays_all before h.0 (map (λ m. m.1) h.1.edits) one h.1.adds m)
    stays_of_read (x ∷ xs) before after one same m = subst (λ (l : List Suggested). IsAmong one (map (λ s. s.0) l)) (sym same) m

    pub all_found : (unread : List ℕ) (found : List Suggested) → AddsFound text unread errors hrp typed [] found → (other : List ℕ)
        → IsNearText bech32 near_bound text unread errors other ⊎ IsNearText bech32m near_bound text unread errors other → IsMeant hrp typed (lowered other)
        → IsAmong (lowered other) (map (λ s. s.0) found)
    all_found unread found h other (inl near) is =
        stays_of_read unread h.second found (lowered other) h.edits
        (stays_all h.first h.second (map (λ m. m.1) h.by_bech32m.near) (lowered other) h.by_bech32m.adds
        (stands_all [] h.first (map (λ m. m.1) h.by_bech32.near) (lowered other) h.by_bech32.adds (h.by_bech32.are.all other near) is))
    all_found unread found h other (inr near) is =
        stays_of_read unread h.second found (lowered other) h.edits
        (stands_all h.first h.second (map (λ m. m.1) h.by_bech32m.near) (lowered other) h.by_bech32m.adds (h.by_bech32m.are.all other near) is)

    pub each_found : (unread : List ℕ) (found : List Suggested) → AddsFound text unread errors hrp typed [] found → AllByRecursion (λ s. IsMeant hrp typed s.0) found
    each_found unread found h =
        each_of_read unread h.second found h.edits
        (each_all h.first h.second (map (λ m. m.1) h.by_bech32m.near) h.by_bech32m.adds (each_all [] h.first (map (λ m. m.1) h.by_bech32.near) h.by_bech32.adds tt))

    pub once_found : (unread : List ℕ) (found : List Suggested) → AddsFound text unread errors hrp typed [] found → IsOnce (map (λ s. s.0) found)
    once_found unread found h =
        once_of_read unread h.second found h.edits
        (once_all h.first h.second (map (λ m. m.1) h.by_bech32m.near) h.by_bech32m.adds (once_all [] h.first (map (λ m. m.1) h.by_bech32.near) h.by_bech32.adds tt))

-- what is found for a typed text that was read is suggested
pub suggested : {V E : Type 0} (typed hrp part data_part : List ℕ) (items : V → List Suggested) (r : Result V E) → length typed ≤ max_typed_length → IsText (as_read typed) part data_part
    → MatchResult r (λ v. AreFoundIn data_part typed hrp (items v)) (λ _. IsTriedText typed) → MatchResult r (λ v. AreSuggestions typed hrp (items v)) (λ _. IsTriedText typed)
suggested typed hrp part data_part items (Ok v) short is found = inr (short, (part, data_part, is, found))
suggested typed hrp part data_part items (Err e) short is tried = tried

-- texts are tried for a typed one that has suggestions
pub some_tried : (typed hrp : List ℕ) (one : Suggested) (others : List Suggested) → AreSuggestions typed hrp (one ∷ others) → IsTriedText typed
some_tried typed hrp one others (inl (long, none)) = absurd (cc none)
some_tried typed hrp one others (inr (short, (part, data_part, is, found))) = step (most_errors (length data_part) (length (unread_locations typed))) refl found
  where
    step : (o : Option ℕ) → most_errors (length data_part) (length (unread_locations typed)) ≡ o → MatchOption o ((one ∷ others) ≡ []) (λ errors. AreFound typed hrp errors (one ∷ others)) → IsTriedText typed
    step None e none = absurd (cc none)
    step (Some errors) e h = record { short = short; part = part; data_part = data_part; grammar = is; errors = errors; looked_for = e }
