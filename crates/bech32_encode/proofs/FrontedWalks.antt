-- Adaptors that give a list of their own first, and then what an adaptor inside gives.
use Rattle.std.proofs.Common.{◌≡◌, Bool, true, List, [], ◌∷◌, ◌++◌, map, Option, Some, None, MatchOption, option_to_list, sym, ap, subst, ◌∙◌, refl}
use Rattle.std.specs.Prelude.{IfNone, false}
use Rattle.std.specs.Option.{option_map}
use Rattle.std.specs.Iterator.{Yields, Drains, DrainsIf}
use Rattle.std.specs.Iterator.Runs.{SomeRun, EachRunFrom}
use Rattle.std.proofs.iter.runs.Made.{run, took}
use Rattle.std.specs.Iterator.Adapters.{fuse_source, fuse_done}
use Rattle.std.specs.declared.iter.Fuse.{Fuse}
use Rattle.bech32_bits.specs.Adaptor.{then_gives, Adapts}
use Rattle.bech32_bits.specs.Walks.{EachWalkGives, EachRunGives}
use Rattle.bech32_bits.proofs.AdaptorWalks.{pulled_same, walk_holds, runs_hold}

-- what an answer of a fused source says of its end
pub ended_at_none : {A : Type 0} → (P Q : Type 0) (r : Option A) → MatchOption r P (λ _. Q) → IfNone r P
ended_at_none P Q None h = h
ended_at_none P Q (Some x) h = tt

-- an item passed on behind a list that has come
pub passed_on : {A : Type 0} → (front r : Option A) (b : Bool) (rest : List A) → front ≡ None → MatchOption r (b ≡ true) (λ _. b ≡ false) → (b ≡ true → rest ≡ [])
    → option_to_list front ++ (option_to_list r ++ rest) ≡ then_gives r (option_to_list front ++ rest)
passed_on None None b rest e h z = z h
passed_on None (Some x) b rest e h z = refl
passed_on (Some y) r b rest e h z = absurd (cc)

-- `front` is the list that comes first, and `f` what is made of each item of the adaptor inside
module _ {S A U V B C : Type 0} (steps : S → Option A → S → Type 0) (source : V → Fuse S) (gives : V → List A → List B) (inner : U → V) (front : U → List C) (f : B → C) where
  abbrev pub behind_front : U → List A → List C
  behind_front u xs = front u ++ map f (gives (inner u) xs)

  -- an item of the front
  pub front_step : (s t : U) (c : C) → front s ≡ c ∷ front t → inner t ≡ inner s → Adapts steps (λ u. source (inner u)) behind_front s (Some c) t
  front_step s t c e same = record {
    taken = [];
    pulled = pulled_same steps (source (inner s)) (source (inner t)) (ap source same);
    ended = tt;
    nothing_left = tt;
    gave = λ rest z. ap (λ l. l ++ map f (gives (inner s) rest)) e ∙ ap (λ v. c ∷ (front t ++ map f (gives v rest))) (sym same);
  }

  map-then_gives : (r : Option B) (ys : List B) → map f (then_gives r ys) ≡ then_gives (option_map f r) (map f ys)
  map-then_gives None ys = refl
  map-then_gives (Some y) ys = refl

  none_left : (P Q : Type 0) → (r : Option B) → (P → Q) → IfNone r P → IfNone (option_map f r) Q
  none_left P Q None k h = k h
  none_left P Q (Some y) k h = tt

  ended-map : (P : Type 0) (r : Option B) → IfNone r P → IfNone (option_map f r) P
  ended-map P None h = h
  ended-map P (Some y) h = tt

  -- an item of the adaptor inside
  pub inner_step : (s t : U) (r : Option B) → front s ≡ [] → front t ≡ [] → Adapts steps source gives (inner s) r (inner t)
      → Adapts steps (λ u. source (inner u)) behind_front s (option_map f r) t
  inner_step s t r e d a = record {
    taken = a.taken;
    pulled = a.pulled;
    ended = ended-map _ r a.ended;
    nothing_left = none_left _ _ r (λ none. ap (λ l. front t ++ map f l) none ∙ ap (λ l. l ++ []) d) a.nothing_left;
    gave = λ rest z.
        ap (λ l. l ++ map f (gives (inner s) (a.taken ++ rest))) e
        ∙ ap (map f) (a.gave rest z)
        ∙ map-then_gives r (gives (inner t) rest)
        ∙ ap (λ l. then_gives (option_map f r) (l ++ map f (gives (inner t) rest))) (sym d);
  }

  -- the same of an item, with what is made of it
  pub inner_item : (s t : U) (x : B) (y : C) → y ≡ f x → front s ≡ [] → front t ≡ [] → Adapts steps source gives (inner s) (Some x) (inner t)
      → Adapts steps (λ u. source (inner u)) behind_front s (Some y) t
  inner_item s t x y made e d a =
      subst (λ z. Adapts steps (λ u. source (inner u)) behind_front s (Some z) t) (sym made) (inner_step s t (Some x) e d a)

-- ---- steps of which more is known

module _ {S A : Type 0} (steps : S → Option A → S → Type 0) (Known : Option A → Type 0) where
  abbrev Both : S → Option A → S → Type 0
  Both s r t = steps s r t × Known r

  yields_alone : (s : S) (xs : List A) (t : S) → Yields Both s xs t → Yields steps s xs t
  yields_alone s [] t e = e
  yields_alone s (x ∷ xs) t (u, step, path) = (u, step.0, yields_alone u xs t path)

  drains_alone : (s : S) (xs : List A) → Drains Both s xs → Drains steps s xs
  drains_alone s xs (u, (t, path, last)) = (u, (t, yields_alone s xs t path, last.0))

  drains_if_alone : (W : Type 0) (s : S) (xs : List A) → DrainsIf Both W s xs → DrainsIf steps W s xs
  drains_if_alone W s xs (t, path, last) = (t, yields_alone s xs t path, λ w. let (u, step) = last w in (u, step.0))

  -- what holds of each run of the steps holds where more is known
  runs_alone : (s : S) (P : List A → Bool → Type 0) → EachRunFrom steps s (λ p. P p.items p.whole) → EachRunFrom Both s (λ p. P p.items p.whole)
  runs_alone s P each p seen at =
      let q = run steps p.from p.items p.whole (drains_if_alone (p.whole ≡ true) p.from p.items (took p)) in
      each q q.seen at

-- a whole walk, and each run, of an adaptor of whose items more is known
module _ {S A U B : Type 0} (steps : S → Option A → S → Type 0) (source : U → Fuse S) (gives : U → List A → List B) (Known : Option B → Type 0) (Holds : List A → List B → Type 0) where
  pub walk_holds_known : (s : U) (from : S) → fuse_source (source s) ≡ from → fuse_done (source s) ≡ false → ((xs : List A) → Holds xs (gives s xs))
      → EachWalkGives steps from (λ u r t. Adapts steps source gives u r t × Known r) s Holds
  walk_holds_known s from is fresh holds ys d =
      walk_holds steps source gives Holds s from is fresh holds ys (drains_alone (Adapts steps source gives) Known s ys d)

  pub runs_hold_known : (s : U) (from : S) → fuse_source (source s) ≡ from → fuse_done (source s) ≡ false → ((xs : List A) → Holds xs (gives s xs))
      → EachRunGives steps from (λ u r t. Adapts steps source gives u r t × Known r) s Holds
  runs_hold_known s from is fresh holds =
      runs_alone (Adapts steps source gives) Known s (λ ys whole. SomeRun steps from (λ q. (whole ≡ true → q.whole ≡ true) × (whole ≡ true → Holds q.items ys)))
      (runs_hold steps source gives Holds s from is fresh holds)

-- ---- an iterator that wraps another

module _ {S U A : Type 0} (steps : S → Option A → S → Type 0) (inner : U → S) where
  abbrev Wrapped : U → Option A → U → Type 0
  Wrapped u r w = steps (inner u) r (inner w)

  yields_inside : (u : U) (xs : List A) (w : U) → Yields Wrapped u xs w → Yields steps (inner u) xs (inner w)
  yields_inside u [] w e = ap inner e
  yields_inside u (x ∷ xs) w (v, step, path) = (inner v, step, yields_inside v xs w path)

  pub drains_inside : (u : U) (xs : List A) → Drains Wrapped u xs → Drains steps (inner u) xs
  drains_inside u xs (v, (w, path, last)) = (inner v, (inner w, yields_inside u xs w path, last))

  drains_if_inside : (W : Type 0) (u : U) (xs : List A) → DrainsIf Wrapped W u xs → DrainsIf steps W (inner u) xs
  drains_if_inside W u xs (w, path, last) = (inner w, yields_inside u xs w path, λ h. let (v, step) = last h in (inner v, step))

  pub runs_inside : (u : U) → EachRunFrom Wrapped u (λ p. SomeRun steps (inner u) (λ q. (p.whole ≡ true → q.whole ≡ true) × (q.items ≡ p.items)))
  runs_inside u p seen at =
      (run steps (inner p.from) p.items p.whole (drains_if_inside (p.whole ≡ true) p.from p.items (took p)), ap inner at, (λ e. e, refl))
