-- The steps of an adaptor over a fused source, and its whole walk.
use Rattle.std.proofs.Common.{◌≡◌, ℕ, Bool, true, false, List, [], ◌∷◌, ◌++◌, length, Option, Some, None, MatchBool, MatchOption, option_to_list, sym, ap, subst, ◌∙◌, refl, true≢false, append_assoc, append-nil}
use Rattle.std.specs.Prelude.{IfNone}
use Rattle.std.specs.Iterator.{Yields, Drains, DrainsIf, Count, size, count_unless}
use Rattle.std.specs.Iterator.Runs.{SomeRun, EachRunFrom}
use Rattle.std.proofs.iter.runs.Made.{run, took}
use Rattle.std.specs.Iterator.Adapters.{fuse_source, fuse_done, fuse_steps}
use Rattle.std.specs.declared.iter.Fuse.{Fuse}
use Rattle.bech32_bits.specs.Adaptor.{PullsUntilEnd, Adapts, IsExact, IsExactFused, fuse_left}
use Rattle.bech32_bits.specs.Walks.{EachWalkGives, EachRunGives}

-- what holds anyhow holds where there is no item
pub at_none : {A : Type 0} → {P : Type 0} → (r : Option A) → P → IfNone r P
at_none None h = h
at_none (Some x) h = tt

module _ {S A : Type 0} (steps : S → Option A → S → Type 0) where
  pub Yields-append : (s : S) (xs : List A) (t : S) (ys : List A) (u : S) → Yields steps s xs t → Yields steps t ys u → Yields steps s (xs ++ ys) u
  Yields-append s [] t ys u a b = subst (λ k. Yields steps k ys u) (sym a) b
  Yields-append s (x ∷ xs) t ys u a b = (a.0, a.1, Yields-append a.0 xs t ys u a.2 b)

  -- no call
  pub until_none : (b : Bool) (s : S) → PullsUntilEnd steps b s [] b s
  until_none true s = (refl, refl)
  until_none false s = (s, refl, refl)

  until_next : (a b : Bool) (s t : S) (r : Option A) → MatchBool a (r ≡ None) (steps s r t) → MatchOption r (b ≡ true) (λ _. b ≡ false) → PullsUntilEnd steps a s (option_to_list r) b t
  until_next true b s t None h k = (refl, k)
  until_next true b s t (Some x) h k = absurd cc
  until_next false true s t None h k = (s, refl, (t, h))
  until_next false false s t None h k = absurd (true≢false (sym k))
  until_next false true s t (Some x) h k = absurd (true≢false k)
  until_next false false s t (Some x) h k = (t, (t, h, refl), refl)

  pub until_append : (a b c : Bool) (s t u : S) (xs ys : List A) → PullsUntilEnd steps a s xs b t → PullsUntilEnd steps b t ys c u → PullsUntilEnd steps a s (xs ++ ys) c u
  until_append true true c s t u xs ys h k = (ap (λ l. l ++ ys) h.0 ∙ k.0, k.1)
  until_append true false c s t u xs ys h k = absurd (true≢false (sym h.1))
  until_append false true true s t u xs ys h k = (h.0, subst (λ l. Yields steps s l h.0) (sym (ap (λ l. xs ++ l) k.0 ∙ append-nil xs)) h.1, h.2)
  until_append false true false s t u xs ys h k = absurd (true≢false (sym k.1))
  until_append false false c s t u xs ys h k = (k.0, Yields-append s xs t ys k.0 (subst (Yields steps s xs) h.2 h.1) k.1, k.2)

  until_ended : (a b : Bool) (s t : S) (xs : List A) → PullsUntilEnd steps a s xs b t → a ≡ true → (xs ≡ []) × (b ≡ true)
  until_ended true b s t xs h e = h
  until_ended false b s t xs h e = absurd (true≢false (sym e))

  until_drains : (a b : Bool) (s t : S) (xs : List A) → PullsUntilEnd steps a s xs b t → a ≡ false → b ≡ true → Drains steps s xs
  until_drains true b s t xs h e d = absurd (true≢false e)
  until_drains false true s t xs h e d = let (w, last) = h.2 in (w, (h.0, h.1, last))
  until_drains false false s t xs h e d = absurd (true≢false (sym d))

-- one call of a fused source
pub pulled_next : {S A : Type 0} (steps : S → Option A → S → Type 0) (s t : Fuse S) (r : Option A) → fuse_steps steps s r t
    → PullsUntilEnd steps (fuse_done s) (fuse_source s) (option_to_list r) (fuse_done t) (fuse_source t)
pulled_next steps s t r h = until_next steps (fuse_done s) (fuse_done t) (fuse_source s) (fuse_source t) r h.0 h.1

-- two calls of it
pub pulled_two : {S A : Type 0} (steps : S → Option A → S → Type 0) (s t u : Fuse S) (q r : Option A) → fuse_steps steps s q t → fuse_steps steps t r u
    → PullsUntilEnd steps (fuse_done s) (fuse_source s) (option_to_list q ++ option_to_list r) (fuse_done u) (fuse_source u)
pulled_two steps s t u q r h k =
    until_append steps (fuse_done s) (fuse_done t) (fuse_done u) (fuse_source s) (fuse_source t) (fuse_source u) (option_to_list q) (option_to_list r) (pulled_next steps s t q h) (pulled_next steps t u r k)

-- no call of it
pub pulled_none : {S A : Type 0} (steps : S → Option A → S → Type 0) (s : Fuse S) → PullsUntilEnd steps (fuse_done s) (fuse_source s) [] (fuse_done s) (fuse_source s)
pulled_none steps s = until_none steps (fuse_done s) (fuse_source s)

-- no call of it, or one, and then a state of the same source
pub pulled_same : {S A : Type 0} (steps : S → Option A → S → Type 0) (s t : Fuse S) → t ≡ s → PullsUntilEnd steps (fuse_done s) (fuse_source s) [] (fuse_done t) (fuse_source t)
pulled_same steps s t e = subst (λ u. PullsUntilEnd steps (fuse_done s) (fuse_source s) [] (fuse_done u) (fuse_source u)) (sym e) (pulled_none steps s)

pub pulled_next_same : {S A : Type 0} (steps : S → Option A → S → Type 0) (s t u : Fuse S) (r : Option A) → fuse_steps steps s r t → u ≡ t
    → PullsUntilEnd steps (fuse_done s) (fuse_source s) (option_to_list r) (fuse_done u) (fuse_source u)
pulled_next_same steps s t u r h e =
    subst (λ v. PullsUntilEnd steps (fuse_done s) (fuse_source s) (option_to_list r) (fuse_done v) (fuse_source v)) (sym e) (pulled_next steps s t r h)

-- what may follow t, behind xs, may follow s
rest_after : {S A : Type 0} (steps : S → Option A → S → Type 0) (a b : Bool) (s t : S) (xs rest : List A) → PullsUntilEnd steps a s xs b t → (b ≡ true → rest ≡ []) → a ≡ true → xs ++ rest ≡ []
rest_after steps a b s t xs rest h k e =
    let z = until_ended steps a b s t xs h e in
    ap (λ l. l ++ rest) z.0 ∙ k z.1

-- how many items came of a source up to its end
pulled-length : {S A : Type 0} (steps : S → Option A → S → Type 0) (left : S → Count) (b : Bool) (s : S) (xs : List A) (t : S) → PullsUntilEnd steps b s xs true t → (b ≡ false → IsExact steps left s) → length xs ≡ size (count_unless b (left s))
pulled-length steps left true s xs t h exact = ap length h.0
pulled-length steps left false s xs t h exact = exact refl xs (h.2.0, (h.0, h.1, h.2.1))

module _ {S A U B : Type 0} (steps : S → Option A → S → Type 0) (source : U → Fuse S) (gives : U → List A → List B) where
  abbrev Took : U → List A → U → Type 0
  Took s xs t = PullsUntilEnd steps (fuse_done (source s)) (fuse_source (source s)) xs (fuse_done (source t)) (fuse_source (source t))

  -- what calls have taken and given so far
  record Explains (s : U) (ys : List B) (t : U) : Type 0 where
    taken : List A
    pulled : Took s taken t
    gave : (rest : List A) → (fuse_done (source t) ≡ true → rest ≡ []) → gives s (taken ++ rest) ≡ ys ++ gives t rest

  explains : (s : U) (ys : List B) (t : U) → Yields (Adapts steps source gives) s ys t → Explains s ys t
  explains s [] t e = subst (Explains s []) e (record { taken = []; pulled = pulled_none steps (source s); gave = λ rest z. refl })
  explains s (y ∷ ys) t e =
      let a = e.1 in
      let b = explains e.0 ys t e.2 in
      record {
        taken = a.taken ++ b.taken;
        pulled = until_append steps (fuse_done (source s)) (fuse_done (source e.0)) (fuse_done (source t)) (fuse_source (source s)) (fuse_source (source e.0)) (fuse_source (source t)) a.taken b.taken a.pulled b.pulled;
        gave = λ rest z. ap (gives s) (append_assoc a.taken b.taken rest)
            ∙ a.gave (b.taken ++ rest) (rest_after steps (fuse_done (source e.0)) (fuse_done (source t)) (fuse_source (source e.0)) (fuse_source (source t)) b.taken rest b.pulled z)
            ∙ ap (λ l. y ∷ l) (b.gave rest z);
      }

  -- a whole walk gives what is made of a whole walk of the source, or of nothing where that had ended
  walk_from : (s : U) (ys : List B) → Drains (Adapts steps source gives) s ys → (xs : List A) × (t : S) × PullsUntilEnd steps (fuse_done (source s)) (fuse_source (source s)) xs true t × (ys ≡ gives s xs)
  walk_from s ys d =
      let (u, (t, calls, last)) = d in
      let b = explains s ys t calls in
      let xs = b.taken ++ last.taken in
      let took = until_append steps (fuse_done (source s)) (fuse_done (source t)) (fuse_done (source u)) (fuse_source (source s)) (fuse_source (source t)) (fuse_source (source u)) b.taken last.taken b.pulled last.pulled in
      let end : gives t (last.taken ++ []) ≡ [] = last.gave [] (λ _. refl) in (
        xs,
        fuse_source (source u),
        subst (λ e. PullsUntilEnd steps (fuse_done (source s)) (fuse_source (source s)) xs e (fuse_source (source u))) last.ended took,
        sym (ap (gives s) (ap (λ l. b.taken ++ l) (sym (append-nil last.taken)))
            ∙ b.gave (last.taken ++ []) (rest_after steps (fuse_done (source t)) (fuse_done (source u)) (fuse_source (source t)) (fuse_source (source u)) last.taken [] last.pulled (λ _. refl))
            ∙ ap (λ l. ys ++ l) end ∙ append-nil ys),
      )

  pub walk : (s : U) (ys : List B) → fuse_done (source s) ≡ false → Drains (Adapts steps source gives) s ys → (xs : List A) × Drains steps (fuse_source (source s)) xs × (ys ≡ gives s xs)
  walk s ys fresh d =
      let (xs, t, took, is) = walk_from s ys d in
      (xs, until_drains steps (fuse_done (source s)) true (fuse_source (source s)) t xs took fresh refl, is)

  -- it gives as many items as its source's count says, where that count is exact
  pub walk_length : (left : S → Count) (count : ℕ → ℕ) (s : U) (ys : List B) → ((xs : List A) → length (gives s xs) ≡ count (length xs)) → IsExactFused steps left (source s)
      → Drains (Adapts steps source gives) s ys → length ys ≡ count (size (fuse_left left (source s)))
  walk_length left count s ys each exact d =
      let (xs, t, took, is) = walk_from s ys d in
      ap length is ∙ each xs ∙ ap count (pulled-length steps left (fuse_done (source s)) (fuse_source (source s)) xs t took exact)

until_drains_if : {S A : Type 0} (steps : S → Option A → S → Type 0) (a b : Bool) (s t : S) (xs : List A) → PullsUntilEnd steps a s xs b t → a ≡ false → DrainsIf steps (b ≡ true) s xs
until_drains_if steps true b s t xs h e = absurd (true≢false e)
until_drains_if steps false true s t xs h e = (h.0, h.1, λ _. h.2)
until_drains_if steps false false s t xs h e = (h.0, h.1, λ k. absurd (true≢false (sym k)))

module _ {S A U B : Type 0} (steps : S → Option A → S → Type 0) (source : U → Fuse S) (gives : U → List A → List B) where
  abbrev Behind : U → List B → Bool → Type 0
  Behind s ys whole = (xs : List A) × (b : Bool) × DrainsIf steps (b ≡ true) (fuse_source (source s)) xs × (whole ≡ true → b ≡ true) × (whole ≡ true → ys ≡ gives s xs)

  behind : (s : U) (ys : List B) (whole : Bool) → fuse_done (source s) ≡ false → DrainsIf (Adapts steps source gives) (whole ≡ true) s ys → Behind s ys whole
  behind s ys true fresh (t, calls, last) =
      let (u, step) = last refl in
      let (xs, (v, (w, path, end)), is) = walk steps source gives s ys fresh (u, (t, calls, step)) in
      (xs, true, (w, path, λ _. (v, end)), λ e. e, λ _. is)
  behind s ys false fresh (t, calls, last) =
      let b = explains steps source gives s ys t calls in (
        b.taken,
        fuse_done (source t),
        until_drains_if steps (fuse_done (source s)) (fuse_done (source t)) (fuse_source (source s)) (fuse_source (source t)) b.taken b.pulled fresh,
        λ e. absurd (true≢false (sym e)),
        λ e. absurd (true≢false (sym e)),
      )

  -- behind each run of an adaptor stands a run of its source
  pub runs : (s : U) (from : S) → fuse_source (source s) ≡ from → fuse_done (source s) ≡ false
      → EachRunFrom (Adapts steps source gives) s (λ p. SomeRun steps from (λ q. (p.whole ≡ true → q.whole ≡ true) × (p.whole ≡ true → p.items ≡ gives s q.items)))
  runs s from is fresh p _ at =
      let (xs, b, path, ends, gave) = behind s p.items p.whole fresh (subst (λ k. DrainsIf (Adapts steps source gives) (p.whole ≡ true) k p.items) at (took p)) in
      (run steps (fuse_source (source s)) xs b path, is, (ends, gave))

-- a whole walk, and each run, where what is given of a whole list of items has a property
module _ {S A U B : Type 0} (steps : S → Option A → S → Type 0) (source : U → Fuse S) (gives : U → List A → List B) (Holds : List A → List B → Type 0) where
  pub walk_holds : (s : U) (from : S) → fuse_source (source s) ≡ from → fuse_done (source s) ≡ false → ((xs : List A) → Holds xs (gives s xs))
      → EachWalkGives steps from (Adapts steps source gives) s Holds
  walk_holds s from is fresh holds ys d =
      let (xs, taken, gave) = walk steps source gives s ys fresh d in
      (xs, subst (λ k. Drains steps k xs) is taken, subst (Holds xs) (sym gave) (holds xs))

  pub runs_hold : (s : U) (from : S) → fuse_source (source s) ≡ from → fuse_done (source s) ≡ false → ((xs : List A) → Holds xs (gives s xs))
      → EachRunGives steps from (Adapts steps source gives) s Holds
  runs_hold s from is fresh holds p seen at =
      let (q, start, (ends, gave)) = runs steps source gives s from is fresh p seen at in
      (q, start, (ends, λ whole. subst (Holds q.items) (sym (gave whole)) (holds q.items)))
