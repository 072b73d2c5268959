-- Adaptors over a source that goes through a list: what is to come of them, and what they have given so far.
use Rattle.std.proofs.Common.{◌≡◌, Bool, true, false, cond, List, [], ◌∷◌, ◌++◌, length, Option, Some, None, sym, ap, ◌∙◌, refl, true≢false, append-nil}
use Rattle.std.specs.Iterator.{Yields, Drains}
use Rattle.std.specs.Iterator.Adapters.{fuse_source, fuse_done, copied_source, copied_steps}
use Rattle.std.specs.Slice.Iter.{iter_rest, iter_steps}
use Rattle.std.specs.declared.iter.Fuse.{Fuse}
use Rattle.std.specs.declared.iter.Copied.{Copied}
use Rattle.std.specs.declared.slice.Iter.{Iter}
use Rattle.bech32_bits.specs.Adaptor.{PullsUntilEnd, then_gives, Adapts}

-- each call gives the first of what is left, or `None` where nothing is
abbrev pub ShowsRest : {S A : Type 0} → (S → Option A → S → Type 0) → (S → List A) → Type 0
ShowsRest {S} {A} steps rest = (s : S) (r : Option A) (t : S) → steps s r t → rest s ≡ then_gives r (rest t)

-- what a slice's copied iterator has left
abbrev pub copied_rest : {A : Type 0} → Copied (Iter A) → List A
copied_rest s = iter_rest (copied_source s)

nothing : {A : Type 0} (xs : List A) → length xs ≡ 0 → xs ≡ []
nothing [] e = refl
nothing (x ∷ xs) e = absurd (cc)

pub ShowsRest-copied : {A : Type 0} → ShowsRest (copied_steps (iter_steps {A = A})) copied_rest
ShowsRest-copied s r t (None, step, is) = nothing _ step.0 ∙ ap (λ o. then_gives o (copied_rest t)) (sym is)
ShowsRest-copied s r t (Some x, step, is) = step ∙ ap (λ o. then_gives o (copied_rest t)) (sym is)

module _ {S A : Type 0} (steps : S → Option A → S → Type 0) (rest : S → List A) (shows : ShowsRest steps rest) where
  yields-rest : (s : S) (xs : List A) (t : S) → Yields steps s xs t → rest s ≡ xs ++ rest t
  yields-rest s [] t e = ap rest e
  yields-rest s (x ∷ xs) t e = shows s (Some x) e.0 e.1 ∙ ap (λ l. x ∷ l) (yields-rest e.0 xs t e.2)

  -- a whole walk gives what is left
  pub drains-rest : (s : S) (xs : List A) → Drains steps s xs → rest s ≡ xs
  drains-rest s xs (u, (t, path, last)) =
      yields-rest s xs t path ∙ ap (λ l. xs ++ l) (shows t None u last) ∙ append-nil xs

  pulled-rest : (a b : Bool) (s t : S) (xs : List A) → PullsUntilEnd steps a s xs b t → cond a [] (rest s) ≡ xs ++ cond b [] (rest t)
  pulled-rest true true s t xs h = sym (append-nil xs ∙ h.0)
  pulled-rest true false s t xs h = absurd (true≢false (sym h.1))
  pulled-rest false true s t xs h = yields-rest s xs h.0 h.1 ∙ ap (λ l. xs ++ l) (shows h.0 None h.2.0 h.2.1)
  pulled-rest false false s t xs h = yields-rest s xs h.0 h.1 ∙ ap (λ u. xs ++ rest u) h.2

  module _ {U B : Type 0} (source : U → Fuse S) (gives : U → List A → List B) where
    -- what an adaptor has yet to give
    abbrev pub to_come : U → List B
    to_come s = gives s (cond (fuse_done (source s)) [] (rest (fuse_source (source s))))

    ended : (b : Bool) (xs : List A) → b ≡ true → cond b [] xs ≡ []
    ended true xs e = refl
    ended false xs e = absurd (true≢false (sym e))

    -- it gives the first of it
    pub to_come-step : (s : U) (r : Option B) (t : U) → Adapts steps source gives s r t → to_come s ≡ then_gives r (to_come t)
    to_come-step s r t a =
        ap (gives s) (pulled-rest (fuse_done (source s)) (fuse_done (source t)) (fuse_source (source s)) (fuse_source (source t)) a.taken a.pulled)
        ∙ a.gave _ (ended (fuse_done (source t)) (rest (fuse_source (source t))))

    -- and has given what came before the others
    pub to_come-yields : (s : U) (ys : List B) (t : U) → Yields (Adapts steps source gives) s ys t → to_come s ≡ ys ++ to_come t
    to_come-yields s [] t e = ap to_come e
    to_come-yields s (y ∷ ys) t e = to_come-step s (Some y) e.0 e.1 ∙ ap (λ l. y ∷ l) (to_come-yields e.0 ys t e.2)

module _ {A U B : Type 0} (source : U → Fuse (Copied (Iter A))) (gives : U → List A → List B) where
  abbrev pub slice_to_come : U → List B
  slice_to_come = to_come (copied_steps (iter_steps {A = A})) copied_rest ShowsRest-copied source gives

  -- of a fresh adaptor over the elements of a slice: what it makes of them all is what it has given and what is to come
  pub from_slice : (whole : List A → List B) (items : List A) (made s t : U) (iter : Iter A) (copied : Copied (Iter A)) (ys : List B)
      → iter_rest iter ≡ items → copied_source copied ≡ iter → fuse_source (source made) ≡ copied → fuse_done (source made) ≡ false → ((xs : List A) → gives made xs ≡ whole xs) → s ≡ made
      → Yields (Adapts (copied_steps (iter_steps {A = A})) source gives) s ys t
      → whole items ≡ ys ++ slice_to_come t
  from_slice whole items made s t iter copied ys elements over inside fresh all same calls =
      let left : copied_rest (fuse_source (source made)) ≡ items = ap copied_rest inside ∙ ap iter_rest over ∙ elements in
      let start : items ≡ cond (fuse_done (source made)) [] (copied_rest (fuse_source (source made))) =
      sym (ap (λ (b : Bool). cond b [] (copied_rest (fuse_source (source made)))) fresh ∙ left) in
      sym (all items) ∙ ap (gives made) start ∙ sym (ap slice_to_come same) ∙ to_come-yields (copied_steps iter_steps) copied_rest ShowsRest-copied source gives s ys t calls
