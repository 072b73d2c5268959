-- What a call of an adaptor's `next` does, for an adaptor over a fused source.
use Rattle.std.specs.Prelude.{◌≡◌, Bool, true, false, List, [], ◌∷◌, ◌++◌}
use Rattle.std.specs.Prelude.{length, Option, Some, None, MatchBool, IfNone}
use Rattle.std.specs.Iterator.{Yields, Drains, Count, size, count_unless}
use Rattle.std.specs.Iterator.Adapters.{fuse_source, fuse_done}
use Rattle.std.specs.declared.iter.Fuse.{Fuse}

-- a fused source may be called: it has ended, or the iterator inside may be called
abbrev pub fuse_can : {S : Type 0} → (S → Type 0) → Fuse S → Type 0
fuse_can can s = fuse_done s ≡ false → can (fuse_source s)

-- how many items a fused source has left at most
abbrev pub fuse_left : {S : Type 0} → (S → Count) → Fuse S → Count
fuse_left left s = count_unless (fuse_done s) (left (fuse_source s))

-- calls led from s to t and gave xs; `was` and `ended` say whether `None` had come before them and
-- has come after them, and once it has come there is no call
abbrev pub PullsUntilEnd : {S A : Type 0} → (S → Option A → S → Type 0) → Bool → S → List A → Bool
    → S → Type 0
PullsUntilEnd steps true s xs ended t = (xs ≡ []) × (ended ≡ true)
PullsUntilEnd {S} steps false s xs ended t =
    (u : S) × Yields steps s xs u × MatchBool ended ((w : S) × steps u None w) (u ≡ t)

-- r, and then ys
abbrev pub then_gives : {B : Type 0} → Option B → List B → List B
then_gives None ys = []
then_gives (Some y) ys = y ∷ ys

-- One call of an adaptor's `next`, from s to t, that returns r: what it took of its source, and
-- what that has to do with r. If it returns `None`, its source has ended and nothing is left of it,
-- so that each later call returns `None`, and the source is not asked. `gives s xs` is the list
-- that the adaptor gives from s on, where its source goes on to give xs.
pub record Adapts {S A U B : Type 0} (steps : S → Option A → S → Type 0)
    (source : U → Fuse S) (gives : U → List A → List B)
    (s : U) (r : Option B) (t : U) : Type 0 where
  pub taken : List A
  pub pulled : PullsUntilEnd steps (fuse_done (source s)) (fuse_source (source s)) taken
      (fuse_done (source t)) (fuse_source (source t))
  pub ended : IfNone r (fuse_done (source t) ≡ true)
  pub nothing_left : IfNone r (gives t [] ≡ [])
  pub gave : (rest : List A) → (fuse_done (source t) ≡ true → rest ≡ [])
      → gives s (taken ++ rest) ≡ then_gives r (gives t rest)

-- each whole walk from s gives as many items as are said to be left
abbrev pub IsExact : {S A : Type 0} → (S → Option A → S → Type 0) → (S → Count) → S → Type 0
IsExact {A = A} steps left s = (xs : List A) → Drains steps s xs → length xs ≡ size (left s)

-- the same of a fused source
abbrev pub IsExactFused : {S A : Type 0} → (S → Option A → S → Type 0) → (S → Count) → Fuse S
    → Type 0
IsExactFused steps left s = fuse_done s ≡ false → IsExact steps left (fuse_source s)
