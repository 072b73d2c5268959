-- Walks of an adaptor, and the walks of its source that stand behind them.
use Rattle.std.specs.Prelude.{◌≡◌, true, List, Option}
use Rattle.std.specs.Iterator.{Drains}
use Rattle.std.specs.Iterator.Runs.{SomeRun, EachRunFrom}

module _ {S A U B : Type 0} (steps : S → Option A → S → Type 0) (source : S)
    (adapted : U → Option B → U → Type 0) (adaptor : U) (Makes : List A → List B → Type 0) where
  -- each whole walk of the adaptor gives what `Makes` says of what some
  -- whole walk of its source gives
  abbrev pub EachWalkGives : Type 0
  EachWalkGives = (given : List B) → Drains adapted adaptor given
      → (taken : List A) × Drains steps source taken × Makes taken given

  -- the same, as chains of iterators follow it: behind each run of the adaptor stands a run of its
  -- source, a whole one behind a whole one
  abbrev pub EachRunGives : Type 0
  EachRunGives = EachRunFrom adapted adaptor (λ p. SomeRun steps source (λ q.
      (p.whole ≡ true → q.whole ≡ true) × (p.whole ≡ true → Makes q.items p.items)))
