-- What a watched device took, the device took.
use Rattle.std.proofs.Common.{ℕ, List, [], ◌∷◌, ap}
use Rattle.std.specs.List.{FoldsTo}
use Rattle.std.specs.Fmt.{WritesInCalls}

module _ {S W : Type 0} (took : W → List ℕ → W → Type 0) (writer : S → W) where
  calls_through : (s : S) (pieces : List (List ℕ)) (t : S) → FoldsTo (λ a x b. took (writer a) x (writer b)) s pieces t → FoldsTo took (writer s) pieces (writer t)
  calls_through s [] t p = ap writer p
  calls_through s (x ∷ pieces) t p = (writer p.0, p.1, calls_through p.0 pieces t p.2)

  -- a text
  pub writes_through : (s t : S) (text : List ℕ) → WritesInCalls (λ a x b. took (writer a) x (writer b)) s text t → WritesInCalls took (writer s) text (writer t)
  writes_through s t text went = record { parts = went.parts; calls = calls_through s went.parts t went.calls; whole = went.whole }
