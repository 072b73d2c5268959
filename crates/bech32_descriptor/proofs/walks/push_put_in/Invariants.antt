use Rattle.std.proofs.Common.{◌≡◌, ◌≤◌, ◌++◌, ◌∷◌, ℕ, length, take, drop}
use Rattle.bech32_descriptor.specs.Edits.{IsMendBefore}
use Rattle.bech32_descriptor.specs.Walks.{IsMendOfKind, IsReady}
use Rattle.bech32_descriptor.proofs.Listings.{HasFound}
use Rattle.bech32_descriptor.proofs.walks.push_put_in.Given as goal

abbrev pub invariant-loop-place : goal.invariant-loop-place
invariant-loop-place g l =
    let text = drop 1 l.fn.new in
    record {
      ready : IsReady l.rows l.new l.word;
      new : l.place ≤ length text → (b : ℕ) × (l.new ≡ take l.place text ++ b ∷ drop l.place text);
      kept : HasFound IsMendBefore (IsMendOfKind 3 text) (λ e. e.place) l.place l.initial.found.items l.found.items;
    }
