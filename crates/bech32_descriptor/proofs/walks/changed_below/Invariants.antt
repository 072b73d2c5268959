use Rattle.std.proofs.Common.{◌≡◌, []}
use Rattle.bech32_descriptor.specs.Edits.{IsMendBefore}
use Rattle.bech32_descriptor.specs.Walks.{IsMendOfKind}
use Rattle.bech32_descriptor.proofs.Listings.{HasFound}
use Rattle.bech32_descriptor.proofs.walks.changed_below.Given as goal

abbrev pub invariant-loop-place : goal.invariant-loop-place
invariant-loop-place g l = record {
  same : l.text ≡ l.fn.text;
  kept : HasFound IsMendBefore (IsMendOfKind 0 l.fn.text) (λ e. e.place) l.place [] l.found.items;
}
