use Rattle.std.proofs.Common.{◌≡◌, length}
use Rattle.bech32_descriptor.specs.PairWalks.{MarksChangesBelow}
use Rattle.bech32_descriptor.specs.Pairs.{IsMendByTwo, IsTwoBefore}
use Rattle.bech32_descriptor.proofs.Listings.{HasFound}
use Rattle.bech32_descriptor.proofs.pairs.push_two.Given as goal

abbrev pub invariant-loop-place : goal.invariant-loop-place
invariant-loop-place g l = record {
  same : l.text ≡ l.fn.text;
  size : length l.cells ≡ length l.fn.cells;
  marks : MarksChangesBelow l.cells l.rows (length l.fn.text) l.place;
  kept : HasFound IsTwoBefore (IsMendByTwo l.fn.text) (λ e. e.second.place) l.place l.initial.found.items l.found.items;
}
