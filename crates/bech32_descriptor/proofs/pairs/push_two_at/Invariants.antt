use Rattle.std.proofs.Common.{◌≡◌}
use Rattle.bech32_descriptor.specs.Edits.{byte_put}
use Rattle.bech32_descriptor.specs.PairWalks.{IsTwoAt}
use Rattle.bech32_descriptor.specs.Pairs.{IsTwoBefore}
use Rattle.bech32_descriptor.proofs.Listings.{HasFound}
use Rattle.bech32_descriptor.proofs.pairs.push_two_at.Given as goal

abbrev pub invariant-loop-byte : goal.invariant-loop-byte
invariant-loop-byte g l = record {
  same : l.text ≡ l.fn.text;
  kept : HasFound IsTwoBefore (IsTwoAt l.fn.text l.place) (λ e. byte_put e.second.change) l.byte l.initial.found.items l.found.items;
}
