use Rattle.std.proofs.Common.{◌≡◌}
use Rattle.bech32_descriptor.specs.Edits.{IsMendBefore, byte_put}
use Rattle.bech32_descriptor.specs.Walks.{IsPutAt}
use Rattle.bech32_descriptor.proofs.Listings.{HasFound}
use Rattle.bech32_descriptor.proofs.walks.push_put_at.Given as goal

abbrev pub invariant-loop-byte : goal.invariant-loop-byte
invariant-loop-byte g l = record {
  same : l.text ≡ l.fn.text;
  listed : HasFound IsMendBefore (IsPutAt l.put.put_in l.put.kept l.put.place l.fn.text) (λ e. byte_put e.change) l.byte l.initial.found.items l.found.items;
}
