use Rattle.std.proofs.Common.{◌≡◌, ◌<◌, ◌+◌, ◌++◌, length, take, drop}
use Rattle.bech32_descriptor.specs.Edits.{IsMendBefore}
use Rattle.bech32_descriptor.specs.Walks.{IsMendOfKind, IsReady}
use Rattle.bech32_descriptor.proofs.Listings.{HasFound}
use Rattle.bech32_descriptor.proofs.walks.push_left_out.Given as goal

abbrev pub invariant-loop-place : goal.invariant-loop-place
invariant-loop-place g l = record {
  ready : IsReady l.rows l.rest l.word;
  rest : l.place < length l.text → l.rest ≡ take l.place l.text ++ drop (l.place + 1) l.text;
  kept : HasFound IsMendBefore (IsMendOfKind 2 l.text) (λ e. e.place) l.place l.initial.found.items l.found.items;
}
