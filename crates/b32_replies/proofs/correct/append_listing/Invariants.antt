use Rattle.std.proofs.Common.{◌≡◌, ◌+◌, ◌*◌, ◌≤◌, ◌++◌, take, vec_len, vec_capacity}
use Rattle.b32_replies.specs.Reply.{listed}
use Rattle.b32_replies.proofs.correct.append_listing.Given as goal

abbrev pub invariant-loop-item : goal.invariant-loop-item
invariant-loop-item l = record {
  items : l.out.items ≡ l.initial.out.items ++ listed (take l.item-index l.listing);
  size : vec_len l.out ≤ vec_len l.initial.out + 7 * l.item-index;
  capacity : vec_capacity l.initial.out ≤ vec_capacity l.out;
}
