use Rattle.std.proofs.Common.{◌≡◌, ◌-◌, ◌*◌, ◌++◌, codes, length}
use Rattle.c32_replies.specs.Split.{spaced_shares}
use Rattle.c32_replies.proofs.split.reply_of.Given as goal

-- what is said, with what is left to say
abbrev pub invariant-loop : goal.invariant-loop
invariant-loop g l = record {
  size : length l.rest ≡ (l.count - l.counter) * l.size;
  told : l.said.items ++ spaced_shares l.size l.rest (l.count - l.counter) ≡ codes "ok" ++ spaced_shares l.size l.texts l.count;
}
