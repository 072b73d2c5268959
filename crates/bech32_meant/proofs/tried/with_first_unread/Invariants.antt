use Rattle.std.proofs.Common.{◌≡◌, ◌++◌, drop, take}
use Rattle.bech32_meant.specs.Added.{with_first_read}
use Rattle.bech32_meant.proofs.tried.with_first_unread.Given as goal

abbrev pub invariant-loop-i : goal.invariant-loop-i
invariant-loop-i l = take l.i l.frame ++ with_first_read (drop l.i l.frame) l.c ≡ with_first_read l.frame l.c
