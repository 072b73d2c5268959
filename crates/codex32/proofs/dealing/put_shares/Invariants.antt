use Rattle.std.proofs.Common.{◌≡◌, length, take}
use Rattle.codex32.specs.Share.{AreSharesOf}
use Rattle.codex32.specs.Split.{first_texts}
use Rattle.codex32.proofs.dealing.put_shares.Given as goal

-- the shares of the first texts are put
abbrev pub invariant-loop-j : goal.invariant-loop-j
invariant-loop-j l = record {
  size : length l.room ≡ length l.fn.room;
  so_far : AreSharesOf (first_texts l.n l.texts l.j) (take l.j l.room);
}
