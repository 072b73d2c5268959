use Rattle.std.proofs.Common.{◌≡◌, length, take}
use Rattle.codex32_small.proofs.Checksums.{started}
use Rattle.codex32_small.proofs.register.put_start.Given as goal

-- the first ones are written
abbrev pub invariant-loop-i : goal.invariant-loop-i
invariant-loop-i l = record {
  size : length l.rest ≡ length l.fn.rest;
  so_far : take l.i l.rest ≡ take l.i started;
}
