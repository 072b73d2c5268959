use Rattle.std.proofs.Common.{◌≡◌, length, take, drop}
use Rattle.std.specs.List.{sum}
use Rattle.codex32.specs.Share.{AreSharesOf}
use Rattle.codex32_calls.specs.Derive.{texts_of}
use Rattle.codex32_small.specs.Parts.{shares_of}
use Rattle.codex32_small.proofs.derive.put_parts.Given as goal

-- the parts of the first texts are put, and the others are left
abbrev pub invariant-loop-i : goal.invariant-loop-i
invariant-loop-i l = record {
  size : length l.room ≡ length l.fn.room;
  whole : sum (drop l.i l.lengths) ≡ length l.rest;
  left : drop l.i (texts_of l.texts l.lengths) ≡ texts_of l.rest (drop l.i l.lengths);
  so_far : AreSharesOf (take l.i (texts_of l.texts l.lengths)) (shares_of (take l.i l.room));
}
