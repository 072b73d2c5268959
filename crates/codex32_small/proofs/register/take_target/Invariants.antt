use Rattle.std.proofs.Common.{◌≡◌, List, length, reverse, take}
use Rattle.bech32_gf.specs.Fe32 as fe32
use Rattle.bech32_gf.specs.declared.gf32.Fe32.{Fe32}
use Rattle.bech32_poly.specs.Division.{remainder_of}
use Rattle.bech32_poly.specs.Polynomial.{appended}
use Rattle.codex32_small.specs.Code.{code_of_kind}
use Rattle.codex32_small.proofs.register.take_target.Given as goal

-- the first ones were taken
abbrev pub invariant-loop-i : goal.invariant-loop-i
invariant-loop-i l = record {
  size : length l.rest ≡ length l.fn.rest;
  so_far : (p : List Fe32) → l.fn.rest ≡ remainder_of fe32.ops (code_of_kind l.kind).generator p
      → l.rest ≡ remainder_of fe32.ops (code_of_kind l.kind).generator (appended p (take l.i (reverse (code_of_kind l.kind).target)));
}
