use Rattle.std.proofs.Common.{◌≡◌, ◌++◌, take, drop}
use Rattle.bech32_gf.specs.Fe32 as fe32
use Rattle.bech32_poly.specs.Division.{step, top}
use Rattle.codex32_small.specs.Code.{code_of_kind}
use Rattle.codex32_small.proofs.register.take_in.Given as goal

-- the first places are written
abbrev pub invariant-loop-i : goal.invariant-loop-i
invariant-loop-i l = record {
  moved : l.rest ≡ take l.i (step fe32.ops (code_of_kind l.kind).generator l.fn.rest l.fn.next) ++ drop l.i l.fn.rest;
  out : l.coming ≡ top l.fn.next (take l.i l.fn.rest);
}
