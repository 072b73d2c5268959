use Rattle.std.proofs.Common.{◌≡◌, ◌≢◌, ℕ, true, false, get_or, take}
use Rattle.bech32_gf.specs.Fe32.{zero}
use Rattle.codex32_small.specs.Code.{code_of_kind}
use Rattle.codex32_small.proofs.register.are_target.Given as goal

-- the first ones are the same, or one of them is not
abbrev pub invariant-loop-i : goal.invariant-loop-i
invariant-loop-i l = record {
  alike : l.same ≡ true → take l.i l.rest ≡ take l.i (code_of_kind l.kind).target;
  apart : l.same ≡ false → (m : ℕ) × (get_or l.rest m zero ≢ get_or (code_of_kind l.kind).target m zero);
}
