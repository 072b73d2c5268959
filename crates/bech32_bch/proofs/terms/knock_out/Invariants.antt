use Rattle.std.proofs.Common.{◌≡◌, ℕ, ◌≤◌, ◌<◌, suc, length}
use Rattle.bech32_poly.specs.Polynomial.{coefficient}
use Rattle.bech32_bch.specs.Knock.{knock}
use Rattle.bech32_bch.proofs.terms.knock_out.Given as goal

abbrev pub invariant-loop-i : goal.invariant-loop-i
invariant-loop-i g l = record {
  size : length l.items ≡ length l.fn.items;
  done : (t : ℕ) → suc t < l.i → coefficient g.K.Arithmetic.ops l.items t ≡ knock g.K.Arithmetic.ops l.y (coefficient g.K.Arithmetic.ops l.fn.items) t;
  left : (t : ℕ) → l.i ≤ suc t → coefficient g.K.Arithmetic.ops l.items t ≡ coefficient g.K.Arithmetic.ops l.fn.items t;
}
