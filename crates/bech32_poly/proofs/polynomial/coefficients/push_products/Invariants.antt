use Rattle.std.proofs.Common.{◌≡◌, ◌+◌, ◌<◌, ℕ, length}
use Rattle.bech32_poly.specs.Polynomial.{coefficient, multiply}
use Rattle.bech32_poly.proofs.polynomial.coefficients.push_products.Given as goal

abbrev pub invariant-loop : goal.invariant-loop
invariant-loop g l = record {
  longer : length l.list ≡ length l.fn.list + l.counter;
  begins : (n : ℕ) → n < length l.list → coefficient g.F.Arithmetic.ops l.list n ≡ coefficient g.F.Arithmetic.ops (multiply g.F.Arithmetic.ops l.p l.q) n;
}
