use Rattle.std.proofs.Common.{ℕ}
use Rattle.bech32_gf.specs.Fe32 as fe32
use Rattle.bech32_poly.specs.Pattern.{monomial}
use Rattle.bech32_checksum.specs.Code.{IsResidueOf, bech32m}
use Rattle.bech32_small.proofs.rows.power_of_x.Given as goal

abbrev pub invariant-loop-more : goal.invariant-loop-more
invariant-loop-more l = IsResidueOf (λ (n : ℕ). n) bech32m l.power (monomial fe32.ops l.more fe32.one)
