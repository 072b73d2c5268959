use Rattle.std.proofs.Common.{arith}
use Rattle.bech32_correction.proofs.corrector.Corrector.singleton_bound.Goals as goal

pub returns-clause-few : goal.returns-clause-few
returns-clause-few g c = omega (arith, c.bound.ensures, g.met.Ck.Checksum.bound_law, (g.met.Ck.Checksum.lawful_law.0 c.self.invariant.3.0 c.self.invariant.3.1).few)
