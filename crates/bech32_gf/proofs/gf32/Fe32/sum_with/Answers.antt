use Rattle.std.proofs.lemmas.Nat.{xor_lt}
use Rattle.bech32_gf.proofs.gf32.Fe32.sum_with.Goals as goal

pub invariant_of-result : goal.invariant_of-result
invariant_of-result c =
    record { in_field = xor_lt 5 c.args.self.value c.args.other.value c.args.self.in_field c.args.other.in_field }
