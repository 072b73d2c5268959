use Rattle.std.proofs.Common.{◌≡◌, ◌*◌, ◌/◌, ◌^◌, arith}
use Rattle.std.proofs.lemmas.Nat.{and_mask}
use Rattle.bech32_checksum.proofs.packed.integers.U32PackedFe32.unpack.Goals as goal

pub returns-clause-value : goal.returns-clause-value
returns-clause-value c =
    let place : c.args.n * 5 ≡ 5 * c.args.n = omega arith in
    rw place (and_mask (c.args.self.now / 2 ^ (5 * c.args.n)) 5)
