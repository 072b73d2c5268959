-- How few texts are tried for one that is not too long.
use Rattle.std.proofs.Common.{◌≤◌, ◌-◌, ◌*◌, ℕ, arith}
use Rattle.std.proofs.Math.Nat.{mul-le-mul}
use Rattle.bech32_descriptor.specs.Pairs.{IsRarelyWrong, max_length_for_two, tried_by_two}

pub rarely_wrong : (n : ℕ) → n ≤ max_length_for_two → IsRarelyWrong (tried_by_two n)
rarely_wrong n short =
    let first : n - 9 ≤ 1391 = omega (arith, short) in
    let second : n - 10 ≤ 1390 = omega (arith, short) in
    let product : (n - 9) * (n - 10) ≤ 1391 * 1390 = mul-le-mul first second in
    omega (arith, first, product)
