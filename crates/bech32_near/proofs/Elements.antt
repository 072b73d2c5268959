-- The values of elements.
use Rattle.std.proofs.Common.{◌≢◌, ◌<◌, arith}
use Rattle.bech32_gf.specs.Fe32 as fe32
use Rattle.bech32_gf.specs.declared.gf32.Fe32.{Fe32}

-- they are below 32, and that of zero is the lowest
pub value_below : (x : Fe32) → fe32.value x < 32
value_below x = x.in_field

pub lowest : (x : Fe32) → x ≢ fe32.zero → fe32.value fe32.zero < fe32.value x
lowest x n =
    let some : x.value ≢ 0 = λ e. n (fe32.path x fe32.zero e) in
    omega arith
