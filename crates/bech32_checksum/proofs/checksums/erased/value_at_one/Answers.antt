use Rattle.std.proofs.Common.{◌≡◌, arith}
use Rattle.bech32_checksum.proofs.Erased.{one}
use Rattle.bech32_checksum.proofs.NoValues.{factor_at, none_at_one}
use Rattle.bech32_checksum.proofs.checksums.erased.value_at_one.Goals as goal

pub returns-then-multiple_of-residue : goal.returns-then-multiple_of-residue
returns-then-multiple_of-residue c =
    let pivot = rw c.in-Some.is at c.pivot_of.ensures in
    none_at_one c.args.residue c.args.row c.multiple_of.result pivot.0 c.factor_of-value.result c.requires pivot.1 pivot.3
    (factor_at c.args.residue _ pivot.0 c.factor_of-value.result _ _ pivot.2 pivot.4 c.factor_of-value.ensures)
    c.multiple_of.ensures (λ e. omega (arith, e, c.if-multiple_of-residue.true))

pub returns : goal.returns
returns c =
    let same : c.multiple_of.result ≡ c.args.residue = omega arith in
    one c.args.residue c.multiple_of.result c.args.row c.factor_of-value.result c.multiple_of.ensures same
