use Rattle.std.proofs.Common.{◌≡◌, ◌<◌, ℕ, sym, ap, ◌∙◌, arith}
use Rattle.bech32_gf.specs.laws.Ring.{zero_mul}
use Rattle.bech32_gf_ext.specs.Fe1024.{mul}
use Rattle.bech32_gf_ext.specs.declared.Fe32Ext.{Fe32Ext}
use Rattle.bech32_gf_ext.specs.laws.Fe1024Laws.{is_field}
use Rattle.bech32_checksum.specs.Syndromes.{pair_at}
use Rattle.bech32_checksum.proofs.Syndromes.{pair-zero, power-lt, power_of, sum-lt, times_power_of}
use Rattle.bech32_checksum.proofs.checksums.beside.times_power.Goals as goal

pub around-requires : goal.around-requires
around-requires c = sum-lt c.args.element c.args.exponent c.requires.element c.requires.exponent

pub returns-then-element-eq0-clause-product : goal.returns-then-element-eq0-clause-product
returns-then-element-eq0-clause-product c =
    let none : c.args.element ≡ 0 = omega arith in
    pair-zero ∙ sym (ap (λ (n : ℕ). mul (pair_at n 0) (power_of c.args.exponent)) none
    ∙ ap (λ (x : Fe32Ext 2). mul x (power_of c.args.exponent)) pair-zero ∙ zero_mul is_field (power_of c.args.exponent))

pub returns-clause-below : goal.returns-clause-below
returns-clause-below c =
    let small : c.around.result < 1023 = omega (arith, c.around.ensures) in
    (power-lt c.around.result small).1

pub returns-clause-product : goal.returns-clause-product
returns-clause-product c =
    let some : 0 < c.args.element = omega arith in
    times_power_of c.args.element c.args.exponent c.around.result some c.requires.element c.around.ensures
