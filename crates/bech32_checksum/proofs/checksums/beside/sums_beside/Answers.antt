use Rattle.std.proofs.Common.{◌<◌, ◌/◌, ◌%◌, ℕ, ap, ◌∙◌, arith}
use Rattle.std.proofs.lemmas.Nat.{xor_lt}
use Rattle.bech32_gf_ext.specs.Fe1024.{add, mul}
use Rattle.bech32_gf_ext.specs.declared.Fe32Ext.{Fe32Ext}
use Rattle.bech32_checksum.specs.Syndromes.{pair_at, syndrome}
use Rattle.bech32_checksum.proofs.Syndromes.{first_of_three, pair-xor, power_of, second_of_three, third_of_three}
use Rattle.bech32_checksum.proofs.checksums.beside.sums_beside.Goals as goal

pub returns-clause-below : goal.returns-clause-below
returns-clause-below c =
    let n : ℕ = c.syndromes_of-all.result in
    let second : n / 1024 % 1024 < 1024 = omega arith in
    let third : n / 1048576 % 1024 < 1024 = omega arith in (
      xor_lt 10 (n / 1024 % 1024) c.times_power.result second c.times_power.ensures.below,
      xor_lt 10 (n / 1048576 % 1024) c.times_power-2.result third c.times_power-2.ensures.below,
    )

pub returns-clause-lower : goal.returns-clause-lower
returns-clause-lower c =
    let l = c.args.residue.now in
    let n : ℕ = c.syndromes_of-all.result in
    pair-xor (n / 1024 % 1024) c.times_power.result 0
    ∙ ap (λ (x : Fe32Ext 2). add x (pair_at c.times_power.result 0)) (second_of_three n ∙ c.syndromes_of-all.ensures 1 (omega arith))
    ∙ ap (add (syndrome l 1)) (c.times_power.ensures.product
    ∙ ap (λ (x : Fe32Ext 2). mul x (power_of c.args.location)) (first_of_three n ∙ c.syndromes_of-all.ensures 0 (omega arith)))

pub returns-clause-upper : goal.returns-clause-upper
returns-clause-upper c =
    let l = c.args.residue.now in
    let n : ℕ = c.syndromes_of-all.result in
    pair-xor (n / 1048576 % 1024) c.times_power-2.result 0
    ∙ ap (λ (x : Fe32Ext 2). add x (pair_at c.times_power-2.result 0)) (third_of_three n ∙ c.syndromes_of-all.ensures 2 (omega arith))
    ∙ ap (add (syndrome l 2)) (c.times_power-2.ensures.product
    ∙ ap (λ (x : Fe32Ext 2). mul x (power_of c.args.location)) (second_of_three n ∙ c.syndromes_of-all.ensures 1 (omega arith)))
