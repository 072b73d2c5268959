use Rattle.std.proofs.Common.{◌∙◌, ap}
use Rattle.bech32_gf.specs.declared.gf32.Fe32.{Fe32}
use Rattle.bech32_gf.specs.Fe32.{inv, path}
use Rattle.bech32_gf.specs.laws.Fe32Laws.{is_field}
use Rattle.bech32_gf.specs.laws.FieldLaws.{one_mul}
use Rattle.bech32_gf.proofs.gf32.fields.Fe32Field.multiplicative_inverse.Goals as goal

pub returns : goal.returns
returns c =
    let inverse = inv c.args.self in
    c.div.ensures ∙ path _ inverse (ap (λ (x : Fe32). x.value) (one_mul is_field inverse))
