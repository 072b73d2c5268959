use Rattle.std.proofs.Common.{◌<◌, ◌+◌, ◌*◌, ℕ, get_or, ap, subst, sym, ◌∙◌}
use Rattle.bech32_gf.specs.Fe32 as fe32
use Rattle.bech32_checksum.specs.declared.checksums.ones.TheConstants.{PRODUCTS_OF_TWO}
use Rattle.bech32_checksum.proofs.OneError.{product_entry}
use Rattle.bech32_checksum.proofs.checksums.ones.product_value.Goals as goal

pub returns-clause-value : goal.returns-clause-value
returns-clause-value c =
    ap (λ (v : ℕ). get_or PRODUCTS_OF_TWO (32 * v + c.to_u8-2.result) 0) c.to_u8.ensures
    ∙ ap (λ (v : ℕ). get_or PRODUCTS_OF_TWO (32 * c.args.a.value + v) 0) c.to_u8-2.ensures
    ∙ product_entry c.args.a.value c.args.b.value c.args.a.in_field c.args.b.in_field

pub returns-clause-below : goal.returns-clause-below
returns-clause-below c =
    subst (λ (v : ℕ). v < 32) (sym (returns-clause-value c)) (fe32.mul c.args.a c.args.b).in_field
