use Rattle.std.proofs.Common.{refl, ap, ◌∙◌, arith}
use Rattle.bech32_gf.specs.Fe32 as fe32
use Rattle.bech32_checksum.proofs.OneError.{not_zero_by_eq}
use Rattle.bech32_checksum.proofs.checksums.erased.pivot_of.Goals as goal

pub returns : goal.returns
returns c = (
  _,
  omega (arith, c.if-place-ge6.false),
  refl,
  λ z. not_zero_by_eq c.coefficient_at-lowest.result c.eq.result c.eq.ensures c.if-eq.false (c.coefficient_at-lowest.ensures ∙ z),
  c.inverse_of.ensures ∙ ap fe32.inv c.coefficient_at-lowest.ensures,
)
