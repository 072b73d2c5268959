use Rattle.std.proofs.Common.{◌∙◌, ap}
use Rattle.std.specs.Prelude.{nat_lt}
use Rattle.std.specs.List.{list_all}
use Rattle.bech32_bits.proofs.BitLists.{AreBits-fe_bits, list_all-from_AreBits}
use Rattle.bech32_bits.proofs.plain.plain_to_bytes.Goals as goal

pub eights-requires : goal.eights-requires
eights-requires c =
    ap (list_all (λ b. nat_lt b 2)) (c.deref.ensures.value ∙ c.in_ok-all.ensures) ∙ list_all-from_AreBits _ (AreBits-fe_bits c.args.fes.now)
