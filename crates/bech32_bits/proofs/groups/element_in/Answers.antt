use Rattle.std.proofs.Common.{◌∙◌, ◌/◌, ◌^◌, arith}
use Rattle.std.proofs.lemmas.Nat.{and_mask}
use Rattle.bech32_bits.proofs.BitLists.{element-path}
use Rattle.bech32_bits.proofs.groups.element_in.Goals as goal

pub returns : goal.returns
returns c =
    let mask = and_mask (c.args.word / 2 ^ c.args.below) 5 in
    c.from_low_bits.ensures ∙ element-path _ _ (omega (arith, mask))
