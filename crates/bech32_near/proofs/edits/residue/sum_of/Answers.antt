use Rattle.bech32_near.proofs.Words.{word_sum}
use Rattle.bech32_near.proofs.edits.residue.sum_of.Goals as goal

pub returns : goal.returns
returns g c p q a b =
    let words = g.met.Ck.MidstateRepr.PackedFe32 in
    word_sum g.Ck.MidstateRepr.PackedFe32.number g.Ck.Checksum.code c.args.x c.args.y c.bitxor.result p q (words.sum_law _ _ _ c.bitxor.ensures) (words.bitxor_law _ _ _ c.bitxor.ensures) a b
