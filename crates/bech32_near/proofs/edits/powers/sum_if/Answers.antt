use Rattle.std.proofs.Common.{cond, replicate, ◌∙◌, subst, sym, ap, Bool}
use Rattle.bech32_gf.specs.Fe32 as fe32
use Rattle.bech32_near.specs.edits.Walks.{IsWordOf, times_power}
use Rattle.bech32_near.proofs.Sums.{add-raised, add-replicate}
use Rattle.bech32_near.proofs.edits.powers.sum_if.Goals as goal

pub returns-then-bit : goal.returns-then-bit
returns-then-bit g c n count x y a b =
    subst (IsWordOf g.Ck.MidstateRepr.PackedFe32.number g.Ck.Checksum.code c.sum_of.result)
    (add-raised n (replicate count x) (replicate count y) ∙ ap (times_power n) (add-replicate count x y)
    ∙ ap (λ (t : Bool). times_power n (replicate count (cond t (fe32.add x y) x))) (sym c.if-bit.true))
    (c.sum_of.ensures _ _ a b)
