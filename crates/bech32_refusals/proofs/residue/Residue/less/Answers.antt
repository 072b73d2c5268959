use Rattle.std.proofs.Common.{◌≡◌, ◌+◌, suc, length, get_or, slice_set, sym, ◌∙◌, ap, arith}
use Rattle.bech32_gf.specs.Fe32 as fe32
use Rattle.bech32_refusals.proofs.Sums.{partly, length-partly, partly-here, partly-set, partly-all}
use Rattle.bech32_refusals.proofs.residue.Residue.less.Goals as goal

pub listed : goal.listed
listed c = omega (arith, ap (λ u. length u) c.loop-i.invariant, length-partly c.loop-i.i c.args.self.now.digits c.args.other.now.digits, c.args.self.now.full)

pub loop-i-preserved : goal.loop-i-preserved
loop-i-preserved c =
    let a = c.args.self.now.digits in
    let b = c.args.other.now.digits in
    let i = c.loop-i.i in
    let x = c.index-digits-i.result in
    let next : suc i ≡ i + 1 = omega arith in
    let here : get_or c.loop-i.digits i x ≡ get_or a i x = ap (λ u. get_or u i x) c.loop-i.invariant ∙ partly-here i a b x in
    ap (λ u. slice_set u i c.add.result) c.loop-i.invariant
    ∙ ap (slice_set (partly i a b) i) (c.add.ensures ∙ ap (λ y. fe32.add y (get_or b i c.index-other-i.result)) here)
    ∙ partly-set i a b x c.index-other-i.result (omega (arith, c.args.self.now.full)) (omega (arith, c.args.other.now.full))
    ∙ ap (λ n. partly n a b) next

pub returns : goal.returns
returns c =
    let all : c.loop-i.i ≡ length c.args.self.now.digits = omega (arith, c.args.self.now.full) in
    c.loop-i.invariant
    ∙ ap (λ n. partly n c.args.self.now.digits c.args.other.now.digits) all
    ∙ partly-all c.args.self.now.digits c.args.other.now.digits (c.args.other.now.full ∙ sym c.args.self.now.full)
