use Rattle.std.proofs.Common.{rules, ◌≡◌, ◌<◌, length, subst, arith}
use Rattle.bech32_refusals.proofs.Shown.{IsCut, first_cut, zero_cut, other_cut, cut_shown}
use Rattle.bech32_refusals.proofs.residue.Residue.shown.Goals as goal
use Rattle.bech32_refusals.proofs.residue.Residue.shown.Goals.{then-eq, else-eq}

pub loop-i-init : goal.loop-i-init
loop-i-init c = first_cut c.args.self.now.digits (omega (arith, c.args.self.now.full))

pub loop-i-preserved : goal.loop-i-preserved
loop-i-preserved c =
    let p = c.args.self.now.digits in
    let x = c.index-self-i.result in
    let within : c.loop-i.i < length p = omega (arith, c.args.self.now.full) in
    elim c.if-eq.branch [
      | then-eq w ↦ zero_cut p x c.loop-i.i c.loop-i.shown _ c.loop-i.invariant within c.index-self-i.is (search rules) w.shown-is
      | else-eq w ↦ other_cut p x c.loop-i.i _ within c.index-self-i.is (search rules) w.shown-is
    ]

pub returns : goal.returns
returns c =
    let p = c.args.self.now.digits in
    let all : c.loop-i.i ≡ length p = omega (arith, c.args.self.now.full) in
    let h = subst (λ i. IsCut p i c.loop-i.shown) all c.loop-i.invariant in
    cut_shown p c.loop-i.shown h.some h.within h.above h.leads
