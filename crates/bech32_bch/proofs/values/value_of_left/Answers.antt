use Rattle.std.proofs.Common.{◌≡◌, sym, ap, ◌∙◌}
use Rattle.bech32_gf.specs.Field.{power}
use Rattle.bech32_poly.specs.Polynomial.{coefficient}
use Rattle.bech32_bch.specs.Knock.{gap}
use Rattle.bech32_bch.proofs.Loops.{divided, get_any}
use Rattle.bech32_bch.proofs.values.value_of_left.Goals as goal

pub returns-then-is_zero : goal.returns-then-is_zero
returns-then-is_zero g c = λ v h.
    let o = g.E.Arithmetic.ops in
    let known : c.times-known.result ≡ o.mul (power o c.args.here c.args.start) (gap o c.args.here c.args.others.now) =
    c.times-known.ensures ∙ ap (λ u. o.mul u c.distances.result) c.power.ensures ∙ ap (o.mul (power o c.args.here c.args.start)) c.distances.ensures in
    absurd (h.weighs (sym known ∙ c.is_zero.ensures.0 c.if-is_zero.true))

pub returns : goal.returns
returns g c = λ v h.
    let o = g.E.Arithmetic.ops in
    let l = g.met.E.Arithmetic.laws in
    let left = c.args.left.now in
    let x = c.index-left-0.result in
    let read : x ≡ coefficient o left 0 = c.index-left-0.is ∙ get_any left 0 x o.zero c.requires in
    let known : c.times-known.result ≡ o.mul (power o c.args.here c.args.start) (gap o c.args.here c.args.others.now) =
    c.times-known.ensures ∙ ap (λ u. o.mul u c.distances.result) c.power.ensures ∙ ap (o.mul (power o c.args.here c.args.start)) c.distances.ensures in
    let product : c.times.result ≡ o.mul (coefficient o left 0) (o.inv (o.mul (power o c.args.here c.args.start) (gap o c.args.here c.args.others.now))) =
    c.times.ensures ∙ ap (λ u. o.mul u c.inverse.result) read
    ∙ ap (o.mul (coefficient o left 0)) (c.inverse.ensures ∙ ap o.inv known) in
    let is : c.times.result ≡ g.E.Extension.embed v = product ∙ divided l _ _ _ h.weighs h.is in
    c.lower.ensures ∙ ap g.E.Extension.retract is ∙ g.met.E.Extension.retract_law v
