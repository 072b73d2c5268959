use Rattle.std.proofs.Common.{rules, ◌≡◌, ◌≢◌, ◌<◌, true, false, length, subst, sym, ◌∙◌, arith}
use Rattle.bech32_poly.proofs.Trimmed.{IsTrimmed, none_trimmed, zero_trimmed, other_trimmed, trimmed_above}
use Rattle.bech32_poly.proofs.polynomial.coefficients.trimmed_length.Goals as goal
use Rattle.bech32_poly.proofs.polynomial.coefficients.trimmed_length.Goals.{then-is_zero, else-is_zero}

pub loop-i-init : goal.loop-i-init
loop-i-init g c = none_trimmed g.F.Arithmetic.ops c.args.p.now

pub loop-i-preserved : goal.loop-i-preserved
loop-i-preserved g c =
    let o = g.F.Arithmetic.ops in
    let within : c.loop-i.i < length c.args.p.now = omega arith in
    elim c.if-is_zero.branch [
      | then-is_zero w ↦
          zero_trimmed o c.args.p.now c.index-p-i.result c.loop-i.i c.loop-i.length _ c.loop-i.invariant within c.index-p-i.is (c.is_zero.ensures.0 w.if-is_zero.true) w.length-is
      | else-is_zero w ↦
          let missed : c.index-p-i.result ≢ o.zero = λ e. let wrong : true ≡ false = sym (c.is_zero.ensures.1 e) ∙ w.if-is_zero.false in absurd (cc wrong) in
          other_trimmed o c.args.p.now c.index-p-i.result c.loop-i.i c.loop-i.length _ within c.index-p-i.is missed w.length-is
    ]

pub returns : goal.returns
returns g c =
    let all : c.loop-i.i ≡ length c.args.p.now = search rules in
    let h = subst (λ i. IsTrimmed g.F.Arithmetic.ops c.args.p.now i c.loop-i.length) all c.loop-i.invariant in
    record {
      within = h.within;
      above = trimmed_above g.F.Arithmetic.ops c.args.p.now c.loop-i.length h;
      leads = h.leads;
    }
