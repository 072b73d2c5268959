use Rattle.std.proofs.Common.{rules, ◌≡◌, ◌≢◌, ◌+◌, ◌-◌, ◌≤◌, ◌<◌, ℕ, suc, true, false, [], ◌∷◌, length, arith, refl, subst, sym, ap, ◌∙◌}
use Rattle.bech32_gf.specs.Field.{Ops, IsField}
use Rattle.bech32_poly.specs.Polynomial.{coefficient, add, scale}
use Rattle.bech32_poly.specs.Window.{act, shifted, Annihilates}
use Rattle.bech32_poly.proofs.WindowSums.{length-shifted}
use Rattle.bech32_poly.proofs.Synthesis.{State, right, stays, grows, moved, mended_is}
use Rattle.bech32_poly.proofs.lfsr.shortest_register.Goals as goal
use Rattle.bech32_poly.proofs.lfsr.shortest_register.Goals.{then-is_zero, else-is_zero+then-right-length, else-is_zero+else-right-length+in_ok-longer}

started : {K : Type 0} {o : Ops K} (l : IsField o) (s : ℕ → K) → State o s 0 0 0 (o.one ∷ []) (o.one ∷ []) o.one
started {o = o} l s = record {
  count = refl;
  register = record { degree = refl; monic = refl; windows = λ t within. absurd (omega arith) };
  old_length = omega arith;
  old_nonzero = l.one_not_zero;
  old_windows = λ t within. absurd (omega arith);
  old_miss = λ t at. absurd (omega arith);
  best = λ m q within good. omega arith;
}

pub loop-init : goal.loop-init
loop-init g c =
    moved g.met.F.Arithmetic.laws (coefficient g.F.Arithmetic.ops c.args.items.now) _ _ _ _ _ _ _ _ _ _ _ _ (started g.met.F.Arithmetic.laws (coefficient g.F.Arithmetic.ops c.args.items.now))
    refl refl refl (sym c.in_ok-register.ensures.items) (sym c.in_ok-old.ensures.items) (sym c.one-old_miss.ensures)

pub add_multiple-requires-else-right-length : goal.add_multiple-requires-else-right-length
add_multiple-requires-else-right-length g c =
    let gap : ℕ = c.loop.right + 1 - c.loop.length in
    let longer : length c.in_ok-longer.longer ≡ gap + length c.loop.register =
    ap (λ u. length u) c.in_ok-longer.ensures.copy ∙ length-shifted g.met.F.Arithmetic.laws gap c.as_slice-else-right-length.result.now ∙ ap (λ xs. gap + length xs) c.as_slice-else-right-length.ensures in
    omega (arith, ap (λ u. length u) c.as_slice-else-right-length-2.ensures, longer, c.loop.invariant.old_length, c.loop.invariant.register.degree)

pub loop-preserved : goal.loop-preserved
loop-preserved g c =
    let o = g.F.Arithmetic.ops in
    let s : ℕ → g.row.F.Denot = coefficient o c.args.items.now in
    let n : ℕ = c.loop.counter in
    let next : suc n ≡ n + 1 = omega arith in
    let missed_by : c.window_sum-miss.result ≡ act o c.loop.register s c.loop.right = c.window_sum-miss.ensures ∙ ap (λ xs. act o xs s c.loop.right) c.as_slice.ensures in
    elim c.if-is_zero.branch [
      | then-is_zero w ↦
          let none : c.window_sum-miss.result ≡ o.zero = c.is_zero.ensures.0 w.if-is_zero.true in
          moved g.met.F.Arithmetic.laws s _ _ _ _ _ _ _ _ _ _ _ _
          (right g.met.F.Arithmetic.laws s n c.loop.length c.loop.right c.loop.register c.loop.old c.loop.old_miss c.loop.invariant (sym missed_by ∙ none))
          next (sym w.length-is) (omega (arith, w.right-is)) (sym w.register-is) (sym w.old-is) (sym w.old_miss-is)
      | else-is_zero+then-right-length w ↦
          let missed : c.window_sum-miss.result ≢ o.zero = λ e. let wrong : true ≡ false = sym (c.is_zero.ensures.1 e) ∙ w.if-is_zero.false in absurd (cc wrong) in
          let below : c.loop.right < c.loop.length = search (rules, arith) in
          let gap : ℕ = c.loop.length - 1 - c.loop.right in
          let shift : suc (gap + c.loop.right) ≡ c.loop.length = omega arith in
          let items : c.if-is_zero.register ≡ add o c.loop.register (scale o (o.neg (o.mul (act o c.loop.register s c.loop.right) (o.inv c.loop.old_miss))) (shifted o gap c.loop.old)) =
          w.register-is ∙ mended_is o _ _ _ _ _ _ _ _ _ _ _ gap w.add_multiple.ensures refl w.as_slice-then-right-length.ensures w.negated-factor.ensures w.times.ensures w.inverse.ensures missed_by in
          moved g.met.F.Arithmetic.laws s _ _ _ _ _ _ _ _ _ _ _ _
          (stays g.met.F.Arithmetic.laws s n c.loop.length c.loop.right c.loop.register c.loop.old c.loop.old_miss gap c.loop.invariant (λ e. missed (missed_by ∙ e)) shift)
          next (sym w.length-is) (omega (arith, w.right-is)) (sym items) (sym w.old-is) (sym w.old_miss-is)
      | else-is_zero+else-right-length+in_ok-longer w ↦
          let missed : c.window_sum-miss.result ≢ o.zero = λ e. let wrong : true ≡ false = sym (c.is_zero.ensures.1 e) ∙ w.if-is_zero.false in absurd (cc wrong) in
          let reached : c.loop.length ≤ c.loop.right = search (rules, arith) in
          let gap : ℕ = c.loop.right + 1 - c.loop.length in
          let shift : gap + c.loop.length ≡ suc c.loop.right = omega arith in
          let items : c.if-is_zero.register ≡ add o (shifted o gap c.loop.register) (scale o (o.neg (o.mul (act o c.loop.register s c.loop.right) (o.inv c.loop.old_miss))) c.loop.old) =
          w.register-is ∙ mended_is o _ _ _ _ _ _ _ _ _ _ _ 0 w.add_multiple-else-right-length.ensures (w.in_ok-longer.ensures.copy ∙ ap (shifted o gap) w.as_slice-else-right-length.ensures) w.as_slice-else-right-length-2.ensures w.negated-factor.ensures w.times.ensures w.inverse.ensures missed_by in
          moved g.met.F.Arithmetic.laws s _ _ _ _ _ _ _ _ _ _ _ _
          (grows g.met.F.Arithmetic.laws s n c.loop.length c.loop.right c.loop.register c.loop.old c.loop.old_miss gap c.loop.invariant (λ e. missed (missed_by ∙ e)) shift)
          next (omega (arith, w.length-is)) (sym w.right-is) (sym items) (sym w.old-is) (sym missed_by ∙ sym w.old_miss-is)
    ]

pub returns-in_err-longer-clause-in_place : goal.returns-in_err-longer-clause-in_place
returns-in_err-longer-clause-in_place g c = λ few.
    let size = ap (λ u. length u) c.as_slice-else-right-length.ensures in
    absurd (cc (c.in_err-longer.ensures.in_place (omega (arith, size, few, c.loop.invariant.register.degree, c.loop.invariant.count))))

pub returns-clause-shortest : goal.returns-clause-shortest
returns-clause-shortest g c =
    let all : c.loop.counter ≡ length c.args.items.now = search rules in
    record {
      len = c.loop.length;
      within = omega (arith, all, c.loop.invariant.count);
      generates = subst (λ n. Annihilates g.F.Arithmetic.ops (coefficient g.F.Arithmetic.ops c.args.items.now) n c.loop.length c.loop.register) all c.loop.invariant.register;
      least = λ m q within good. c.loop.invariant.best m q (omega arith) (subst (λ n. Annihilates g.F.Arithmetic.ops (coefficient g.F.Arithmetic.ops c.args.items.now) n m q) (sym all) good);
    }
