use Rattle.std.specs.Prelude.{bit_xor}
use Rattle.std.proofs.Common.{◌≡◌, ◌≤◌, ◌+◌, ◌-◌, ◌*◌, ℕ, get_or, length, take, drop, inl, inr, ap, refl, subst, ◌∙◌, arith}
use Rattle.std.proofs.lemmas.Bool.{cases_lt}
use Rattle.std.proofs.lemmas.List.{length-drop, length-take-le}
use Rattle.bech32_descriptor.specs.Marks.{IsMarked}
use Rattle.bech32_descriptor.proofs.MarkedChanges.{marks_changes, slice_at}
use Rattle.bech32_descriptor.proofs.places.mark_place.Goals as goal

pub loop-x-init : goal.loop-x-init
loop-x-init c = record {
  size = refl;
  alone = λ x low. absurd (omega (arith, low));
  sums = λ x y low less. absurd (omega (arith, low));
  kept = λ word h. h;
}

pub mark_sums-requires : goal.mark_sums-requires
mark_sums-requires c = omega (arith, c.loop-x.invariant.size, c.requires.some)

pub loop-x-preserved : goal.loop-x-preserved
loop-x-preserved c =
    let at = c.loop-x in
    let rows = c.args.rows.now in
    let p = c.powers_at-symbol.result.0 in
    let q = c.powers_at-symbol.result.1 in
    let after = c.mark_sums in
    let word = get_or rows (32 * p + at.x) 0 in
    let fits = c.powers_at-symbol.ensures.fits in
    let wide : 32 * q + 32 - 32 * q ≡ 32 = omega arith in
    let row = take (32 * q + 32 - 32 * q) (drop (32 * q) rows) in
    let cut = λ (y : ℕ). ap (λ (n : ℕ). get_or (take n (drop (32 * q) rows)) y 0) wide in
    let size : length row ≡ 32 = ap (λ (n : ℕ). length (take n (drop (32 * q) rows))) wide ∙ length-take-le 32 (drop (32 * q) rows) (omega (arith, length-drop (32 * q) rows, fits.1, c.requires.enough)) in
    record {
      size = after.ensures.size ∙ at.invariant.size;
      alone = λ x low. elim (cases_lt x at.x) [
        | inl less ↦ after.ensures.kept (get_or rows (32 * p + x) 0) (at.invariant.alone x less)
        | inr last ↦ (let here : at.x ≡ x = omega (arith, low, last) in subst (λ (k : ℕ). IsMarked after.new.cells (get_or rows (32 * p + k) 0)) here after.ensures.alone)
      ];
      sums = λ x y low less. elim (cases_lt x at.x) [
        | inl before ↦ after.ensures.kept (bit_xor (get_or rows (32 * p + x) 0) (get_or rows (32 * q + y) 0)) (at.invariant.sums x y before less)
        | inr last ↦
            (let here : at.x ≡ x = omega (arith, low, last) in
            subst (λ (k : ℕ). IsMarked after.new.cells (bit_xor (get_or rows (32 * p + k) 0) (get_or rows (32 * q + y) 0))) here
            (subst (λ (w : ℕ). IsMarked after.new.cells (bit_xor word w)) (cut y ∙ slice_at rows (32 * q) y less) (after.ensures.sums y (omega (arith, size, less)))))
      ];
      kept = λ w h. after.ensures.kept w (at.invariant.kept w h);
    }

pub returns-clause-changes : goal.returns-clause-changes
returns-clause-changes c =
    let at = c.loop-x in
    let end : 32 ≤ at.x = omega arith in
    marks_changes c.args.rows.now at.cells c.args.n c.args.i c.powers_at-symbol.result.0 c.powers_at-symbol.result.1 c.requires.long c.powers_at-symbol.ensures.symbol c.powers_at-symbol.ensures.group
    (λ x y hx hy. at.invariant.sums x y (omega (arith, hx, end)) hy) (λ x hx. at.invariant.alone x (omega (arith, hx, end)))
