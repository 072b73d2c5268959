use Rattle.std.specs.Prelude.{bit_xor}
use Rattle.std.proofs.Common.{◌≡◌, ℕ, get_or, inl, inr, subst, ◌∙◌, arith}
use Rattle.std.proofs.lemmas.Bool.{cases_lt}
use Rattle.bech32_descriptor.specs.Marks.{IsMarked}
use Rattle.bech32_descriptor.proofs.marks.mark_sums.Goals as goal

pub loop-other-init : goal.loop-other-init
loop-other-init c = record {
  size = c.mark.ensures.size;
  alone = c.mark.ensures.marked;
  sums = λ x low. absurd (omega (arith, low));
  kept = c.mark.ensures.kept;
}

pub loop-other-preserved : goal.loop-other-preserved
loop-other-preserved c =
    let at = c.loop-other in
    let after = c.mark-in-loop-other in
    record {
      size = after.ensures.size ∙ at.invariant.size;
      alone = after.ensures.kept c.args.word at.invariant.alone;
      sums = λ x low. elim (cases_lt x at.other-index) [
        | inl less ↦ after.ensures.kept (bit_xor c.args.word (get_or c.args.row.now x 0)) (at.invariant.sums x less)
        | inr last ↦
            (let here : at.other-index ≡ x = omega (arith, low, last) in
            subst (λ (k : ℕ). IsMarked after.new.cells (bit_xor c.args.word (get_or c.args.row.now k 0))) here after.ensures.marked)
      ];
      kept = λ word h. after.ensures.kept word (at.invariant.kept word h);
    }

pub returns-clause-sums : goal.returns-clause-sums
returns-clause-sums c x low = c.loop-other.invariant.sums x (omega (arith, low))
