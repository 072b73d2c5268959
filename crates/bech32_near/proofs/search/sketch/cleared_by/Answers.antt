use Rattle.std.proofs.Common.{ℕ, sym, ap, ◌∙◌, take, get_or, arith}
use Rattle.std.proofs.lemmas.List.{take_all, take_more}
use Rattle.bech32_near.specs.search.Sketch.{cleared, cleared_by}
use Rattle.bech32_near.proofs.Sketches.{cleared_by-push}
use Rattle.bech32_near.proofs.search.sketch.cleared_by.Goals as goal

pub loop-row-preserved : goal.loop-row-preserved
loop-row-preserved c =
    let rows = c.args.rows.now in
    let i : ℕ = c.loop-row.row-index in
    let row : ℕ × ℕ = get_or rows i (0, 0) in
    c.cleared-left.ensures ∙ ap (cleared row) c.loop-row.invariant
    ∙ sym (ap (λ u. cleared_by u c.args.number) (take_more rows i (0, 0) c.loop-row-test.true) ∙ cleared_by-push (take i rows) row c.args.number)

pub returns : goal.returns
returns c = c.loop-row.invariant ∙ ap (λ u. cleared_by u c.args.number) (take_all c.loop-row.row-index c.args.rows.now (omega arith))
