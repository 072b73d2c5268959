use Rattle.std.proofs.Common.{◌≡◌, ◌+◌, ℕ, suc, map, take, sym, ap, ◌∙◌, arith, set, ◌++◌, ◌∷◌, []}
use Rattle.std.proofs.lemmas.List.{take_more}
use Rattle.codex32_steady.proofs.Written.{length-mapped, length-written, map_at, take_set}
use Rattle.codex32_steady.proofs.shares.share.put_indices.Goals as goal

pub loop-i-preserved : goal.loop-i-preserved
loop-i-preserved g c =
    let f = g.T.IndexedText.index_of in
    let texts = c.args.texts.now in
    let i : ℕ = c.loop-i.i in
    let e : i + 1 ≡ suc i = omega arith in
    let written = c.index.result in
    record {
      size = length-written c.loop-i.indices i written ∙ c.loop-i.invariant.size;
      so_far =
          ap (λ k. take k (set c.loop-i.indices i written)) e
          ∙ take_set c.loop-i.indices i written (omega (arith, c.loop-i.invariant.size, c.loop-i-test.true))
          ∙ ap (λ u. u ++ (written ∷ [])) c.loop-i.invariant.so_far
          ∙ ap (λ y. take i (map f texts) ++ (y ∷ [])) (map_at f texts i c.index-texts-i.result written c.loop-i-test.true c.index-texts-i.is c.index.ensures)
          ∙ sym (take_more (map f texts) i written (omega (arith, c.loop-i-test.true, length-mapped f texts)));
    }
