use Rattle.std.proofs.Common.{◌≡◌, ◌∙◌, ◌+◌, ◌-◌, ◌*◌, ℕ, suc, List, [], ◌∷◌, ◌++◌, take, sym, ap, arith, rules}
use Rattle.c32_replies.specs.Split.{spaced_shares}
use Rattle.c32_replies.proofs.Shares.{told-more}
use Rattle.c32_replies.proofs.split.reply_of.Goals as goal

pub loop-preserved : goal.loop-preserved
loop-preserved g c =
    let n : ℕ = c.args.size in
    let k : ℕ = c.args.count - (c.loop.counter + 1) in
    let rest = c.loop.rest.now in
    let said = c.loop.said.items in
    let step : c.args.count - c.loop.counter ≡ suc k = omega (arith, c.loop-test.true) in
    let more : c.extend_from_slice.new.self.items ≡ (said ++ (32 ∷ [])) ++ take n rest = search rules in
    let left = ap (λ (m : ℕ). m * n) step in
    record {
      size = omega (arith, left, c.loop.invariant.size, c.split_at.ensures.back_len);
      told =
          ap (λ (l : List ℕ). l ++ spaced_shares n c.split_at.result.1.now k) more
          ∙ ap (λ (b : List ℕ). ((said ++ (32 ∷ [])) ++ take n rest) ++ spaced_shares n b k) c.split_at.ensures.back
          ∙ told-more n k rest said
          ∙ ap (λ (m : ℕ). said ++ spaced_shares n rest m) (sym step)
          ∙ c.loop.invariant.told;
    }
