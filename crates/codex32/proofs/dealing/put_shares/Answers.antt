use Rattle.std.proofs.Common.{◌≡◌, ◌+◌, ◌<◌, ◌++◌, ◌∷◌, [], ℕ, suc, List, length, take, set, subst, sym, ◌∙◌, arith}
use Rattle.std.proofs.Math.Seq.{take-suc-set}
use Rattle.std.proofs.lemmas.List.{length-set}
use Rattle.codex32.specs.Share.{AreSharesOf, IsEither, IsShareOf}
use Rattle.codex32.specs.Split.{first_texts, text_at}
use Rattle.codex32.specs.declared.share.Share.{Share}
use Rattle.codex32.proofs.DealtTexts.{part-at}
use Rattle.codex32.proofs.SplitBase.{shares-more}
use Rattle.codex32.proofs.TextAt.{first-more}
use Rattle.codex32.proofs.dealing.put_shares.Goals as goal

pub share_of-requires : goal.share_of-requires
share_of-requires c =
    subst IsEither (sym (part-at c.args.n c.args.texts.now c.loop-j.j)) (c.requires.texts c.loop-j.j c.loop-j-test.true)

pub loop-j-preserved : goal.loop-j-preserved
loop-j-preserved c =
    let texts = c.args.texts.now in
    let n : ℕ = c.args.n in
    let j : ℕ = c.loop-j.j in
    let room = c.loop-j.room in
    let s : Share = c.share_of.result in
    let fits : j < length room = omega (arith, c.loop-j-test.true, c.loop-j.invariant.size, c.requires.room) in
    let e : j + 1 ≡ suc j = omega arith in
    let is : IsShareOf (text_at n texts j) s = subst (λ (u : List ℕ). IsShareOf u s) (part-at n texts j) c.share_of.ensures in
    let more : AreSharesOf (first_texts n texts j ++ (text_at n texts j ∷ [])) (take j room ++ (s ∷ [])) =
    shares-more (first_texts n texts j) (take j room) (text_at n texts j) s c.loop-j.invariant.so_far is in
    let done : AreSharesOf (first_texts n texts (suc j)) (take (suc j) (set room j s)) =
    subst (λ (us : List (List ℕ)). AreSharesOf us (take (suc j) (set room j s))) (sym (first-more n texts j))
    (subst (λ (ss : List Share). AreSharesOf (first_texts n texts j ++ (text_at n texts j ∷ [])) ss) (sym (take-suc-set room j s fits)) more) in
    record {
      size = length-set room j s ∙ c.loop-j.invariant.size;
      so_far = subst (λ (k : ℕ). AreSharesOf (first_texts n texts k) (take k (set room j s))) (sym e) done;
    }
