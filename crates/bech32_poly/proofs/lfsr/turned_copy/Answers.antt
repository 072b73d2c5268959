use Rattle.std.proofs.Common.{◌≡◌, ◌-◌, ◌<◌, ◌≤◌, ℕ, List, [], ◌∷◌, ◌++◌, length, drop, reverse, get_or, sym, ap, ◌∙◌, arith}
use Rattle.std.proofs.lemmas.List.{drop_all, reverse-append}
use Rattle.bech32_poly.proofs.Loops.{drop_back, drop_none}
use Rattle.bech32_poly.proofs.lfsr.turned_copy.Goals as goal

-- one more element
one_more : {F : Type 0} (xs copy copy' : List F) (i : ℕ) (x : F) → 0 < i → i ≤ length xs → copy ≡ reverse (drop i xs) → x ≡ get_or xs (i - 1) x
    → copy' ≡ copy ++ x ∷ [] → copy' ≡ reverse (drop (i - 1) xs)
one_more xs copy copy' i x some within before read pushed =
    pushed ∙ ap (λ u. u ++ x ∷ []) before ∙ sym (reverse-append (x ∷ []) (drop i xs)) ∙ ap reverse (sym (drop_back xs i x some within read))

pub loop-i-init : goal.loop-i-init
loop-i-init g c =
    let xs = c.args.source.now in
    record {
      within = omega arith;
      copied = c.new-copy.ensures ∙ ap (λ u. reverse u) (sym (drop_all (length xs) xs (omega arith)));
    }

pub loop-i-preserved : goal.loop-i-preserved
loop-i-preserved g c = record {
  within = omega (arith, c.loop-i.invariant.within);
  copied = one_more c.args.source.now c.loop-i.copy c.push.new.self c.loop-i.i c.index-source-i.result c.loop-i-test.true c.loop-i.invariant.within
      c.loop-i.invariant.copied c.index-source-i.is c.in_ok-push.ensures.ok;
}

pub returns-clause-copy : goal.returns-clause-copy
returns-clause-copy g c = c.loop-i.invariant.copied ∙ ap (λ u. reverse u) (drop_none c.args.source.now c.loop-i.i c.loop-i-test.false)
