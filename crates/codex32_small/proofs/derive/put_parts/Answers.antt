use Rattle.std.specs.List.{sum}
use Rattle.std.proofs.Common.{◌≡◌, ◌+◌, ◌<◌, ◌++◌, ◌∷◌, [], ℕ, suc, List, length, take, drop, set, get_or, ap, sym, subst, ◌∙◌, arith, rules}
use Rattle.std.proofs.Math.Seq.{drop-cons, take-suc-set}
use Rattle.std.proofs.lemmas.List.{length-set, take_all}
use Rattle.std.proofs.lemmas.Result.{err_from_is_err_and}
use Rattle.codex32.specs.Share.{AreSharesOf, IsShareOf}
use Rattle.codex32.specs.declared.share.Share.{Share}
use Rattle.codex32_calls.specs.Derive.{texts_of}
use Rattle.codex32_calls.specs.Share.{IsEitherFault}
use Rattle.codex32_calls.proofs.TextsInTurn.{fault-at, front_at, length-texts, shares-more, sum-cons, tail_at, texts-next}
use Rattle.codex32_small.specs.Parts.{share_of_part, shares_of}
use Rattle.codex32_small.specs.declared.part.Part.{Part}
use Rattle.codex32_small.proofs.Parts.{shares-append}
use Rattle.codex32_small.proofs.derive.put_parts.Goals as goal

pub returns-in_err-room-clause-outcome : goal.returns-in_err-room-clause-outcome
returns-in_err-room-clause-outcome c =
    let ns = c.args.lengths.now in
    let all = texts_of c.args.texts.now ns in
    let i : ℕ = c.loop-i.i in
    let within : i < length ns = omega (arith, c.loop-i-test.true) in
    let next = texts-next all c.loop-i.rest.now ns i 0 within c.loop-i.invariant.left in
    let p = err_from_is_err_and c.from_residual.result c.from_residual.ensures.1 in
    let e = c.in_err-room.ensures in
    rw p.1
    (rw p.2
    (record {
      refusal = e.refusal;
      holds = fault-at i all (shares_of (take i c.loop-i.room)) _ _ e.refusal c.loop-i.invariant.so_far next (subst (λ (t : List ℕ). IsEitherFault t e.refusal) c.split_at.ensures.front e.holds);
      number = e.number;
    }))

pub loop-i-preserved : goal.loop-i-preserved
loop-i-preserved c =
    let ns = c.args.lengths.now in
    let all = texts_of c.args.texts.now ns in
    let room = c.loop-i.room in
    let rest = c.loop-i.rest.now in
    let behind = c.split_at.result.1.now in
    let i : ℕ = c.loop-i.i in
    let x : Part = c.in_ok-room.field-0 in
    let n : ℕ = get_or ns i 0 in
    let within : i < length ns = omega (arith, c.loop-i-test.true) in
    let fits : i < length room = omega (arith, within, c.loop-i.invariant.size, c.requires.room) in
    let e : i + 1 ≡ suc i = omega arith in
    let next = texts-next all rest ns i 0 within c.loop-i.invariant.left in
    let is : IsShareOf (take n rest) (share_of_part x) = subst (λ (t : List ℕ). IsShareOf t (share_of_part x)) c.split_at.ensures.front c.in_ok-room.ensures in
    let sums : sum (drop i ns) ≡ n + sum (drop (suc i) ns) = ap sum (drop-cons ns i 0 within) ∙ sum-cons n (drop (suc i) ns) in
    let whole : sum (drop (suc i) ns) ≡ length behind = omega (arith, sums, c.loop-i.invariant.whole, c.split_at.ensures.back_len) in
    let left : drop (suc i) all ≡ texts_of behind (drop (suc i) ns) =
    tail_at i all (take n rest) (texts_of (drop n rest) (drop (suc i) ns)) next ∙ ap (λ (u : List ℕ). texts_of u (drop (suc i) ns)) (sym c.split_at.ensures.back) in
    let more : AreSharesOf (take i all ++ (take n rest ∷ [])) (shares_of (take i room) ++ (share_of_part x ∷ [])) = shares-more (take i all) (shares_of (take i room)) (take n rest) (share_of_part x) c.loop-i.invariant.so_far is in
    let done : AreSharesOf (take (suc i) all) (shares_of (take (suc i) (set room i x))) =
    subst (λ (u : List (List ℕ)). AreSharesOf u (shares_of (take (suc i) (set room i x)))) (sym (front_at i all (take n rest) (texts_of (drop n rest) (drop (suc i) ns)) next))
    (subst (λ (v : List Share). AreSharesOf (take i all ++ (take n rest ∷ [])) v) (sym (ap shares_of (take-suc-set room i x fits) ∙ shares-append (take i room) (x ∷ []))) more) in
    record {
      size = length-set room i x ∙ c.loop-i.invariant.size;
      whole = ap (λ (k : ℕ). sum (drop k ns)) e ∙ whole;
      left = ap (λ (k : ℕ). drop k all) e ∙ left ∙ ap (λ (k : ℕ). texts_of behind (drop k ns)) (sym e);
      so_far = subst (λ (k : ℕ). AreSharesOf (take k all) (shares_of (take k (set room i x)))) (sym e) done;
    }

pub returns-clause-outcome : goal.returns-clause-outcome
returns-clause-outcome c =
    let ns = c.args.lengths.now in
    let all = texts_of c.args.texts.now ns in
    let i : ℕ = c.loop-i.i in
    let end : i ≡ length ns = search rules in
    subst (λ (u : List (List ℕ)). AreSharesOf u (shares_of (take (length ns) c.loop-i.room))) (take_all (length ns) all (omega (arith, length-texts c.args.texts.now ns)))
    (subst (λ (k : ℕ). AreSharesOf (take k all) (shares_of (take k c.loop-i.room))) end c.loop-i.invariant.so_far)
