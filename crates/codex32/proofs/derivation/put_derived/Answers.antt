use Rattle.std.proofs.Common.{◌≡◌, ◌≤◌, ◌+◌, length, inr, refl, sym, subst, ◌∙◌, arith}
use Rattle.std.proofs.lemmas.List.{length-take-le}
use Rattle.bech32_gf.specs.Fe32.{ops}
use Rattle.codex32_steady.specs.shares.Shares.{AreShares, DoAgree}
use Rattle.codex32.specs.Derive.{indices_of, rows_of, size_of}
use Rattle.codex32.proofs.Derived.{count-some, shares-from_set, size-first}
use Rattle.codex32.proofs.ShareParts.{fits}
use Rattle.codex32.proofs.derivation.put_derived.Goals as goal

pub interpolate_if_consistent-requires-clause-shares : goal.interpolate_if_consistent-requires-clause-shares
interpolate_if_consistent-requires-clause-shares c =
    let shares = c.args.shares.now in
    let size : c.size-size.result ≡ size_of shares = c.size-size.ensures ∙ size-first shares c.index-shares-0.result (omega (arith, count-some shares, c.in_ok-count.ensures.outcome.1, c.in_ok-count.ensures.few.1)) c.index-shares-0.is in
    let small : c.size-size.result ≤ 124 = let most = (fits (3 + length c.index-shares-0.result.data_part.now) c.index-shares-0.result.within).most in omega (arith, most, c.size-size.ensures) in
    subst (AreShares (indices_of shares) (rows_of shares)) (sym (length-take-le c.size-size.result c.args.room.now (omega (arith, small, c.requires)) ∙ size))
    (shares-from_set shares c.args.index c.in_ok-count.ensures.outcome.0)

pub returns-then-not-interpolate_if_consistent-clause-outcome : goal.returns-then-not-interpolate_if_consistent-clause-outcome
returns-then-not-interpolate_if_consistent-clause-outcome c =
    let shares = c.args.shares.now in
    let size : c.size-size.result ≡ size_of shares = c.size-size.ensures ∙ size-first shares c.index-shares-0.result (omega (arith, count-some shares, c.in_ok-count.ensures.outcome.1, c.in_ok-count.ensures.few.1)) c.index-shares-0.is in
    let small : c.size-size.result ≤ 124 = let most = (fits (3 + length c.index-shares-0.result.data_part.now) c.index-shares-0.result.within).most in omega (arith, most, c.size-size.ensures) in
    let long = length-take-le c.size-size.result c.args.room.now (omega (arith, small, c.requires)) ∙ size in
    inr (
      refl,
      c.in_ok-count.ensures.outcome.0,
      λ agree.
          let same = subst (λ k. DoAgree ops k (indices_of shares) (rows_of shares) (size_of shares)) (sym c.in_ok-count.ensures.outcome.1) agree in
          let answer = c.interpolate_if_consistent.ensures.answer.1 (subst (DoAgree ops c.in_ok-count.count (indices_of shares) (rows_of shares)) (sym long) same) in
          absurd (let k = sym c.if-not-interpolate_if_consistent.true ∙ answer in cc),
    )
