use Rattle.std.proofs.Common.{rules, ◌≡◌, ◌∙◌, ℕ, List, [], subst, sym, arith}
use Rattle.std.specs.Prelude.{IfOk, None}
use Rattle.bech32_lookup.specs.Question.{IsAnswerTo}
use Rattle.bech32_lookup.proofs.OneError.{empty}
use Rattle.bech32_correction.proofs.given.listing_below.Goals as goal

pub correct_erased-requires : goal.correct_erased-requires
correct_erased-requires g c = (
  search rules,
  (
    search rules,
    (
      c.requires.lawful,
      (
        c.requires.within,
        (
          c.requires.erased,
          (
            omega (arith, c.if-erased-most.false, c.len-erased.ensures, c.bound-most.ensures),
            omega (arith, c.if-most-erased-lt2.true, c.if-erased-most.false, c.len-erased.ensures, c.bound-most.ensures),
          ),
        ),
      ),
    ),
  ),
)

pub correct_by_roots-requires : goal.correct_by_roots-requires
correct_by_roots-requires g c = (
  search rules,
  (
    search rules,
    (
      search rules,
      (
        c.requires.lawful,
        (
          c.requires.within,
          (c.requires.erased, c.requires.known (omega (arith, c.if-most-erased-lt2.false, c.if-erased-most.false, c.len-erased.ensures, c.bound-most.ensures))),
        ),
      ),
    ),
  ),
)

pub returns-then-most-le3-clause-answer : goal.returns-then-most-le3-clause-answer
returns-then-most-le3-clause-answer g c =
    let none : c.args.erasures.now ≡ [] = empty c.args.erasures.now (sym c.len-erased.ensures ∙ c.if-erased-eq0.true) in
    subst (λ (s : List ℕ). IfOk c.correct_single.result (λ answer. IsAnswerTo g.Ck.Checksum.code g.Ck.Checksum.bound (record { residue = c.args.residue.now; window = c.args.window; erasures = s }) answer))
    (sym none) c.correct_single.ensures.answer

-- more erasures than the bound explain nothing
pub returns-then-erased-most-clause-answer : goal.returns-then-erased-most-clause-answer
returns-then-erased-most-clause-answer g c = λ errors explains.
    omega (arith, explains.few, c.if-erased-most.true, c.len-erased.ensures, c.bound-most.ensures)

pub returns-in-Absent-clause-answer : goal.returns-in-Absent-clause-answer
returns-in-Absent-clause-answer g c =
    subst (λ (s : List ℕ). IsAnswerTo g.Ck.Checksum.code g.Ck.Checksum.bound (record { residue = c.args.residue.now; window = c.args.window; erasures = s }) None)
    c.as_slice.ensures (rw c.in-Absent.is at c.in_ok-listing.ensures.answer)
