use Rattle.std.proofs.Common.{rules, ◌≤◌, ℕ, List, length, subst, arith}
use Rattle.bech32_gf.specs.Fe32 as fe32
use Rattle.bech32_gf.specs.declared.gf32.Fe32.{Fe32}
use Rattle.bech32_near.specs.search.Nearest.{IsEarlier}
use Rattle.bech32_near.specs.search.Steps.{AreAdded, IsGathered}
use Rattle.bech32_near.proofs.NearestAnswers.{not_few}
use Rattle.bech32_near.proofs.search.gathering.gathered.Goals as goal

pub returns-then-not-are_few-clause-all : goal.returns-then-not-are_few-clause-all
returns-then-not-are_few-clause-all g c = λ within few.
    let many = not_few 0 (length c.args.corrector.now.erasures) 0 g.Ck.Checksum.bound c.are_few.result c.are_few.ensures.few c.if-not-are_few.true in
    absurd (omega (arith, many, few))

pub returns-then-not-are_few-clause-none : goal.returns-then-not-are_few-clause-none
returns-then-not-are_few-clause-none g c = λ many. c.new-found.ensures.items

pub returns-then-are_sketched-clause-all : goal.returns-then-are_sketched-clause-all
returns-then-are_sketched-clause-all g c = λ within few.
    let q = c.args.corrector.now in
    let is = c.if-are_sketched.true in
    subst (λ (start : List (List (ℕ × Fe32))). AreAdded (IsEarlier fe32.ops fe32.value q.erasures) (IsGathered fe32.ops g.Ck.Checksum.code.generator q.residue q.erasures c.args.limit c.args.errors) start c.gather_sketched.new.found.items)
    c.new-found.ensures.items (c.in_ok-gather_sketched.ensures few within (c.are_sketched.ensures.within is) (c.are_sketched.ensures.some is) (c.are_sketched.ensures.two is))

pub returns-then-are_sketched-clause-none : goal.returns-then-are_sketched-clause-none
returns-then-are_sketched-clause-none g c = λ many.
    let few : length c.args.corrector.now.erasures ≤ g.Ck.Checksum.bound = omega (arith, c.are_few.ensures.few.0 c.if-not-are_few.false) in
    absurd (omega (arith, many, few))

pub returns-clause-all : goal.returns-clause-all
returns-clause-all g c = λ within few.
    let q = c.args.corrector.now in
    subst (λ (start : List (List (ℕ × Fe32))). AreAdded (IsEarlier fe32.ops fe32.value q.erasures) (IsGathered fe32.ops g.Ck.Checksum.code.generator q.residue q.erasures c.args.limit c.args.errors) start c.gather.new.found.items)
    c.new-found.ensures.items (c.in_ok-gather.ensures few within)

pub returns-clause-none : goal.returns-clause-none
returns-clause-none g c = λ many.
    let few : length c.args.corrector.now.erasures ≤ g.Ck.Checksum.bound = omega (arith, c.are_few.ensures.few.0 c.if-not-are_few.false) in
    absurd (omega (arith, many, few))

pub drop-found-requires-room-T-Destruct : goal.drop-found-requires-room-T-Destruct
drop-found-requires-room-T-Destruct g c = search rules
