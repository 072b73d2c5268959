use Rattle.std.proofs.Common.{List, length, map, take, sym, subst}
use Rattle.bech32_gf.specs.Fe32 as fe32
use Rattle.bech32_gf.specs.Fe32.{elements_of}
use Rattle.bech32_gf.specs.declared.gf32.Fe32.{Fe32}
use Rattle.bech32_gf.specs.laws.Fe32Laws.{is_field}
use Rattle.codex32_steady.specs.shares.Shares.{AreShares, IsDerived}
use Rattle.codex32_steady.proofs.Given.{front_shares, given}
use Rattle.codex32_steady.proofs.shares.agreement.interpolate_if_consistent.Goals as goal

pub share_at-requires-clause-shares : goal.share_at-requires-clause-shares
share_at-requires-clause-shares g c =
    subst (λ n. AreShares (map g.T.IndexedText.index_of (take c.args.count c.args.shares.now)) (map (λ t. elements_of (g.T.IndexedText.characters_of t)) (take c.args.count c.args.shares.now)) n)
    (sym c.agree.ensures.size)
    (front_shares is_field g.T.IndexedText.index_of (λ t. elements_of (g.T.IndexedText.characters_of t)) c.args.shares.now c.args.count (length c.args.target.now) c.requires.shares)

pub returns-clause-text : goal.returns-clause-text
returns-clause-text g c = λ yes.
    let f = g.T.IndexedText.index_of in
    let elements : g.row.T.Denot → List Fe32 = λ t. elements_of (g.T.IndexedText.characters_of t) in
    let front = take c.args.count c.args.shares.now in
    given is_field f elements c.args.shares.now c.args.count (length c.args.target.now) c.requires.within c.requires.shares c.args.x c.share_at.new.target
    (c.agree.ensures.answer.0 c.if-not-agree.false)
    (subst (λ n. IsDerived fe32.ops (map f front) (map elements front) n c.args.x c.share_at.new.target) c.agree.ensures.size c.share_at.ensures)
