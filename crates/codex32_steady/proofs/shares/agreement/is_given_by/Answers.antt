use Rattle.std.proofs.Common.{ℕ, length, map, sym, ap, subst, ◌∙◌}
use Rattle.bech32_gf.specs.Fe32 as fe32
use Rattle.bech32_gf.specs.Fe32.{elements_of}
use Rattle.bech32_gf.specs.laws.Fe32Laws.{is_field}
use Rattle.codex32_steady.specs.shares.Shares.{IsDerived}
use Rattle.codex32_steady.proofs.ShareTexts.{derived_unique}
use Rattle.codex32_steady.proofs.shares.agreement.is_given_by.Goals as goal

pub returns-clause-answer : goal.returns-clause-answer
returns-clause-answer g c =
    let xs = map g.T.IndexedText.index_of c.args.shares.now in
    let ts = map (λ t. elements_of (g.T.IndexedText.characters_of t)) c.args.shares.now in
    let n : ℕ = length c.args.room.now in
    let x = g.T.IndexedText.index_of c.args.text.now in
    let mine = elements_of (g.T.IndexedText.characters_of c.args.text.now) in
    let made = subst (λ y. IsDerived fe32.ops xs ts n y c.share_at.new.target) c.index.ensures c.share_at.ensures in
    let read = ap elements_of c.characters.ensures.value in (
      λ yes. subst (λ t. IsDerived fe32.ops xs ts n x t) (c.are_elements_of.ensures.0 yes ∙ read) made,
      λ h. c.are_elements_of.ensures.1 (derived_unique is_field xs ts n x c.share_at.new.target mine c.requires.shares made h ∙ sym read),
    )
