use Rattle.std.proofs.Common.{refl}
use Rattle.bech32_near.proofs.Located.{never, left_out_none, left_out_some}
use Rattle.bech32_near.proofs.edits.places.left_out_at.Goals as goal

pub returns-then-not-is_last : goal.returns-then-not-is_last
returns-then-not-is_last g c hrp room word =
    left_out_none g.Ck.Checksum.code hrp c.args.characters.now c.args.location c.element_at-element.result c.element_at-element.ensures c.requires.within
    (λ q. never (c.if-not-is_last.ensures.1 q.0))

pub returns-then-not-is_target : goal.returns-then-not-is_target
returns-then-not-is_target g c hrp room word =
    left_out_none g.Ck.Checksum.code hrp c.args.characters.now c.args.location c.element_at-element.result c.element_at-element.ensures c.requires.within
    (λ q. never ((c.if-not-is_target.ensures _ word).1 q.1))

pub returns : goal.returns
returns g c hrp room word =
    left_out_some g.Ck.Checksum.code hrp c.args.characters.now c.args.location c.element_at-element.result c.element_at-element.ensures c.requires.within room
    (c.if-not-is_last.ensures.0 refl, (c.if-not-is_target.ensures _ word).0 refl)
