use Rattle.std.proofs.Common.{refl}
use Rattle.bech32_near.proofs.Located.{never, put_in_none, put_in_some, word_with}
use Rattle.bech32_near.proofs.edits.places.put_in_at.Goals as goal

pub returns-then-not-is_target : goal.returns-then-not-is_target
returns-then-not-is_target g c hrp room word powers =
    let code = g.Ck.Checksum.code in
    let w = word_with code hrp c.args.characters.now c.args.location c.args.element c.requires.within g.Ck.MidstateRepr.PackedFe32.number c.sum_of.result
    (c.sum_of.ensures _ _ word (c.times.ensures c.args.location 1 powers)) in
    put_in_none code hrp c.args.characters.now c.args.location c.args.element c.requires.within (λ q. never ((c.if-not-is_target.ensures _ w).1 q.1))

pub returns-then-not-is_last : goal.returns-then-not-is_last
returns-then-not-is_last g c hrp room word powers =
    put_in_none g.Ck.Checksum.code hrp c.args.characters.now c.args.location c.args.element c.requires.within (λ q. never (c.if-not-is_last.ensures.1 q.0))

pub returns : goal.returns
returns g c hrp room word powers =
    let code = g.Ck.Checksum.code in
    let w = word_with code hrp c.args.characters.now c.args.location c.args.element c.requires.within g.Ck.MidstateRepr.PackedFe32.number c.sum_of.result
    (c.sum_of.ensures _ _ word (c.times.ensures c.args.location 1 powers)) in
    put_in_some code hrp c.args.characters.now c.args.location c.args.element c.requires.within room
    (c.if-not-is_last.ensures.0 refl, (c.if-not-is_target.ensures _ w).0 refl)
