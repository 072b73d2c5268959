use Rattle.std.proofs.Common.{◌+◌, ◌<◌, length, refl, arith}
use Rattle.bech32_near.proofs.Located.{never, swap_none, swap_right, swap_some}
use Rattle.bech32_near.proofs.edits.places.swap_at.Goals as goal

pub returns-then-not-swap_is_right : goal.returns-then-not-swap_is_right
returns-then-not-swap_is_right g c hrp room word powers =
    let code = g.Ck.Checksum.code in
    let cs = c.args.characters.now in
    let at = c.args.location in
    let p = c.args.pairs.now in
    let two : at + 1 < length cs = omega (arith, c.if-characters-location-lt2.false) in
    let right = swap_right code hrp cs at c.element_at-higher.result c.element_at-lower.result c.element_at-higher.ensures c.element_at-lower.ensures two
    g.Ck.MidstateRepr.PackedFe32.number c.args.whole p.one p.two p.four p.eight p.sixteen _ c.if-not-swap_is_right.ensures word powers in
    swap_none code hrp cs at c.element_at-higher.result c.element_at-lower.result c.element_at-higher.ensures c.element_at-lower.ensures two (λ q. never (right.1 q))

pub returns : goal.returns
returns g c hrp room word powers =
    let code = g.Ck.Checksum.code in
    let cs = c.args.characters.now in
    let at = c.args.location in
    let p = c.args.pairs.now in
    let two : at + 1 < length cs = omega (arith, c.if-characters-location-lt2.false) in
    let right = swap_right code hrp cs at c.element_at-higher.result c.element_at-lower.result c.element_at-higher.ensures c.element_at-lower.ensures two
    g.Ck.MidstateRepr.PackedFe32.number c.args.whole p.one p.two p.four p.eight p.sixteen _ c.if-not-swap_is_right.ensures word powers in
    swap_some code hrp cs at c.element_at-higher.result c.element_at-lower.result c.element_at-higher.ensures c.element_at-lower.ensures two room (right.0 refl)
