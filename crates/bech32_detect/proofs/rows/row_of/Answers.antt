use Rattle.std.proofs.Common.{◌≡◌, ◌<◌, ◌≤◌, ◌-◌, ◌*◌, ◌^◌, ◌∙◌, sym, arith}
use Rattle.bech32_checksum.specs.Packed.{digit_of}
use Rattle.bech32_detect.proofs.RowDigits.{highest-all, highest-more, highest-none, highest-room}
use Rattle.bech32_detect.proofs.rows.row_of.Goals as goal

pub loop-i-init : goal.loop-i-init
loop-i-init g c = sym (highest-none g.Ck.Checksum.CHECKSUM_LENGTH (g.Ck.MidstateRepr.PackedFe32.number c.args.residue.now) c.requires)

pub overflow_mul-row : goal.overflow_mul-row
overflow_mul-row g c =
    let degree = g.Ck.Checksum.CHECKSUM_LENGTH in
    let here : c.loop-i.i < degree = rw c.CHECKSUM_LENGTH-i-end.ensures at c.loop-i-test.true in
    let wide : degree ≤ 25 = omega (arith, g.met.Ck.Checksum.packing_laws.fits, g.met.Ck.MidstateRepr.PackedFe32.wide_law) in
    let room : c.loop-i.row * 32 < 2 ^ 125 = highest-room degree (g.Ck.MidstateRepr.PackedFe32.number c.args.residue.now) c.loop-i.i c.loop-i.row here c.loop-i.invariant c.requires wide in
    omega arith

pub overflow_add-row : goal.overflow_add-row
overflow_add-row g c =
    let number = g.Ck.MidstateRepr.PackedFe32.number in
    let degree = g.Ck.Checksum.CHECKSUM_LENGTH in
    let here : c.loop-i.i < degree = rw c.CHECKSUM_LENGTH-i-end.ensures at c.loop-i-test.true in
    let wide : degree ≤ 25 = omega (arith, g.met.Ck.Checksum.packing_laws.fits, g.met.Ck.MidstateRepr.PackedFe32.wide_law) in
    let room : c.loop-i.row * 32 < 2 ^ 125 = highest-room degree (number c.args.residue.now) c.loop-i.i c.loop-i.row here c.loop-i.invariant c.requires wide in
    omega (arith, room, c.from.ensures, c.unpack.ensures.below)

pub loop-i-preserved : goal.loop-i-preserved
loop-i-preserved g c =
    let number = g.Ck.MidstateRepr.PackedFe32.number in
    let degree = g.Ck.Checksum.CHECKSUM_LENGTH in
    let here : c.loop-i.i < degree = rw c.CHECKSUM_LENGTH-i-end.ensures at c.loop-i-test.true in
    let value : c.unpack.result ≡ (digit_of (number c.args.residue.now) (degree - 1 - c.loop-i.i)).value = rw c.CHECKSUM_LENGTH.ensures at c.unpack.ensures.value in
    highest-more degree (number c.args.residue.now) c.loop-i.i c.loop-i.row c.from.result here c.loop-i.invariant (c.from.ensures ∙ value)

pub returns : goal.returns
returns g c =
    let degree = g.Ck.Checksum.CHECKSUM_LENGTH in
    let all : degree ≤ c.loop-i.i = rw c.CHECKSUM_LENGTH-i-end.ensures at c.loop-i-test.false in
    c.loop-i.invariant ∙ highest-all degree (g.Ck.MidstateRepr.PackedFe32.number c.args.residue.now) c.loop-i.i all
