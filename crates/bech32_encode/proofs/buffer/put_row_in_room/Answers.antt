use Rattle.std.proofs.Common.{◌≡◌, ◌≤◌, ◌+◌, ◌*◌, arith}
use Rattle.bech32_encode.proofs.RowPairs.{no_pairs, pair_more, all_pairs}
use Rattle.bech32_encode.proofs.buffer.put_row_in_room.Goals as goal

pub loop-pair-init : goal.loop-pair-init
loop-pair-init g c = no_pairs c.args.size (g.R.PackedFe32.number c.args.row.now) c.args.at c.args.buffer.now

pub loop-pair-preserved : goal.loop-pair-preserved
loop-pair-preserved g c =
    let n = c.args.size in
    let i = c.loop-pair.pair in
    let below : 2 * i + 2 ≤ n = omega arith in
    pair_more n (g.R.PackedFe32.number c.args.row.now) i c.args.at c.args.buffer.now c.loop-pair.buffer c.put_two.new.buffer
    c.unpack.result c.unpack-in-loop-pair.result (c.from-first.result * 32 + c.from-second.result) (c.args.at + 2 * i)
    below c.requires.room (omega arith) c.unpack.ensures.value c.unpack-in-loop-pair.ensures.value c.unpack-in-loop-pair.ensures.below (omega arith)
    c.loop-pair.invariant c.put_two.ensures

pub returns : goal.returns
returns g c =
    let n = c.args.size in
    let i = c.loop-pair.pair in
    let all : 2 * i ≡ n = omega arith in
    all_pairs n (g.R.PackedFe32.number c.args.row.now) i c.args.at c.args.buffer.now c.loop-pair.buffer all c.loop-pair.invariant
