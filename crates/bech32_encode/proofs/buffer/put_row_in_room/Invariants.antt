use Rattle.std.proofs.Common.{◌≡◌, ◌+◌, ◌*◌, ◌++◌, take, drop}
use Rattle.bech32_encode.proofs.RowPairs.{highest}
use Rattle.bech32_encode.proofs.buffer.put_row_in_room.Given as goal

abbrev pub invariant-loop-pair : goal.invariant-loop-pair
invariant-loop-pair g l =
    l.buffer ≡ take l.at l.initial.buffer
    ++ (highest l.size (g.R.PackedFe32.number l.row) (2 * l.pair) ++ drop (l.at + 2 * l.pair) l.initial.buffer)
