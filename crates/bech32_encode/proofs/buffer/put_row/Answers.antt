use Rattle.std.proofs.Common.{◌≡◌, ◌≤◌, ◌<◌, ◌+◌, ◌++◌, ◌∙◌, ℕ, List, length, map, reverse, take, drop, ap, arith}
use Rattle.bech32_checksum.specs.Encoded.{char_of_element}
use Rattle.bech32_checksum.specs.Packed.{digits}
use Rattle.bech32_encode.proofs.RowPairs.{length-characters}
use Rattle.bech32_encode.proofs.WholeGroups.{puts_at_once}
use Rattle.bech32_encode.proofs.buffer.put_row.Goals as goal

pub returns : goal.returns
returns g c =
    let n = c.args.size in
    let number = g.R.PackedFe32.number c.args.row.now in
    let bytes : List ℕ = map char_of_element (reverse (digits n number)) in
    let long : length bytes ≡ n = length-characters n number in
    let room : c.args.count + length bytes ≤ length c.args.buffer.now = omega arith in
    let after : c.args.count + n ≡ c.args.count + length bytes = omega arith in
    let some : 0 < length bytes = omega arith in
    puts_at_once bytes c.args.buffer.now c.put_row_in_room.new.buffer c.args.count (c.args.count + n) room after
    (c.put_row_in_room.ensures ∙ ap (λ (k : ℕ). take c.args.count c.args.buffer.now ++ (bytes ++ drop k c.args.buffer.now)) after) some
