use Rattle.std.proofs.Common.{◌≡◌, ℕ, List, [], ap, length, refl, arith}
use Rattle.bech32_bits.specs.Bits.{to_bytes}
use Rattle.bech32_gf.specs.Fe32.{elements_of}
use Rattle.bech32_more_calls.specs.columns.Decoded.{AddressRow, program_of}
use Rattle.bech32_more_calls.proofs.Held.{held-none}
use Rattle.bech32_more_calls.proofs.Rowed.{addresses-more, addresses-none, addresses-some, lacks-more}
use Rattle.bech32_more_calls.proofs.Said.{program-from_kept}
use Rattle.bech32_more_calls.proofs.columns.decode.put_rows.Goals as goal

pub loop-i-init : goal.loop-i-init
loop-i-init c = record {
  so_far = addresses-none c.args.rows.now.column c.args.rows.now.first c.args.rows.now.hrp.now c.args.numbers.now c.args.versions.now c.args.hrp_lengths.now c.args.offsets.now c.args.programs.now
      c.put_item.new.buffer (c.put_item.ensures [] c.args.offsets.now refl (held-none c.args.offsets.now));
  within = omega arith;
}

pub returns-then-count-room : goal.returns-then-count-room
returns-then-count-room c =
    let row : AddressRow = record {
      number = c.decode_row-row.result.number;
      version = c.decode_row-row.result.version;
      hrp_length = c.decode_row-row.result.hrp_length;
      program = to_bytes (elements_of c.decode_row-row.result.characters.now);
    } in
    let kept : List ℕ = to_bytes (elements_of c.kept-characters.result.now) in
    let is : kept ≡ program_of c.args.offsets.now row = program-from_kept c.args.offsets.now c.decode_row-row.result.characters.now c.kept-characters.result.now c.kept-characters.ensures.value in
    addresses-some c.args.rows.now.column c.args.rows.now.first c.args.rows.now.hrp.now c.args.numbers.now c.args.versions.now c.args.hrp_lengths.now c.args.offsets.now c.args.programs.now
    c.loop-i.numbers c.loop-i.versions c.loop-i.hrp_lengths c.loop-i.offsets c.loop-i.programs c.loop-i.i c.loop-i.end c.loop-i.invariant.so_far
    (omega (arith, c.loop-i-test.true, c.requires.most))
    (λ l. c.requires.room (lacks-more _ _ _ c.loop-i.i c.args.most (omega (arith, c.loop-i-test.true)) l))
    row c.decode_row-row.ensures (omega (arith, c.if-count-room.true, ap length is, c.room_in-room.ensures, c.loop-i.invariant.within))

pub loop-i-preserved : goal.loop-i-preserved
loop-i-preserved c =
    let row : AddressRow = record {
      number = c.decode_row-row.result.number;
      version = c.decode_row-row.result.version;
      hrp_length = c.decode_row-row.result.hrp_length;
      program = to_bytes (elements_of c.decode_row-row.result.characters.now);
    } in
    let kept : List ℕ = to_bytes (elements_of c.kept-characters.result.now) in
    let is : kept ≡ program_of c.args.offsets.now row = program-from_kept c.args.offsets.now c.decode_row-row.result.characters.now c.kept-characters.result.now c.kept-characters.ensures.value in
    record {
      so_far = rw c.data_bytes_count-count.ensures (addresses-more c.args.rows.now.column c.args.rows.now.first c.args.rows.now.hrp.now c.args.numbers.now c.args.versions.now c.args.hrp_lengths.now c.args.offsets.now c.args.programs.now
          c.loop-i.numbers c.loop-i.versions c.loop-i.hrp_lengths c.loop-i.offsets c.loop-i.programs c.loop-i.i c.loop-i.end c.loop-i.invariant.so_far
          row kept c.put_item-in-loop-i-2.new.buffer c.put_item-in-loop-i-3.new.buffer c.put_item-in-loop-i-4.new.buffer c.put_item-in-loop-i.new.buffer c.put_data.new.buffer
          c.decode_row-row.ensures is
          (omega (arith, c.if-count-room.false, c.room_in-room.ensures, c.loop-i.invariant.within)) (omega (arith, c.if-count-room.false, c.room_in-room.ensures, c.loop-i.invariant.within))
          c.put_item-in-loop-i-2.ensures c.put_item-in-loop-i-3.ensures c.put_item-in-loop-i-4.ensures (rw c.data_bytes_count-count.ensures at c.put_item-in-loop-i.ensures) c.put_data.ensures);
      within = omega (arith, c.if-count-room.false, c.loop-i.invariant.within);
    }
