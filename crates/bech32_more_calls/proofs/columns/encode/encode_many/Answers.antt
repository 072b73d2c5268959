use borrow.Rule.Slice.PartMut.{put_mid}
use Rattle.std.proofs.Common.{◌≡◌, ◌≤◌, ◌<◌, ◌+◌, ◌-◌, ◌⊎◌, ⊎_elim, ℕ, List, [], drop, inl, inr, length, refl, subst, sym, take, arith}
use Rattle.bech32_more_calls.specs.columns.Encoded.{PutsTexts, TextRow}
use Rattle.bech32_more_calls.proofs.Held.{held-behind, held-none, part-size, put_mid-same}
use Rattle.bech32_more_calls.proofs.Rowed.{texts-more, texts-none, texts-some}
use Rattle.bech32_more_calls.proofs.columns.encode.encode_many.Goals as goal

pub loop-i-init : goal.loop-i-init
loop-i-init c = record {
  so_far = texts-none c.args.rows.now.column c.args.rows.now.first c.args.rows.now.hrp.now c.args.rows.now.versions.now c.args.numbers.now c.args.offsets.now c.args.texts.now
      c.put_item.new.buffer (c.put_item.ensures [] c.args.offsets.now refl (held-none c.args.offsets.now));
  within = omega arith;
}

pub returns-in_default-clause-value : goal.returns-in_default-clause-value
returns-in_default-clause-value c =
    let end : ℕ = c.loop-i.end in
    let k : ℕ = c.room_in-room.result - end in
    let xs : List ℕ = c.loop-i.texts in
    let within : end + k ≤ length xs = omega (arith, c.room_in-room.ensures, c.loop-i.auto.texts, c.loop-i.invariant.within) in
    let (written, said, lacks) = c.in_default.ensures.full in
    let row : TextRow = record { number = 0; text = written } in
    let room : (c.loop-i.i ≡ 0) ⊎ (c.loop-i.i < length c.args.offsets.now) =
    ⊎_elim (λ (z : c.most_rows-most.result ≡ 0). inl (omega (arith, z, c.loop-i-test.true))) (λ (l : c.most_rows-most.result < length c.args.offsets.now). inr (omega (arith, l, c.loop-i-test.true))) c.most_rows-most.ensures.room in
    subst (λ (t : List ℕ). PutsTexts c.args.rows.now.column c.args.rows.now.first c.args.rows.now.hrp.now c.args.rows.now.versions.now c.args.numbers.now c.loop-i.numbers c.args.offsets.now c.loop-i.offsets c.args.texts.now t c.loop-i.i)
    (sym (put_mid-same end k xs c.encode_row.new.text c.in_default.ensures.same))
    (texts-some c.args.rows.now.column c.args.rows.now.first c.args.rows.now.hrp.now c.args.rows.now.versions.now c.args.numbers.now c.args.offsets.now c.args.texts.now
    c.loop-i.numbers c.loop-i.offsets xs c.loop-i.i end c.loop-i.invariant.so_far
    (omega (arith, c.loop-i-test.true, c.most_rows-most.ensures.less)) room row said
    (omega (arith, lacks, part-size end k xs within, c.room_in-room.ensures, c.loop-i.invariant.within)))

pub loop-i-preserved : goal.loop-i-preserved
loop-i-preserved c =
    let end : ℕ = c.loop-i.end in
    let k : ℕ = c.room_in-room.result - end in
    let xs : List ℕ = c.loop-i.texts in
    let within : end + k ≤ length xs = omega (arith, c.room_in-room.ensures, c.loop-i.auto.texts, c.loop-i.invariant.within) in
    let (written, said, put) = c.in-Some.ensures.value in
    let row : TextRow = record { number = c.in-Some.row.number; text = written } in
    let size : c.in-Some.row.count ≡ length written = put.count_is in
    let few : c.in-Some.row.count ≤ k = omega (arith, put.fits, size, part-size end k xs within) in
    record {
      so_far = texts-more c.args.rows.now.column c.args.rows.now.first c.args.rows.now.hrp.now c.args.rows.now.versions.now c.args.numbers.now c.args.offsets.now c.args.texts.now
          c.loop-i.numbers c.loop-i.offsets xs c.loop-i.i end c.loop-i.invariant.so_far
          row c.in-Some.row.count c.put_item-in-loop-i-2.new.buffer c.put_item-in-loop-i.new.buffer (put_mid end k xs c.encode_row.new.text) size said
          (omega (arith, few, c.room_in-room.ensures, c.loop-i.invariant.within)) (omega (arith, few, c.room_in-room.ensures, c.loop-i.invariant.within))
          c.put_item-in-loop-i-2.ensures c.put_item-in-loop-i.ensures (λ items start n h. held-behind items start xs c.encode_row.new.text written end k _ n within h put);
      within = omega (arith, few, c.loop-i.invariant.within);
    }
