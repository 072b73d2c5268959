use Rattle.bech32.specs.Long.{long_bech32, long_bech32m}
use Rattle.b32_replies.proofs.LongAnswers.{read-bytes, read-elements}
use Rattle.b32_replies.proofs.long.read.Goals as goal

pub returns-in-LongBech32 : goal.returns-in-LongBech32
returns-in-LongBech32 g c =
    let read = c.decode_strict in
    rw (c.in-Bytes.is, c.in-LongBech32.is) (read-bytes (λ v. v.items) long_bech32 c.args.asked.1.now read.result read.ensures.value read.ensures.refused)

pub returns-in-LongBech32m : goal.returns-in-LongBech32m
returns-in-LongBech32m g c =
    let read = c.decode_strict-in-LongBech32m in
    rw (c.in-Bytes.is, c.in-LongBech32m.is) (read-bytes (λ v. v.items) long_bech32m c.args.asked.1.now read.result read.ensures.value read.ensures.refused)

pub returns-in-LongBech32-checksum : goal.returns-in-LongBech32-checksum
returns-in-LongBech32-checksum g c =
    let read = c.decode_elements in
    rw (c.in-Elements.is, c.in-LongBech32-checksum.is) (read-elements (λ v. v.items) long_bech32 c.args.asked.1.now read.result read.ensures.value read.ensures.values read.ensures.refused)

pub returns-in-LongBech32m-checksum : goal.returns-in-LongBech32m-checksum
returns-in-LongBech32m-checksum g c =
    let read = c.decode_elements-in-LongBech32m-checksum in
    rw (c.in-Elements.is, c.in-LongBech32m-checksum.is) (read-elements (λ v. v.items) long_bech32m c.args.asked.1.now read.result read.ensures.value read.ensures.values read.ensures.refused)
