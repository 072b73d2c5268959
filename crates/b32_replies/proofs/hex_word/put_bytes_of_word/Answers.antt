use Rattle.std.proofs.Common.{sym, ◌∙◌}
use Rattle.b32_replies.proofs.HexWords.{too_long}
use Rattle.b32_replies.proofs.hex_word.put_bytes_of_word.Goals as goal

pub returns-then-size-room-clause-put : goal.returns-then-size-room-clause-put
returns-then-size-room-clause-put c =
    too_long c.args.word.now c.args.room.now c.args.room.now _ c.size_of_digits.result (sym c.eq.ensures ∙ c.if-eq.false) c.if-size-room.true c.size_of_digits.ensures
