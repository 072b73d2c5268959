use Rattle.std.proofs.Common.{take, sym, ◌∙◌}
use Rattle.codex32.proofs.EncodedStrings.{by_count-long, by_count-short, encoded_long_string, encoded_string}
use Rattle.codex32.proofs.encoding.encode_payload_into.Goals as goal

pub returns-then-is_of_short-clause-text : goal.returns-then-is_of_short-clause-text
returns-then-is_of_short-clause-text c =
    by_count-short c.args.header.now c.args.payload.now (take c.put_string.result c.put_string.new.buffer) (sym c.is_of_short.ensures ∙ c.if-is_of_short.true) c.put_string.ensures.text

pub returns-then-is_of_short-clause-string : goal.returns-then-is_of_short-clause-string
returns-then-is_of_short-clause-string c =
    encoded_string c.args.header.now c.args.payload.now (take c.put_string.result c.put_string.new.buffer) (sym c.is_of_short.ensures ∙ c.if-is_of_short.true) c.put_string.ensures.text

pub returns-then-is_of_long-clause-text : goal.returns-then-is_of_long-clause-text
returns-then-is_of_long-clause-text c =
    by_count-long c.args.header.now c.args.payload.now (take c.put_string-then-is_of_long.result c.put_string-then-is_of_long.new.buffer) (sym c.is_of_short.ensures ∙ c.if-is_of_short.false) c.put_string-then-is_of_long.ensures.text

pub returns-then-is_of_long-clause-string : goal.returns-then-is_of_long-clause-string
returns-then-is_of_long-clause-string c =
    encoded_long_string c.args.header.now c.args.payload.now (take c.put_string-then-is_of_long.result c.put_string-then-is_of_long.new.buffer) (sym c.is_of_long.ensures ∙ c.if-is_of_long.true) c.put_string-then-is_of_long.ensures.text
