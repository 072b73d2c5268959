use Rattle.std.proofs.Common.{string_bytes, sym, ◌∙◌}
use Rattle.codex32.proofs.EncodedStrings.{by_count-long, by_count-short, encoded_long_string, encoded_string}
use Rattle.codex32.proofs.encoding.encode_payload.Goals as goal

pub returns-then-is_of_short-clause-text : goal.returns-then-is_of_short-clause-text
returns-then-is_of_short-clause-text g c =
    by_count-short c.args.header.now c.args.payload.now (string_bytes c.in_ok-string_in.field-0) (sym c.is_of_short.ensures ∙ c.if-is_of_short.true) c.in_ok-string_in.ensures

pub returns-then-is_of_short-clause-string : goal.returns-then-is_of_short-clause-string
returns-then-is_of_short-clause-string g c =
    encoded_string c.args.header.now c.args.payload.now (string_bytes c.in_ok-string_in.field-0) (sym c.is_of_short.ensures ∙ c.if-is_of_short.true) c.in_ok-string_in.ensures

pub returns-then-is_of_long-clause-text : goal.returns-then-is_of_long-clause-text
returns-then-is_of_long-clause-text g c =
    by_count-long c.args.header.now c.args.payload.now (string_bytes c.in_ok-string_in-2.field-0) (sym c.is_of_short.ensures ∙ c.if-is_of_short.false) c.in_ok-string_in-2.ensures

pub returns-then-is_of_long-clause-string : goal.returns-then-is_of_long-clause-string
returns-then-is_of_long-clause-string g c =
    encoded_long_string c.args.header.now c.args.payload.now (string_bytes c.in_ok-string_in-2.field-0) (sym c.is_of_long.ensures ∙ c.if-is_of_long.true) c.in_ok-string_in-2.ensures
