use Rattle.std.proofs.Common.{sym, ◌∙◌}
use Rattle.std.proofs.lemmas.Bool.{ltb-false}
use Rattle.codex32.proofs.ReadTexts.{no_ascii, read_mark, read_other}
use Rattle.codex32.proofs.damaged.is_data_character.Goals as goal

pub returns-then-not-is_ascii-clause-value : goal.returns-then-not-is_ascii-clause-value
returns-then-not-is_ascii-clause-value c = sym (no_ascii c.args.c (ltb-false c.args.c 128 (sym c.if-not-is_ascii.ensures)))

pub returns-then-is_unreadable-clause-value : goal.returns-then-is_unreadable-clause-value
returns-then-is_unreadable-clause-value c = c.if-is_unreadable.true ∙ sym (read_mark c.args.c (sym c.is_unreadable.ensures ∙ c.if-is_unreadable.true))

pub returns-else-is_unreadable-clause-value : goal.returns-else-is_unreadable-clause-value
returns-else-is_unreadable-clause-value c = c.is_data_byte.ensures ∙ sym (read_other c.args.c (sym c.is_unreadable.ensures ∙ c.if-is_unreadable.false))
