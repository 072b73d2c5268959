use Rattle.std.proofs.Common.{◌≡◌, length}
use Rattle.std.specs.List.{list_any}
use denote.Text.{Utf8}
use denote.Shadow.{shadow}
use Rattle.line_program.specs.Words.{is_empty, words}
use Rattle.c32_replies.proofs.command.all_words.Given as goal

abbrev pub invariant-words : goal.invariant-words
invariant-words l = record {
  text : shadow (Utf8 l.rest);
  read : list_any is_empty (words l.text) ≡ list_any is_empty (words l.rest);
}

abbrev pub decreases-words : goal.decreases-words
decreases-words l = length (words l.rest)
