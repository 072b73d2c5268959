use Rattle.std.proofs.Common.{length}
use denote.Text.{Utf8}
use denote.Shadow.{shadow}
use Rattle.codex32.specs.declared.error.Codex32Error.{Codex32Error}
use Rattle.line_program.specs.Words.{words}
use Rattle.c32_replies.specs.Reply.{AreTexts, IsTextRefusal}
use Rattle.c32_replies.proofs.derive.validate_texts.Given as goal

abbrev pub invariant-texts : goal.invariant-texts
invariant-texts l = record {
  text : shadow (Utf8 l.rest);
  fine : AreTexts (words l.rest) → AreTexts (words l.texts);
  refused : (e : Codex32Error) → IsTextRefusal (words l.rest) e → IsTextRefusal (words l.texts) e;
}

abbrev pub decreases-texts : goal.decreases-texts
decreases-texts l = length (words l.rest)
