use Rattle.std.proofs.Common.{List, ◌++◌, length}
use denote.Text.{Utf8}
use denote.Shadow.{shadow}
use Rattle.codex32.specs.declared.error.Codex32Error.{Codex32Error}
use Rattle.codex32.specs.declared.share.Share.{Share}
use Rattle.line_program.specs.Words.{words}
use Rattle.codex32.specs.Share.{AreSharesOf}
use Rattle.c32_replies.specs.Reply.{IsTextRefusal}
use Rattle.c32_replies.proofs.derive.shares_in.Given as goal

abbrev pub invariant-texts : goal.invariant-texts
invariant-texts g l = record {
  text : shadow (Utf8 l.rest);
  refused : (e : Codex32Error) → IsTextRefusal (words l.rest) e → IsTextRefusal (words l.texts) e;
  read : (ss : List Share) → AreSharesOf (words l.rest) ss → AreSharesOf (words l.texts) (l.shares.items ++ ss);
}

abbrev pub decreases-texts : goal.decreases-texts
decreases-texts g l = length (words l.rest)
