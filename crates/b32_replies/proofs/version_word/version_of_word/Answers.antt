use Rattle.std.proofs.Common.{◌∙◌, sym}
use Rattle.b32_replies.proofs.VersionWords.{no_version-from_number}
use Rattle.b32_replies.proofs.version_word.version_of_word.Goals as goal

pub returns-then-number-gt31 : goal.returns-then-number-gt31
returns-then-number-gt31 c =
    no_version-from_number c.args.word.now c.in_ok-number.number c.in_ok-number.ensures.0 (sym c.as_bytes.ensures.value ∙ c.in_ok-number.ensures.1) c.if-number-gt31.true
