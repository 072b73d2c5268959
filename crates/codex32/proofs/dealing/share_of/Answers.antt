use Rattle.std.specs.Prelude.{is_ok}
use Rattle.std.proofs.Common.{ap, subst, sym, ◌∙◌}
use Rattle.codex32.specs.Share.{IsEither}
use Rattle.codex32.proofs.MadeTexts.{utf8_of_either}
use Rattle.codex32.proofs.dealing.share_of.Goals as goal

pub from_utf8_unchecked-requires : goal.from_utf8_unchecked-requires
from_utf8_unchecked-requires c = utf8_of_either c.args.text.now c.requires

pub unreachable-requires : goal.unreachable-requires
unreachable-requires c =
    let ok = c.parse.ensures.accepts.1 (subst IsEither (sym c.from_utf8_unchecked.ensures) c.requires) in
    absurd (let k = sym (ap is_ok c.in_default.is) ∙ ok in cc)
