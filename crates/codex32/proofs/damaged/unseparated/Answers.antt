use Rattle.std.proofs.Common.{◌≡◌, Some, None, take}
use Rattle.bech32_decode.specs.Text.{split_at_last}
use Rattle.codex32.proofs.Refused.{cut_of}
use Rattle.codex32.proofs.damaged.unseparated.Goals as goal

pub unreachable-requires : goal.unreachable-requires
unreachable-requires c =
    let text = c.args.text.now in
    let outlined = rw c.in-Ok.is at c.outlined.ensures in
    let none : split_at_last text ≡ None = c.requires in
    let cut : split_at_last text ≡ Some (take 2 text, c.in-Ok.field-0.now) = cut_of text (take 2 text) c.in-Ok.field-0.now outlined.1 in
    cc
