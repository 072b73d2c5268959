use Rattle.std.proofs.Common.{ap, sym, ◌∙◌, Option}
use Rattle.b32_replies.specs.LongRequest.{by_long, with_checksum}
use Rattle.b32_replies.specs.declared.long_command.LongChecksum.{LongChecksum}
use Rattle.b32_replies.proofs.long_command.named_words.Goals as goal

pub returns-in_err-name : goal.returns-in_err-name
returns-in_err-name c = rw c.from_residual.ensures (ap by_long c.in_err-name.ensures)

pub returns-in_err-checksum : goal.returns-in_err-checksum
returns-in_err-checksum c =
    rw c.from_residual-in_err-checksum.ensures
    (ap by_long c.in_ok-name.ensures ∙ ap (λ (o : Option LongChecksum). with_checksum o (c.in_ok-name.others.0.now, c.in_ok-name.others.1.now)) (sym c.in_err-checksum.ensures))

pub returns : goal.returns
returns c = ap by_long c.in_ok-name.ensures ∙ ap (λ (o : Option LongChecksum). with_checksum o (c.in_ok-name.others.0.now, c.in_ok-name.others.1.now)) (sym c.in_ok-checksum.ensures)
