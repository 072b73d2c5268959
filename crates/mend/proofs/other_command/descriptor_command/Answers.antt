use Rattle.std.proofs.Common.{ap}
use Rattle.mend.specs.Request.{Descriptor, DescriptorCheck, DescriptorChecksum, asks}
use Rattle.mend.proofs.OtherCommands.{first-none, first-some}
use Rattle.mend.proofs.other_command.descriptor_command.Goals as goal

pub returns-in-Some : goal.returns-in-Some
returns-in-Some c = first-some _ _ _ (ap (asks Descriptor) c.in-Some.ensures)

pub returns-in-Some-text_behind : goal.returns-in-Some-text_behind
returns-in-Some-text_behind c = first-none _ _ _ (ap (asks Descriptor) c.in_default.ensures) (first-some _ _ _ (ap (asks DescriptorCheck) c.in-Some-text_behind.ensures))

pub returns-in_err-text : goal.returns-in_err-text
returns-in_err-text c =
    rw c.from_residual.ensures
    (first-none _ _ _ (ap (asks Descriptor) c.in_default.ensures)
    (first-none _ _ _ (ap (asks DescriptorCheck) c.in_default-text_behind.ensures) (ap (asks DescriptorChecksum) c.in_err-text.ensures)))

pub returns : goal.returns
returns c =
    first-none _ _ _ (ap (asks Descriptor) c.in_default.ensures)
    (first-none _ _ _ (ap (asks DescriptorCheck) c.in_default-text_behind.ensures) (ap (asks DescriptorChecksum) c.in_ok-text.ensures))
