use Rattle.std.proofs.Common.{inr}
use Rattle.b32_replies.specs.Request.{code_of_name}
use Rattle.mend.proofs.Few.{says-given, says_liquid-given}
use Rattle.mend.proofs.Replies.{adds-wider}
use Rattle.mend.proofs.reply.Commands.answer.Goals as goal

pub returns-in-Nearest-clause-answer : goal.returns-in-Nearest-clause-answer
returns-in-Nearest-clause-answer c = rw c.in-Nearest.is c.near_texts.ensures.answer

pub returns-in-Ok-clause-answer : goal.returns-in-Ok-clause-answer
returns-in-Ok-clause-answer c =
    let (given, are, is) = c.in-Ok.ensures in
    rw c.in-NearestAt.is
    (adds-wider _ _ c.near_texts-in-NearestAt.result _ _
    (λ said h. inr (given, are, says-given (code_of_name c.in-NearestAt.checksum) c.in-NearestAt.text.now c.in-Ok.given given c.in-NearestAt.errors.now said is (rw c.as_slice.ensures at h)))
    c.near_texts-in-NearestAt.ensures.answer)

pub returns-in-Edits-clause-answer : goal.returns-in-Edits-clause-answer
returns-in-Edits-clause-answer c = rw c.in-Edits.is c.edits.ensures.answer

pub returns-in-Fault-clause-answer : goal.returns-in-Fault-clause-answer
returns-in-Fault-clause-answer c = rw c.in-Fault.is c.fault.ensures.answer

pub returns-in-Suggest-clause-answer : goal.returns-in-Suggest-clause-answer
returns-in-Suggest-clause-answer c = rw c.in-Suggest.is c.suggest.ensures.answer

pub returns-in-Checksum-clause-answer : goal.returns-in-Checksum-clause-answer
returns-in-Checksum-clause-answer c = rw c.in-Checksum.is c.checksum.ensures.answer

pub returns-in-Liquid-clause-answer : goal.returns-in-Liquid-clause-answer
returns-in-Liquid-clause-answer c = rw c.in-Liquid.is c.liquid.ensures.answer

pub returns-in-Ok-seven_locations_of_word-clause-answer : goal.returns-in-Ok-seven_locations_of_word-clause-answer
returns-in-Ok-seven_locations_of_word-clause-answer c =
    let (given, are, is) = c.in-Ok-seven_locations_of_word.ensures in
    rw c.in-LiquidAt.is
    (adds-wider _ _ c.liquid-in-LiquidAt.result _ _
    (λ said h. inr (given, are, says_liquid-given c.in-LiquidAt.text.now c.in-Ok-seven_locations_of_word.given given c.in-LiquidAt.errors.now said is (rw c.as_slice-in-LiquidAt.ensures at h)))
    c.liquid-in-LiquidAt.ensures.answer)

pub returns-in-Descriptor-clause-answer : goal.returns-in-Descriptor-clause-answer
returns-in-Descriptor-clause-answer c = rw c.in-Descriptor.is c.descriptor.ensures.answer

pub returns-in-DescriptorCheck-clause-answer : goal.returns-in-DescriptorCheck-clause-answer
returns-in-DescriptorCheck-clause-answer c = rw c.in-DescriptorCheck.is c.descriptor_check.ensures.answer

pub returns-in-DescriptorChecksum-clause-answer : goal.returns-in-DescriptorChecksum-clause-answer
returns-in-DescriptorChecksum-clause-answer c = rw c.in-DescriptorChecksum.is c.descriptor_checksum.ensures.answer
