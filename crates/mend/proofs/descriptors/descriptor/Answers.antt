use Rattle.std.specs.Prelude.{flat_map}
use Rattle.std.proofs.Common.{◌≢◌, ◌++◌, [], codes, refl}
use Rattle.bech32_descriptor.specs.declared.error.MendError.TheVariants.{Memory}
use Rattle.mend.specs.Reply.{IsDescriptorAnswer, said_of_mend}
use Rattle.mend.proofs.DescriptorReplies.{no-room, says-mends, says-no_mends}
use Rattle.mend.proofs.Listed.{answers-list, small-list}
use Rattle.mend.proofs.descriptors.descriptor.Goals as goal

pub returns-in-Ok-clause-answer : goal.returns-in-Ok-clause-answer
returns-in-Ok-clause-answer c =
    let text = c.args.text.now in
    let found = c.in-Ok.found.items in
    let said = codes "ok" ++ flat_map (λ m. said_of_mend m.edit m.text.items) found in
    answers-list (found ≢ []) (IsDescriptorAnswer text) said c.args.out.now.items c.append_found.new.out.items c.append_found.result
    (rw c.as_slice.ensures.value at c.append_found.ensures.items) (rw c.as_slice.ensures.value at c.append_found.ensures.memory)
    (says-mends (λ m. (m.edit, m.text.items)) text found said (rw c.as_bytes.ensures.value at c.in-Ok.ensures) refl)
    (λ some. says-no_mends text Memory (no-room (λ m. (m.edit, m.text.items)) text found (rw c.as_bytes.ensures.value at c.in-Ok.ensures) some))

pub returns-in-Ok-clause-small : goal.returns-in-Ok-clause-small
returns-in-Ok-clause-small c = small-list _ c.append_found.result c.append_found.ensures.memory

pub returns-in-Err-clause-answer : goal.returns-in-Err-clause-answer
returns-in-Err-clause-answer c =
    rw c.mend_error_number.ensures.value (says-no_mends c.args.text.now c.in-Err.e (rw c.as_bytes.ensures.value at c.in-Err.ensures), refl)
