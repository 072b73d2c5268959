use Rattle.std.specs.Prelude.{flat_map, string_bytes}
use Rattle.std.proofs.Common.{◌≢◌, ◌++◌, [], codes, refl}
use Rattle.bech32_near.specs.declared.edits.error.EditsError.TheVariants.{Memory}
use Rattle.b32_replies.specs.Request.{code_of_name}
use Rattle.mend.specs.Reply.{IsEditsAnswer, said_of_edit}
use Rattle.mend.proofs.Listed.{answers-list, small-list}
use Rattle.mend.proofs.Replies.{no-room, says-edits, says-no_edits}
use Rattle.mend.proofs.edits.edits.Goals as goal

pub returns-in-Ok-clause-answer : goal.returns-in-Ok-clause-answer
returns-in-Ok-clause-answer c =
    let code = code_of_name c.args.checksum in
    let text = c.args.text.now in
    let found = c.in-Ok.found.items in
    let said = codes "ok" ++ flat_map (λ m. said_of_edit m.edit (string_bytes m.text)) found in
    answers-list (found ≢ []) (IsEditsAnswer code text) said c.args.out.now.items c.append_found.new.out.items c.append_found.result
    (rw c.as_slice.ensures.value at c.append_found.ensures.items) (rw c.as_slice.ensures.value at c.append_found.ensures.memory)
    (says-edits _ code text found said c.in-Ok.ensures refl)
    (λ some. says-no_edits code text Memory (no-room _ code text found c.in-Ok.ensures some))

pub returns-in-Ok-clause-small : goal.returns-in-Ok-clause-small
returns-in-Ok-clause-small c = small-list _ c.append_found.result c.append_found.ensures.memory

pub returns-in-Err-clause-answer : goal.returns-in-Err-clause-answer
returns-in-Err-clause-answer c = rw c.edits_error_number.ensures.value (says-no_edits (code_of_name c.args.checksum) c.args.text.now c.in-Err.e c.in-Err.ensures, refl)
