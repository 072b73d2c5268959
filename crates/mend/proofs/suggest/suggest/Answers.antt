use Rattle.std.specs.Prelude.{flat_map, string_bytes}
use Rattle.std.proofs.Common.{◌≢◌, ◌++◌, [], codes, refl}
use Rattle.bech32_near.specs.declared.edits.error.EditsError.TheVariants.{Memory}
use Rattle.mend.specs.Reply.{IsSuggestAnswer, said_of_suggestion}
use Rattle.mend.proofs.Listed.{answers-list, small-list}
use Rattle.mend.proofs.Suggested.{no-room, says-no_suggestions, says-suggested, says-suggestions}
use Rattle.mend.proofs.suggest.suggest.Goals as goal

pub returns-in-Ok-suggest-clause-answer : goal.returns-in-Ok-suggest-clause-answer
returns-in-Ok-suggest-clause-answer c =
    let text = c.args.text.now in
    let found = c.in-Ok-suggest.found.items in
    let said = codes "ok" ++ flat_map (λ s. said_of_suggestion (string_bytes s.text, (s.mending, s.place))) found in
    answers-list (found ≢ []) (IsSuggestAnswer c.args.part.now text) said c.args.out.now.items c.append_found.new.out.items c.append_found.result
    (rw c.as_slice.ensures.value at c.append_found.ensures.items) (rw c.as_slice.ensures.value at c.append_found.ensures.memory)
    (says-suggested c.args.part.now text _ c.in-Ok.ensures.outcome (says-suggestions _ _ text found said c.in-Ok-suggest.ensures refl))
    (λ some. says-suggested c.args.part.now text _ c.in-Ok.ensures.outcome (says-no_suggestions _ text Memory (no-room _ _ text found c.in-Ok-suggest.ensures some)))

pub returns-in-Ok-suggest-clause-small : goal.returns-in-Ok-suggest-clause-small
returns-in-Ok-suggest-clause-small c = small-list _ c.append_found.result c.append_found.ensures.memory

pub returns-in-Err-suggest-clause-answer : goal.returns-in-Err-suggest-clause-answer
returns-in-Err-suggest-clause-answer c =
    rw c.edits_error_number.ensures.value
    (says-suggested c.args.part.now c.args.text.now _ c.in-Ok.ensures.outcome (says-no_suggestions _ c.args.text.now c.in-Err-suggest.e c.in-Err-suggest.ensures), refl)
