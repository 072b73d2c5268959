use Rattle.std.specs.Prelude.{string_bytes}
use Rattle.std.proofs.Common.{map}
use Rattle.bech32_decode.specs.Text.{IsText}
use Rattle.bech32_hrp.specs.HrpBytes.{hrp_bytes}
use Rattle.bech32_suggest.specs.Typed.{as_read}
use Rattle.bech32_suggest.proofs.Adding.{suggested}
use Rattle.bech32_suggest.proofs.suggestions.suggest_for_reading.Goals as goal

pub found_for-requires-clause-text : goal.found_for-requires-clause-text
found_for-requires-clause-text g c = (rw c.in-Some.is at c.requires).1

pub found_for-requires-clause-short : goal.found_for-requires-clause-short
found_for-requires-clause-short g c = (rw c.in-Some.is at c.requires).0

pub returns-in-Some : goal.returns-in-Some
returns-in-Some g c =
    let typed = c.args.typed.now in
    let r = c.in-Some.reading in
    let read = rw c.in-Some.is at c.requires in
    let grammar : IsText (as_read typed) r.hrp.now r.data_part.now = rw read.1 at r.is_reading.grammar in
    suggested typed (hrp_bytes c.args.hrp.now) r.hrp.now r.data_part.now (λ v. map (λ s. (string_bytes s.text, (s.mending, s.place))) v.items) c.found_for.result read.0 grammar c.found_for.ensures
