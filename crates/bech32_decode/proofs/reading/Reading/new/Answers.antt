use Rattle.std.proofs.Common.{◌≡◌, ◌∙◌, ℕ, List, true, false, refl, subst}
use Rattle.bech32_decode.specs.Text.{IsText, IsInGrammar}
use Rattle.bech32_decode.proofs.Grammar.{not_in_grammar, text_refusal-none}
use Rattle.bech32_decode.proofs.reading.Reading.new.Goals as goal

pub returns-in-Ok : goal.returns-in-Ok
returns-in-Ok g c =
    let r = c.in-Ok.reading in
    let text = c.args.text.now in
    let same : r.text.now ≡ text = c.in-Ok.ensures ∙ c.as_bytes.ensures.value in
    let grammar : IsInGrammar text = (r.hrp.now, r.data_part.now, subst (λ (t : List ℕ). IsText t r.hrp.now r.data_part.now) same r.is_reading.grammar) in
    record { value = same; refused = text_refusal-none text c.utf8.text grammar; accepts = (λ _. grammar, λ _. refl) }

pub returns-in-Err-Text-clause-accepts : goal.returns-in-Err-Text-clause-accepts
returns-in-Err-Text-clause-accepts g c =
    let fault = rw c.as_bytes.ensures.value at (rw c.in-Err-Text.field-0-is at c.in-Err-Text.ensures) in (
      λ ok. let no_ : false ≡ true = ok in absurd cc,
      λ grammar. absurd (not_in_grammar c.args.text.now c.in-Err-Text.e c.utf8.text fault.1 grammar),
    )
