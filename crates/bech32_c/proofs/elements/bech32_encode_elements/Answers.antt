use Rattle.std.specs.Prelude.{unwrap_or}
use Rattle.std.proofs.Common.{◌∙◌, ℕ, Option, Some, length, sym, ap}
use Rattle.bech32_calls.specs.Elements.{HasElementsText, IsElementsEncodeFault}
use Rattle.bech32_calls.proofs.ByNumber.{no_fault_of_texts}
use Rattle.bech32_calls.proofs.InElements.{no_elements_encode_fault, place_by, unplaced}
use Rattle.bech32_c.proofs.elements.bech32_encode_elements.Goals as goal

pub returns-in-Err-clause-accepts : goal.returns-in-Err-clause-accepts
returns-in-Err-clause-accepts c has_text =
    let hrp = c.args.hrp.now in
    let values = c.args.elements.now in
    let room = length c.args.text.now in
    absurd (no_fault_of_texts (HasElementsText hrp values room) (IsElementsEncodeFault hrp values room) c.in-Err.refusal
    (λ code. no_elements_encode_fault hrp values room code c.in-Err.refusal) c.args.checksum has_text c.in-Err.ensures.refused)

pub returns-in-Err-clause-place : goal.returns-in-Err-clause-place
returns-in-Err-clause-place c n =
    let (p, at, first) = place_by c.args.checksum c.args.hrp.now c.args.elements.now (length c.args.text.now) c.in-Err.refusal c.in-Err.ensures.refused (sym c.number.ensures.value ∙ n) in
    first ∙ ap Some (sym (c.unwrap_or.ensures ∙ ap (λ (o : Option ℕ). unwrap_or o c.args.place.now) (c.place_of_element.ensures ∙ at)))

pub returns-in-Err-clause-unplaced : goal.returns-in-Err-clause-unplaced
returns-in-Err-clause-unplaced c n =
    let none = unplaced c.in-Err.refusal (λ e. n (c.number.ensures.value ∙ e)) in
    c.unwrap_or.ensures ∙ ap (λ (o : Option ℕ). unwrap_or o c.args.place.now) (c.place_of_element.ensures ∙ none)
