use Rattle.std.proofs.Common.{◌≡◌, ◌++◌, ℕ, List, Some, ◌∷◌, inr, refl, sym, ap, subst, ◌∙◌}
use Rattle.std.specs.Fmt.{decimal}
use Rattle.bech32_calls.specs.Place.{HasPlace, IsPlace}
use Rattle.bech32_numbers.specs.Numbers.{number_of_checked_error}
use Rattle.b32_replies.specs.Request.{code_of_name}
use Rattle.line_program.specs.Refused.{err}
use Rattle.line_program.proofs.Pieces.{two-pieces}
use Rattle.mend.proofs.Faults.{has-place, stands}
use Rattle.mend.proofs.fault.fault.Goals as goal

pub unreachable-requires : goal.unreachable-requires
unreachable-requires c =
    let text = c.args.text.now in
    let number : c.from.result ≡ number_of_checked_error c.in-Err.refusal = c.from.ensures ∙ c.checked_error_number-number.ensures.value in
    let (p, is) = stands text c.args.checksum c.in-Err.refusal c.utf8.text c.in-Err.ensures in
    let has : HasPlace c.from.result = subst HasPlace (sym number) (has-place text (code_of_name c.args.checksum) c.in-Err.refusal c.in-Err.ensures) in
    let here : IsPlace text c.from.result p = subst (λ (n : ℕ). IsPlace text n p) (sym number) is in
    c.in_default-place_of.not-Some p (c.place_of.ensures.place has p (subst (λ (t : List ℕ). IsPlace t c.from.result p) (sym c.as_bytes.ensures.value) here))

pub returns-clause-answer : goal.returns-clause-answer
returns-clause-answer c =
    let text = c.args.text.now in
    let out = c.args.out.now.items in
    let n = number_of_checked_error c.in-Err.refusal in
    let behind = 32 ∷ decimal c.in-Some.place in
    let number : c.from.result ≡ n = c.from.ensures ∙ c.checked_error_number-number.ensures.value in
    let (p, is) = stands text c.args.checksum c.in-Err.refusal c.utf8.text c.in-Err.ensures in
    let has : HasPlace c.from.result = subst HasPlace (sym number) (has-place text (code_of_name c.args.checksum) c.in-Err.refusal c.in-Err.ensures) in
    let here : IsPlace text c.from.result p = subst (λ (k : ℕ). IsPlace text k p) (sym number) is in
    let at : c.place_of.result ≡ Some p = c.place_of.ensures.place has p (subst (λ (t : List ℕ). IsPlace t c.from.result p) (sym c.as_bytes.ensures.value) here) in
    let same : p ≡ c.in-Some.place = cc (at, c.in-Some.is) in
    let first : c.append_refusal.new.out.items ≡ out ++ err n = c.append_refusal.ensures.items ∙ ap (λ (k : ℕ). out ++ err k) c.checked_error_number-number.ensures.value in (
      err n ++ behind,
      inr (record { error = c.in-Err.refusal; is_refusal = c.in-Err.ensures; place = c.in-Some.place; is_place = subst (λ (k : ℕ). IsPlace text n k) same is; spelling = refl }),
      two-pieces out (err n) behind _ _ first c.append_place.ensures.items,
    )
