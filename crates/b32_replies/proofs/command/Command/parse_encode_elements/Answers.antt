use Rattle.std.proofs.Common.{◌∷◌, List, ℕ, refl, ap, ◌∙◌}
use Rattle.b32_replies.specs.Request.{encode_elements_arguments, encode_elements_request}
use Rattle.b32_replies.proofs.ElementsSplit.{no-third}
use Rattle.b32_replies.proofs.command.Command.parse_encode_elements.Goals as goal

pub returns-in_err-hex : goal.returns-in_err-hex
returns-in_err-hex c =
    rw c.from_residual-in_err-hex.ensures
    (ap encode_elements_arguments (c.in_ok-name.ensures.0 ∙ ap (λ (l : List (List ℕ)). c.in_ok-name.name.now ∷ l) c.in_ok-hrp.ensures.0)
    ∙ no-third encode_elements_request c.in_ok-hrp.hex.now c.in_ok-name.name.now c.in_ok-hrp.hrp.now (λ x y more. refl) c.in_err-hex.ensures)
