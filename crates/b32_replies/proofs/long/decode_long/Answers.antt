use Rattle.std.proofs.Common.{◌++◌, ◌∷◌, ◌∙◌, ℕ, List, ap, codes, refl, inl, inr}
use Rattle.std.proofs.lemmas.Result.{err_from_is_err_and}
use Rattle.bech32_hrp.specs.Hrp.{lowered}
use Rattle.bech32_hrp.specs.HrpBytes.{hrp_bytes}
use Rattle.b32_replies.specs.Hex.{hex_of}
use Rattle.b32_replies.specs.LongRequest.{code_of_long}
use Rattle.b32_replies.proofs.LongAnswers.{read-memory}
use Rattle.b32_replies.proofs.long.decode_long.Goals as goal

pub returns-in_err-hrp-clause-answer : goal.returns-in_err-hrp-clause-answer
returns-in_err-hrp-clause-answer g c =
    let p = err_from_is_err_and c.from_residual.result c.from_residual.ensures.1 in
    rw p.1 (rw p.2 (inr (record { error = c.in_err-hrp.field-0.0; is_refusal = c.in_err-hrp.ensures; spelling = refl }), refl))

pub returns-in_default-clause-answer : goal.returns-in_default-clause-answer
returns-in_default-clause-answer g c = (
  read-memory c.args.kind (code_of_long c.args.asked.0) c.args.asked.1.now (hrp_bytes c.in_ok-hrp.hrp) c.in_ok-hrp.values.items c.in_ok-hrp.ensures,
  c.in_default.ensures.items,
)

pub returns-clause-answer : goal.returns-clause-answer
returns-clause-answer g c =
    let hrp = hrp_bytes c.in_ok-hrp.hrp in
    let values = c.in_ok-hrp.values.items in (
      codes "ok " ++ (lowered hrp ++ (32 ∷ hex_of values)),
      inl (record { hrp = hrp; values = values; is_read = c.in_ok-hrp.ensures; spelling = refl }),
      c.in-Ok.ensures.items ∙ ap (λ (l : List ℕ). c.args.out.now.items ++ (codes "ok " ++ (lowered hrp ++ (32 ∷ hex_of l)))) c.as_slice.ensures.value,
    )
