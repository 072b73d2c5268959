use Rattle.std.proofs.Common.{ℕ, List, [], ◌∷◌, ◌++◌, ap, ◌∙◌, codes}
use Rattle.bech32_hrp.specs.Hrp.{lowered}
use Rattle.bech32_hrp.specs.HrpBytes.{hrp_bytes}
use Rattle.line_program.proofs.Pieces.{three-pieces}
use Rattle.b32_replies.proofs.append.append_part.Goals as goal

pub returns-clause-items : goal.returns-clause-items
returns-clause-items c =
    let part_is = c.append_lowered.ensures.items ∙ ap (λ (t : List ℕ). c.append.new.out.items ++ lowered t) c.as_bytes.ensures in
    three-pieces c.args.out.now.items (codes "ok ") (lowered (hrp_bytes c.args.hrp.now)) (32 ∷ []) _ _ _ c.append.ensures.items part_is c.append-2.ensures.items
