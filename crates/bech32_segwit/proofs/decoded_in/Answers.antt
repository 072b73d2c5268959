use Rattle.std.proofs.Common.{sym, subst, rules}
use Rattle.bech32_hrp.specs.HrpBytes.{hrp_bytes}
use Rattle.bech32_hrp.specs.declared.Hrp.{Hrp}
use Rattle.bech32_decode.specs.Text.{HasHrp}
use Rattle.bech32_segwit.proofs.decoded_in.Goals as goal

pub returns-clause-part : goal.returns-clause-part
returns-clause-part g c =
    let read = c.in_ok-address.ensures.parts in
    subst (λ (h : Hrp). HasHrp c.args.s.now (hrp_bytes h)) (sym c.hrp.ensures) (read.data_part, read.accepted.grammar)

pub returns-clause-value : goal.returns-clause-value
returns-clause-value g c = search rules
