use Rattle.std.proofs.Common.{◌∙◌, ℕ, List, ap, sym, subst}
use Rattle.bech32_hrp.specs.HrpBytes.{hrp_bytes}
use Rattle.bech32_decode.specs.Acceptance.{IsDecoded}
use Rattle.bech32.proofs.decoded_in.Goals as goal

pub returns-clause-value : goal.returns-clause-value
returns-clause-value g c =
    subst (λ (h : List ℕ). IsDecoded c.args.s.now h c.in_ok-bytes.bytes.items) (sym (ap hrp_bytes c.hrp.ensures))
    (subst (IsDecoded c.args.s.now (hrp_bytes c.in_ok-checked.checked.hrp)) (sym c.in_ok-bytes.ensures) c.in_ok-checked.ensures)
