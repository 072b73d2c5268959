use Rattle.std.proofs.Common.{refl, inr}
use Rattle.bech32_hrp.specs.HrpBytes.{hrp_bytes}
use Rattle.uses.proofs.callers.in_lower_case.Goals as goal

-- the text is an address, so it can only be out of memory
pub returns-in_default-clause-refused : goal.returns-in_default-clause-refused
returns-in_default-clause-refused c =
    let of = c.in_ok-hrp.ensures.value in
    inr (refl, (hrp_bytes c.in_ok-hrp.hrp, c.in_ok-hrp.version, c.in_ok-hrp.program.items, of.0, of.1))
