use Rattle.std.proofs.Common.{◌≡◌, true, false}
use Rattle.bech32_correction.proofs.corrector.Corrector.bch_errors.Goals as goal

pub returns-in-Some-clause-lawful : goal.returns-in-Some-clause-lawful
returns-in-Some-clause-lawful g c = c.self.invariant.3.0

pub returns-in-None-clause-lawful : goal.returns-in-None-clause-lawful
returns-in-None-clause-lawful g c = c.self.invariant.3.0

pub returns-in_err-items-clause-lawful : goal.returns-in_err-items-clause-lawful
returns-in_err-items-clause-lawful g c = c.self.invariant.3.0

refused : {P : Type 0} → false ≡ true → P
refused h = absurd (cc h)

pub returns-in_err-items-clause-in_place : goal.returns-in_err-items-clause-in_place
returns-in_err-items-clause-in_place g c = λ few. refused (c.in_err-items.ensures.in_place few)
