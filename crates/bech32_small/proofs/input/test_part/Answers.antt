use Rattle.std.proofs.Common.{refl}
use Rattle.bech32_calls.specs.declared.refusal.Refusal.TheVariants.{Hrp, NotUtf8}
use Rattle.bech32_small.proofs.input.test_part.Goals as goal

pub returns-in_default : goal.returns-in_default
returns-in_default c = record { refusal = NotUtf8; holds = rw c.in_default.is at c.text_of.ensures; number = refl }

pub returns-in-Err : goal.returns-in-Err
returns-in-Err c =
    let (same, utf8) = rw c.in-Some.is at c.text_of.ensures in
    record { refusal = Hrp c.in-Err.e; holds = (utf8, rw same at c.in-Err.ensures.outcome); number = c.number.ensures.value }
