use Rattle.std.proofs.Common.{inl, length, refl}
use Rattle.bech32_refusals.specs.declared.error.SegwitHrpstringError.TheVariants.{TooLong}
use Rattle.bech32_calls.specs.declared.refusal.Refusal.TheVariants.{Address, NotUtf8}
use Rattle.bech32_small.proofs.segwit.number_of_long.Goals as goal

pub returns-in-None : goal.returns-in-None
returns-in-None c m n = record { refusal = NotUtf8; holds = rw c.in-None.is at c.text_of.ensures; number = refl }

pub returns-in-Some : goal.returns-in-Some
returns-in-Some c m n =
    let (same, utf8) = rw c.in-Some.is at c.text_of.ensures in
    record { refusal = Address (TooLong (length c.args.text.now)); holds = (utf8, inl (c.requires, refl)); number = refl }
