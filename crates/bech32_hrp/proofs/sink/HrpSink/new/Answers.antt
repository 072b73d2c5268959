use Rattle.std.proofs.lemmas.Str.{is_utf8-from_IsUtf8, IsUtf8-nil}
use Rattle.bech32_hrp.proofs.sink.HrpSink.new.Goals as goal

pub invariant_of-result : goal.invariant_of-result
invariant_of-result c = record { whole = λ _. is_utf8-from_IsUtf8 _ IsUtf8-nil }
