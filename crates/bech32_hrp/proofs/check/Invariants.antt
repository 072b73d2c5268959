use Rattle.std.specs.Str.Iter.{chars_rest}
use Rattle.bech32_hrp.proofs.HrpScan.{Scanned}
use Rattle.bech32_hrp.proofs.check.Given as goal

abbrev pub invariant-characters : goal.invariant-characters
invariant-characters l = Scanned l.text (chars_rest l.c-iterator) l.has_lower l.has_upper
