use Rattle.std.proofs.Common.{◌≡◌, ◌++◌, take, drop}
use Rattle.bech32_suggest.specs.Typed.{as_read}
use Rattle.bech32_suggest.proofs.typed.put_read.Given as goal

-- the first ones are read
abbrev pub invariant-loop-i : goal.invariant-loop-i
invariant-loop-i l = l.buffer ≡ as_read (take l.i l.typed) ++ drop l.i l.initial.buffer
