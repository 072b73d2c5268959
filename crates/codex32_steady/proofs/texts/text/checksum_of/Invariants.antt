use Rattle.std.proofs.Common.{take}
use Rattle.bech32_checksum.specs.Code.{IsResidueAfter}
use Rattle.codex32_steady.proofs.texts.text.checksum_of.Given as goal

-- the first ones were taken
abbrev pub invariant-loop-e : goal.invariant-loop-e
invariant-loop-e g l = IsResidueAfter g.Ck.MidstateRepr.PackedFe32.number g.Ck.Checksum.code l.initial.engine (take l.e-index l.elements) l.engine
