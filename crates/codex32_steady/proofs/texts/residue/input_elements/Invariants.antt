use Rattle.std.proofs.Common.{take}
use Rattle.bech32_gf.specs.Fe32.{elements_of}
use Rattle.bech32_checksum.specs.Code.{IsResidueAfter}
use Rattle.codex32_steady.proofs.texts.residue.input_elements.Given as goal

-- the first ones were taken
abbrev pub invariant-loop-c : goal.invariant-loop-c
invariant-loop-c g l = IsResidueAfter g.Ck.MidstateRepr.PackedFe32.number g.Ck.Checksum.code l.initial.engine (take l.c-index (elements_of l.characters)) l.engine
