use Rattle.std.proofs.Common.{take}
use Rattle.std.specs.Fmt.{HasWritten, IsPlainFormatter}
use Rattle.bech32_block.specs.Block.{characters}
use Rattle.bech32_block.proofs.text.CharactersDisplay.fmt.Given as goal

abbrev pub invariant-loop-element : goal.invariant-loop-element
invariant-loop-element g l =
    IsPlainFormatter l.initial.f
    → HasWritten g.W.Write.write_str_gives l.initial.f (characters (take l.element-index l.self.0.now)) l.f
