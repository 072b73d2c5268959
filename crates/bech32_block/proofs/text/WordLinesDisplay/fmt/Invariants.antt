use Rattle.std.proofs.Common.{take}
use Rattle.std.specs.List.{flat_map}
use Rattle.std.specs.Fmt.{HasWritten, IsPlainFormatter}
use Rattle.bech32_block.specs.Block.{word_line}
use Rattle.bech32_block.proofs.text.WordLinesDisplay.fmt.Given as goal

abbrev pub invariant-loop-word : goal.invariant-loop-word
invariant-loop-word g l =
    IsPlainFormatter l.initial.f
    → HasWritten g.W.Write.write_str_gives l.initial.f (flat_map (word_line l.self.digits) (take l.word-index l.self.words.now)) l.f
