use Rattle.std.proofs.Common.{◌≡◌, ◌++◌, map, take}
use Rattle.bech32_suggest.specs.Typed.{typed_character}
use Rattle.bech32_meant.proofs.added.text_of.Given as goal

abbrev pub invariant-loop-c : goal.invariant-loop-c
invariant-loop-c g l = l.text.items ≡ l.front ++ map typed_character (take l.c-index l.frame)
