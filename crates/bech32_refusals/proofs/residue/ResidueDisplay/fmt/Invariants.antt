use Rattle.std.proofs.Common.{map, take}
use Rattle.std.specs.Fmt.{HasWritten, IsPlainFormatter}
use Rattle.bech32_gf.specs.Alphabet.{char_of}
use Rattle.bech32_gf.specs.declared.gf32.Fe32.{Fe32}
use Rattle.bech32_refusals.specs.ResidueText.{shown}
use Rattle.bech32_refusals.proofs.residue.ResidueDisplay.fmt.Given as goal

abbrev pub invariant-loop-digit : goal.invariant-loop-digit
invariant-loop-digit g l =
    IsPlainFormatter l.initial.f
    → HasWritten g.W.Write.write_str_gives l.initial.f (map (λ (x : Fe32). char_of x.value) (take l.digit-index (shown l.self.digits))) l.f
