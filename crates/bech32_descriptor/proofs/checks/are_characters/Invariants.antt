use Rattle.std.specs.Prelude.{not}
use Rattle.std.specs.List.{list_all}
use Rattle.std.proofs.Common.{◌≡◌, take}
use Rattle.bech32_descriptor.specs.Descriptor.{is_stranger}
use Rattle.bech32_descriptor.proofs.checks.are_characters.Given as goal

abbrev pub invariant-loop-b : goal.invariant-loop-b
invariant-loop-b l = l.all ≡ list_all (λ b. not (is_stranger b)) (take l.b-index l.bytes)
