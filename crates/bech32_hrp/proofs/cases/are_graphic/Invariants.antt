use Rattle.std.proofs.Common.{◌≡◌, take}
use Rattle.std.specs.List.{list_all}
use Rattle.bech32_hrp.specs.Hrp.{is_graphic}
use Rattle.bech32_hrp.proofs.cases.are_graphic.Given as goal

abbrev pub invariant-loop-b : goal.invariant-loop-b
invariant-loop-b l = l.graphic ≡ list_all is_graphic (take l.b-index l.bytes)
