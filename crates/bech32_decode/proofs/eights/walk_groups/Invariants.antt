use Rattle.std.proofs.Common.{◌≡◌, ◌+◌, ◌*◌, ◌^◌, take}
use Rattle.bech32_gf.specs.Fe32.{elements_of}
use Rattle.bech32_checksum.specs.Code.{IsResidueAfter}
use Rattle.bech32_decode.specs.Cases.{lower_count, upper_count}
use Rattle.bech32_decode.proofs.eights.walk_groups.Given as goal

abbrev pub invariant-loop-group : goal.invariant-loop-group
invariant-loop-group g l =
    let number = g.Ck.MidstateRepr.PackedFe32.number in
    let code = g.Ck.Checksum.code in
    let taken = take (l.group * 8) l.characters in
    record {
      after : IsResidueAfter number code l.initial.engine (elements_of taken) l.engine;
      cases : l.cases ≡ lower_count taken + 2 ^ 12 * upper_count taken;
    }
