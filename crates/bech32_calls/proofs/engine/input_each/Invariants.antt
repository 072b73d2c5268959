use Rattle.std.proofs.Common.{◌≤◌, All, map, take}
use Rattle.bech32_gf.specs.Fe32.{element}
use Rattle.bech32_checksum.specs.Code.{IsResidueAfter}
use Rattle.bech32_calls.proofs.engine.input_each.Given as goal

abbrev pub invariant-loop-value : goal.invariant-loop-value
invariant-loop-value g l =
    let taken = take l.value-index l.values in
    record {
      elements : All (λ x. x ≤ 31) taken;
      residue : IsResidueAfter g.Ck.MidstateRepr.PackedFe32.number g.Ck.Checksum.code
          l.initial.engine (map element taken) l.engine;
    }
