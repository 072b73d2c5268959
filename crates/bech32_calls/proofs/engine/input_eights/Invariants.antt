use Rattle.std.proofs.Common.{◌≡◌, ◌≤◌, ◌++◌, ℕ, List, All, length, map}
use Rattle.bech32_gf.specs.Fe32.{element}
use Rattle.bech32_checksum.specs.Code.{IsResidueAfter}
use Rattle.bech32_calls.proofs.engine.input_eights.Given as goal

abbrev pub decreases-loop-rest : goal.decreases-loop-rest
decreases-loop-rest g l = length l.rest

abbrev pub invariant-loop-rest : goal.invariant-loop-rest
invariant-loop-rest g l =
    let number = g.Ck.MidstateRepr.PackedFe32.number in
    let code = g.Ck.Checksum.code in
    record {
      elements : All (λ x. x ≤ 31) l.rest → All (λ x. x ≤ 31) l.fn.values;
      residue : (taken : List ℕ) × (l.fn.values ≡ taken ++ l.rest)
          × IsResidueAfter number code l.initial.engine (map element taken) l.engine;
    }
