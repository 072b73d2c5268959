use Rattle.std.proofs.Common.{◌≡◌, ◌++◌, ℕ, true, List, length}
use Rattle.bech32_gf.specs.Alphabet.{is_data}
use Rattle.bech32_gf.specs.Fe32.{elements_of}
use Rattle.bech32_checksum.specs.Code.{IsResidueAfter}
use Rattle.bech32_decode.proofs.residue.input_eights.Given as goal

abbrev pub decreases-loop-rest : goal.decreases-loop-rest
decreases-loop-rest g l = length l.rest

abbrev pub invariant-loop-rest : goal.invariant-loop-rest
invariant-loop-rest g l =
    let number = g.Ck.MidstateRepr.PackedFe32.number in
    let code = g.Ck.Checksum.code in
    record {
      of_alphabet : is_data l.rest ≡ true;
      residue : (taken : List ℕ) × (l.fn.characters ≡ taken ++ l.rest)
          × IsResidueAfter number code l.initial.engine (elements_of taken) l.engine;
    }
